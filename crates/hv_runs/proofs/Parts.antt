-- What is tested of each part, by the part's variant, as code meets it.
use Rattle.std.proofs.Common.{◌≡◌, ℕ, suc, Bool, true, false, ◌&&◌, List, [], ◌∷◌, map, Option, Some, None, refl, sym, ap, ◌∙◌, ◌+◌, ◌-◌, ◌<◌, arith, add-one, length, drop, drop-cons, get_or}
use Rattle.hv_tree.specs.declared.place.Place.{Place}
use Rattle.hv_tree.specs.declared.types.Name.{Name}
use Rattle.hv_tree.specs.declared.types.Conv.{Conv}
use Rattle.hv_tree.specs.declared.types.Ty.{Ty, out-Ty}
use Rattle.hv_tree.specs.declared.types.Ty.TheOpen.{Ty-F}
use Rattle.hv_tree.specs.declared.ast.Arg.{Arg, out-Arg}
use Rattle.hv_tree.specs.declared.ast.Block.{Block, out-Block}
use Rattle.hv_tree.specs.declared.ast.Branch.{Branch, out-Branch}
use Rattle.hv_tree.specs.declared.ast.Call.{Call, out-Call}
use Rattle.hv_tree.specs.declared.ast.Expr.{Expr, out-Expr}
use Rattle.hv_tree.specs.declared.ast.ExprKind.{ExprKind, out-ExprKind}
use Rattle.hv_tree.specs.declared.ast.PlaceExpr.{PlaceExpr, out-PlaceExpr}
use Rattle.hv_tree.specs.declared.ast.Step.{Step, out-Step}
use Rattle.hv_tree.specs.declared.ast.Stmt.{Stmt, out-Stmt}
use Rattle.hv_tree.specs.declared.ast.StmtKind.{StmtKind, out-StmtKind}
use Rattle.hv_tree.specs.declared.ast.Arg.TheOpen.{Arg-F, ExprKind-F, Step-F, StmtKind-F}
use Rattle.hv_tree.specs.Core as core
use Rattle.hv_tree.proofs.CoreLemmas as lemmas
use Rattle.hv_law_safe.specs.Runs as ends
use Rattle.hv_runs.specs.Walked as spec
use Rattle.hv_runs.specs.Parts as parts

-- ---- tests

and_assoc : (a b c : Bool) → ((a && b) && c) ≡ (a && (b && c))
and_assoc true b c = refl
and_assoc false b c = refl

and_true : (a : Bool) → (a && true) ≡ a
and_true true = refl
and_true false = refl

-- the part at i stands first among those from i on
first_left : {A : Type 0} (xs : List A) (i : ℕ) (x : A) → i < length xs → x ≡ get_or xs i x → drop i xs ≡ x ∷ drop (i + 1) xs
first_left xs i x within is = drop-cons xs i x within ∙ ap (λ y. y ∷ drop (suc i) xs) (sym is) ∙ ap (λ n. x ∷ drop n xs) (sym (add-one i))

-- ---- types

unfoldable pub ty_by : Ty-F Ty → Bool
ty_by (Ty-F.Int at) = true
ty_by (Ty-F.Bool at) = true
ty_by (Ty-F.Named name) = true
ty_by (Ty-F.Array at element) = spec.ty_reads (core.core_ty element)
ty_by (Ty-F.Fun at params result) = parts.pairs_read params && spec.option_ty_reads (core.core_option_ty result)

pairs_same : (params : List (Conv × Ty)) → spec.tys_read (core.core_tys_of (map (λ (x : Conv × Ty). (x.0, core.core_ty x.1)) params)) ≡ parts.pairs_read params
pairs_same [] = refl
pairs_same (x ∷ xs) = ap (λ b. parts.pair_reads x && b) (pairs_same xs)

by_ty : (t : Ty) (u : Ty-F Ty) → out-Ty t ≡ u → spec.ty_reads (core.core_ty t) ≡ ty_by u
unfolding ty_by
by_ty t (Ty-F.Int at) e = ap spec.ty_reads (lemmas.written_int t at e)
by_ty t (Ty-F.Bool at) e = ap spec.ty_reads (lemmas.written_bool t at e)
by_ty t (Ty-F.Named name) e = ap spec.ty_reads (lemmas.written_named t name e)
by_ty t (Ty-F.Array at element) e = ap spec.ty_reads (lemmas.written_array t at element e)
by_ty t (Ty-F.Fun at params None) e = ap spec.ty_reads (lemmas.written_fun t at params e) ∙ pairs_same params ∙ sym (and_true (parts.pairs_read params))
by_ty t (Ty-F.Fun at params (Some r)) e = ap spec.ty_reads (lemmas.written_fun_to t at params r e) ∙ ap (λ b. b && spec.ty_reads (core.core_ty r)) (pairs_same params)

pub ty_opened : (t : Ty) → spec.ty_reads (core.core_ty t) ≡ ty_by (out-Ty t)
ty_opened t = by_ty t (out-Ty t) refl

-- ---- expressions

unfoldable pub expr_by : ExprKind-F Arg ExprKind Step StmtKind Block Branch Call Expr PlaceExpr Stmt → Bool
expr_by (ExprKind-F.Int z) = true
expr_by (ExprKind-F.Bool b) = true
expr_by (ExprKind-F.Path place) = parts.place_runs place
expr_by (ExprKind-F.ExprKind::Call call) = parts.call_runs call
expr_by (ExprKind-F.ExprKind::Await handle) = false
expr_by (ExprKind-F.ArrayLit xs) = parts.exprs_run xs
expr_by (ExprKind-F.Filled len value) = parts.expr_runs len && parts.expr_runs value
expr_by (ExprKind-F.Count place) = parts.place_runs place
expr_by (ExprKind-F.Lambda captures params result body) = spec.body_runs (map core.core_param params) (core.core_option_ty result) (core.core_block body)
expr_by (ExprKind-F.Prefix o x) = parts.expr_runs x
expr_by (ExprKind-F.Chain first links) = parts.expr_runs first && parts.links_run links

by_kind : (k : ExprKind) (at : Place) (u : ExprKind-F Arg ExprKind Step StmtKind Block Branch Call Expr PlaceExpr Stmt) → out-ExprKind k ≡ u → spec.expr_runs (core.core_kind k at) ≡ expr_by u
unfolding expr_by
by_kind k at (ExprKind-F.Int z) e = ap spec.expr_runs (lemmas.kind_int k at z e)
by_kind k at (ExprKind-F.Bool b) e = ap spec.expr_runs (lemmas.kind_bool k at b e)
by_kind k at (ExprKind-F.Path place) e = ap spec.expr_runs (lemmas.kind_path k at place e)
by_kind k at (ExprKind-F.ExprKind::Call call) e = ap spec.expr_runs (lemmas.kind_call k at call e)
by_kind k at (ExprKind-F.ExprKind::Await handle) e = ap spec.expr_runs (lemmas.kind_await k at handle e)
by_kind k at (ExprKind-F.ArrayLit xs) e = ap spec.expr_runs (lemmas.kind_array_lit k at xs e)
by_kind k at (ExprKind-F.Filled len value) e = ap spec.expr_runs (lemmas.kind_filled k at len value e)
by_kind k at (ExprKind-F.Count place) e = ap spec.expr_runs (lemmas.kind_count k at place e)
by_kind k at (ExprKind-F.Lambda captures params result body) e = ap spec.expr_runs (lemmas.kind_lambda k at captures params result body e)
by_kind k at (ExprKind-F.Prefix o x) e = ap spec.expr_runs (lemmas.kind_prefix k at o x e)
by_kind k at (ExprKind-F.Chain first links) e = ap spec.expr_runs (lemmas.kind_chain k at first links e)

pub expr_opened : (x : Expr) → parts.expr_runs x ≡ expr_by (out-ExprKind (out-Expr x).kind)
expr_opened x = ap spec.expr_runs (lemmas.opened_expr x) ∙ by_kind (out-Expr x).kind (out-Expr x).place (out-ExprKind (out-Expr x).kind) refl

pub place_opened : (place : PlaceExpr) → parts.place_runs place ≡ parts.steps_run (out-PlaceExpr place).steps
place_opened place = ap (λ (q : Name × core.CoreSteps). spec.steps_run q.1) (lemmas.opened_place place)

unfoldable pub step_by : Step-F Arg ExprKind Step StmtKind Block Branch Call Expr PlaceExpr Stmt → Bool
step_by (Step-F.Field name) = true
step_by (Step-F.Index at x) = parts.expr_runs x

by_step : (s : Step) (rest : core.CoreSteps) (u : Step-F Arg ExprKind Step StmtKind Block Branch Call Expr PlaceExpr Stmt) → out-Step s ≡ u → spec.steps_run (core.core_step s rest) ≡ (step_by u && spec.steps_run rest)
unfolding step_by
by_step s rest (Step-F.Field name) e = ap spec.steps_run (lemmas.by_field s rest name e)
by_step s rest (Step-F.Index at x) e = ap spec.steps_run (lemmas.by_index s rest at x e)

pub step_opened : (s : Step) → parts.step_runs s ≡ step_by (out-Step s)
step_opened s = by_step s core.NoSteps (out-Step s) refl ∙ and_true (step_by (out-Step s))

steps_split : (s : Step) (rest : core.CoreSteps) → spec.steps_run (core.core_step s rest) ≡ (parts.step_runs s && spec.steps_run rest)
steps_split s rest = by_step s rest (out-Step s) refl ∙ ap (λ b. b && spec.steps_run rest) (sym (step_opened s))

pub call_opened : (c : Call) → parts.call_runs c ≡ (parts.place_runs (out-Call c).callee && parts.args_run (out-Call c).args)
call_opened c = ap spec.call_runs (lemmas.opened_call c)

unfoldable pub arg_by : Arg-F Arg ExprKind Step StmtKind Block Branch Call Expr PlaceExpr Stmt → Bool
arg_by (Arg-F.Value x) = parts.expr_runs x
arg_by (Arg-F.Ref at place) = parts.place_runs place

by_arg : (a : Arg) (rest : core.CoreArgs) (u : Arg-F Arg ExprKind Step StmtKind Block Branch Call Expr PlaceExpr Stmt) → out-Arg a ≡ u → spec.args_run (core.core_arg a rest) ≡ (arg_by u && spec.args_run rest)
unfolding arg_by
by_arg a rest (Arg-F.Value x) e = ap spec.args_run (lemmas.by_value a rest x e)
by_arg a rest (Arg-F.Ref at place) e = ap spec.args_run (lemmas.by_ref a rest at place e)

pub arg_opened : (a : Arg) → parts.arg_runs a ≡ arg_by (out-Arg a)
arg_opened a = by_arg a core.NoArgs (out-Arg a) refl ∙ and_true (arg_by (out-Arg a))

args_split : (a : Arg) (rest : core.CoreArgs) → spec.args_run (core.core_arg a rest) ≡ (parts.arg_runs a && spec.args_run rest)
args_split a rest = by_arg a rest (out-Arg a) refl ∙ ap (λ b. b && spec.args_run rest) (sym (arg_opened a))

-- ---- statements

pub block_opened : (b : Block) → parts.block_runs b ≡ parts.stmts_run (out-Block b).stmts
block_opened b = ap spec.block_runs (lemmas.opened_block b)

branches_split : (b : Branch) (rest : core.CoreBranches) → spec.branches_run (core.core_branch b rest) ≡ (parts.branch_runs b && spec.branches_run rest)
branches_split b rest = ap spec.branches_run (lemmas.opened_branch b rest) ∙ sym (and_assoc (parts.expr_runs (out-Branch b).test) (parts.block_runs (out-Branch b).body) (spec.branches_run rest))

branches_else : (branches : List Branch) (otherwise : Option Block) → spec.branches_run (core.core_branches branches otherwise) ≡ (parts.branches_run branches && parts.option_block_runs otherwise)
branches_else [] None = refl
branches_else [] (Some b) = refl
branches_else (b ∷ more) otherwise =
    let first = parts.branch_runs b in
    branches_split b (core.core_branches more otherwise)
    ∙ ap (λ r. first && r) (branches_else more otherwise)
    ∙ sym (and_assoc first (parts.branches_run more) (parts.option_block_runs otherwise))
    ∙ ap (λ r. r && parts.option_block_runs otherwise) (sym (branches_split b (core.core_branches more None)))

unfoldable pub stmt_by : StmtKind-F Arg ExprKind Step StmtKind Block Branch Call Expr PlaceExpr Stmt → Bool
stmt_by (StmtKind-F.Var name t value) = spec.ty_reads (core.core_ty t) && parts.value_runs value
stmt_by (StmtKind-F.Let name t value) = spec.ty_reads (core.core_ty t) && parts.expr_runs value
stmt_by (StmtKind-F.Inout name t place) = false
stmt_by (StmtKind-F.Assign place value) = parts.place_runs place && parts.expr_runs value
stmt_by (StmtKind-F.If branches otherwise) = parts.branches_run branches && parts.option_block_runs otherwise
stmt_by (StmtKind-F.While test body) = parts.expr_runs test && parts.block_runs body
stmt_by (StmtKind-F.Return value) = parts.option_expr_runs value
stmt_by (StmtKind-F.Print value) = parts.expr_runs value
stmt_by (StmtKind-F.Task handle t spawn budget call) = false
stmt_by (StmtKind-F.StmtKind::Await handle) = false
stmt_by (StmtKind-F.StmtKind::Call call) = parts.call_runs call
stmt_by (StmtKind-F.Block b) = parts.block_runs b

never : (b : Bool) → false ≡ (b && false)
never true = refl
never false = refl

by_stmt : (k : StmtKind) (at : Place) (u : StmtKind-F Arg ExprKind Step StmtKind Block Branch Call Expr PlaceExpr Stmt) → out-StmtKind k ≡ u → spec.stmt_runs (core.core_stmt_kind k at) ≡ stmt_by u
unfolding stmt_by
by_stmt k at (StmtKind-F.Var name t None) e = ap spec.stmt_runs (lemmas.alone_var k at name t e) ∙ never (spec.ty_reads (core.core_ty t))
by_stmt k at (StmtKind-F.Var name t (Some x)) e = ap spec.stmt_runs (lemmas.alone_var_with k at name t x e)
by_stmt k at (StmtKind-F.Let name t x) e = ap spec.stmt_runs (lemmas.alone_let k at name t x e)
by_stmt k at (StmtKind-F.Inout name t place) e = ap spec.stmt_runs (lemmas.alone_inout k at name t place e)
by_stmt k at (StmtKind-F.Assign place x) e = ap spec.stmt_runs (lemmas.alone_assign k at place x e)
by_stmt k at (StmtKind-F.If branches otherwise) e = ap spec.stmt_runs (lemmas.alone_if k at branches otherwise e) ∙ branches_else branches otherwise
by_stmt k at (StmtKind-F.While test body) e = ap spec.stmt_runs (lemmas.alone_while k at test body e)
by_stmt k at (StmtKind-F.Return None) e = ap spec.stmt_runs (lemmas.alone_return k at e)
by_stmt k at (StmtKind-F.Return (Some x)) e = ap spec.stmt_runs (lemmas.alone_return_with k at x e)
by_stmt k at (StmtKind-F.Print x) e = ap spec.stmt_runs (lemmas.alone_print k at x e)
by_stmt k at (StmtKind-F.Task handle t spawn budget c) e = ap spec.stmt_runs (lemmas.alone_task k at handle t spawn budget c e)
by_stmt k at (StmtKind-F.StmtKind::Await handle) e = ap spec.stmt_runs (lemmas.alone_await k at handle e)
by_stmt k at (StmtKind-F.StmtKind::Call c) e = ap spec.stmt_runs (lemmas.alone_call k at c e)
by_stmt k at (StmtKind-F.Block b) e = ap spec.stmt_runs (lemmas.alone_block k at b e)

pub stmt_opened : (s : Stmt) → parts.stmt_runs s ≡ stmt_by (out-StmtKind (out-Stmt s).kind)
stmt_opened s = ap spec.stmt_runs (lemmas.opened_stmt s) ∙ by_stmt (out-Stmt s).kind (out-Stmt s).place (out-StmtKind (out-Stmt s).kind) refl

-- ---- the end of a body

unfoldable pub gives_back_by : StmtKind-F Arg ExprKind Step StmtKind Block Branch Call Expr PlaceExpr Stmt → Bool
gives_back_by (StmtKind-F.Return (Some x)) = true
gives_back_by _ = false

by_last : (k : StmtKind) (at : Place) (u : StmtKind-F Arg ExprKind Step StmtKind Block Branch Call Expr PlaceExpr Stmt) → out-StmtKind k ≡ u → ends.gives_back (core.core_stmt_kind k at) ≡ gives_back_by u
unfolding gives_back_by
by_last k at (StmtKind-F.Var name t None) e = ap ends.gives_back (lemmas.alone_var k at name t e)
by_last k at (StmtKind-F.Var name t (Some x)) e = ap ends.gives_back (lemmas.alone_var_with k at name t x e)
by_last k at (StmtKind-F.Let name t x) e = ap ends.gives_back (lemmas.alone_let k at name t x e)
by_last k at (StmtKind-F.Inout name t place) e = ap ends.gives_back (lemmas.alone_inout k at name t place e)
by_last k at (StmtKind-F.Assign place x) e = ap ends.gives_back (lemmas.alone_assign k at place x e)
by_last k at (StmtKind-F.If branches otherwise) e = ap ends.gives_back (lemmas.alone_if k at branches otherwise e)
by_last k at (StmtKind-F.While test body) e = ap ends.gives_back (lemmas.alone_while k at test body e)
by_last k at (StmtKind-F.Return None) e = ap ends.gives_back (lemmas.alone_return k at e)
by_last k at (StmtKind-F.Return (Some x)) e = ap ends.gives_back (lemmas.alone_return_with k at x e)
by_last k at (StmtKind-F.Print x) e = ap ends.gives_back (lemmas.alone_print k at x e)
by_last k at (StmtKind-F.Task handle t spawn budget c) e = ap ends.gives_back (lemmas.alone_task k at handle t spawn budget c e)
by_last k at (StmtKind-F.StmtKind::Await handle) e = ap ends.gives_back (lemmas.alone_await k at handle e)
by_last k at (StmtKind-F.StmtKind::Call c) e = ap ends.gives_back (lemmas.alone_call k at c e)
by_last k at (StmtKind-F.Block b) e = ap ends.gives_back (lemmas.alone_block k at b e)

pub gives_back_opened : (s : Stmt) → ends.gives_back (core.core_stmt s) ≡ gives_back_by (out-StmtKind (out-Stmt s).kind)
gives_back_opened s = ap ends.gives_back (lemmas.opened_stmt s) ∙ by_last (out-Stmt s).kind (out-Stmt s).place (out-StmtKind (out-Stmt s).kind) refl

pub last_decides : (stmts : List Stmt) (s : Stmt) → 0 < length stmts → s ≡ get_or stmts (length stmts - 1) s → ends.ends_in_return (core.core_stmts stmts) ≡ ends.gives_back (core.core_stmt s)
last_decides [] s h is = absurd (omega arith)
last_decides (x ∷ []) s h is = ap (λ y. ends.gives_back (core.core_stmt y)) (sym is)
last_decides (x ∷ (y ∷ rest)) s h is =
    let here : suc (suc (length rest)) - 1 ≡ suc (length rest) = omega arith in
    let there : suc (length rest) - 1 ≡ length rest = omega arith in
    last_decides (y ∷ rest) s (omega arith) (is ∙ ap (λ n. get_or (x ∷ (y ∷ rest)) n s) here ∙ ap (λ n. get_or (y ∷ rest) n s) (sym there))

-- ---- one more turn of a loop

pub steps_next : (steps : List Step) (i : ℕ) (s : Step) → i < length steps → s ≡ get_or steps i s → parts.steps_run (drop i steps) ≡ (parts.step_runs s && parts.steps_run (drop (i + 1) steps))
steps_next steps i s within is = ap parts.steps_run (first_left steps i s within is) ∙ steps_split s (core.core_steps (drop (i + 1) steps))

pub args_next : (args : List Arg) (i : ℕ) (a : Arg) → i < length args → a ≡ get_or args i a → parts.args_run (drop i args) ≡ (parts.arg_runs a && parts.args_run (drop (i + 1) args))
args_next args i a within is = ap parts.args_run (first_left args i a within is) ∙ args_split a (core.core_args (drop (i + 1) args))

pub branches_next : (branches : List Branch) (i : ℕ) (b : Branch) → i < length branches → b ≡ get_or branches i b → parts.branches_run (drop i branches) ≡ (parts.branch_runs b && parts.branches_run (drop (i + 1) branches))
branches_next branches i b within is = ap parts.branches_run (first_left branches i b within is) ∙ branches_split b (core.core_branches (drop (i + 1) branches) None)

-- a part that doesn't pass decides
pub stops : (left first rest whole : Bool) → left ≡ (first && rest) → left ≡ whole → first ≡ false → false ≡ whole
stops left first rest whole e f g = let h : (first && rest) ≡ false = ap (λ b. b && rest) g in sym h ∙ sym e ∙ f

-- one that passes leaves it to the rest
pub goes_on : (left first rest whole : Bool) → left ≡ (first && rest) → left ≡ whole → first ≡ true → rest ≡ whole
goes_on left first rest whole e f g = let h : (first && rest) ≡ rest = ap (λ b. b && rest) g in sym h ∙ sym e ∙ f
