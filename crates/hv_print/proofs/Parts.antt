-- The printed text of each part, by the part's variant, as code meets it.
use Rattle.std.proofs.Common.{◌≡◌, ℕ, Bool, true, false, ℤ, List, [], ◌∷◌, ◌++◌, map, Option, Some, None, codes, refl, sym, ap, ◌∙◌, ◌+◌, ◌-◌, ◌<◌, zero, suc, arith, append_assoc, append-nil, add-one, length, drop, get_or, drop-cons}
use Rattle.hv_tree.specs.declared.place.Place.{Place}
use Rattle.hv_tree.specs.declared.types.Name.{Name}
use Rattle.hv_tree.specs.declared.types.Conv.{Conv}
use Rattle.hv_tree.specs.declared.types.Ty.{Ty, out-Ty}
use Rattle.hv_tree.specs.declared.types.Ty.TheVariants as ty
use Rattle.hv_tree.specs.declared.types.Ty.TheOpen.{Ty-F}
use Rattle.hv_tree.specs.declared.ast.Operator.{Operator}
use Rattle.hv_tree.specs.declared.ast.Expr.{Expr, out-Expr}
use Rattle.hv_tree.specs.declared.ast.ExprKind.{ExprKind, out-ExprKind}
use Rattle.hv_tree.specs.declared.ast.Param.{Param}
use Rattle.hv_tree.specs.declared.ast.FunDecl.{FunDecl}
use Rattle.hv_tree.specs.declared.ast.Decl.TheVariants as decl
use Rattle.hv_tree.specs.declared.ast.Arg.{Arg, out-Arg}
use Rattle.hv_tree.specs.declared.ast.Arg.TheVariants as arg
use Rattle.hv_tree.specs.declared.ast.Block.{Block, out-Block}
use Rattle.hv_tree.specs.declared.ast.Branch.{Branch, out-Branch}
use Rattle.hv_tree.specs.declared.ast.Call.{Call, out-Call}
use Rattle.hv_tree.specs.declared.ast.PlaceExpr.{PlaceExpr, out-PlaceExpr}
use Rattle.hv_tree.specs.declared.ast.Step.{Step, out-Step}
use Rattle.hv_tree.specs.declared.ast.Stmt.{Stmt, out-Stmt}
use Rattle.hv_tree.specs.declared.ast.StmtKind.{StmtKind}
use Rattle.hv_tree.specs.declared.ast.ExprKind.TheVariants as expr
use Rattle.hv_tree.specs.declared.ast.StmtKind.TheVariants as stmt
use Rattle.hv_tree.specs.declared.ast.Step.TheVariants as step
use Rattle.hv_tree.specs.declared.ast.Arg.TheOpen.{Arg-F, ExprKind-F, Step-F}
use Rattle.std.specs.Fmt.{signed_decimal}
use Rattle.hv_tree.specs.Core as core
use Rattle.hv_tree.specs.Printed as printed
use Rattle.hv_tree.proofs.CoreLemmas as lemmas
use Rattle.hv_print.specs.Texts as texts

-- ---- types

pub ty_int : (t : Ty) (at : Place) → t ≡ ty.Int at → texts.ty_text t ≡ codes "Int"
ty_int t at h = ap texts.ty_text h ∙ ap printed.ty_text (lemmas.ty_int at)

pub ty_bool : (t : Ty) (at : Place) → t ≡ ty.Bool at → texts.ty_text t ≡ codes "Bool"
ty_bool t at h = ap texts.ty_text h ∙ ap printed.ty_text (lemmas.ty_bool at)

pub ty_named : (t : Ty) (name : Name) → t ≡ ty.Named name → texts.ty_text t ≡ name.text
ty_named t name h = ap texts.ty_text h ∙ ap printed.ty_text (lemmas.ty_named name)

pub ty_array : (t : Ty) (at : Place) (element : Ty) → t ≡ ty.Array at element → texts.ty_text t ≡ codes "[" ++ (texts.ty_text element ++ codes "]")
ty_array t at element h = ap texts.ty_text h ∙ ap printed.ty_text (lemmas.ty_array at element)

of_fun : (at : Place) (params : List (Conv × Ty)) (result : Option Ty) → texts.ty_text (ty.Fun at params result) ≡ codes "fun(" ++ (texts.tys_text [] params ++ texts.result_text result)
of_fun at params None = ap printed.ty_text (lemmas.ty_fun at params)
of_fun at params (Some t) = ap printed.ty_text (lemmas.ty_fun_to at params t)

pub ty_fun : (t : Ty) (at : Place) (params : List (Conv × Ty)) (result : Option Ty) → t ≡ ty.Fun at params result → texts.ty_text t ≡ codes "fun(" ++ (texts.tys_text [] params ++ texts.result_text result)
ty_fun t at params result h = ap texts.ty_text h ∙ of_fun at params result

unfoldable pub is_fun_by : Ty-F Ty → Bool
is_fun_by (Ty-F.Int at) = false
is_fun_by (Ty-F.Bool at) = false
is_fun_by (Ty-F.Named name) = false
is_fun_by (Ty-F.Array at t) = false
is_fun_by (Ty-F.Fun at params result) = true

by_ty : (t : Ty) (u : Ty-F Ty) → out-Ty t ≡ u → printed.is_fun_ty (core.core_ty t) ≡ is_fun_by u
unfolding is_fun_by
by_ty t (Ty-F.Int at) e = ap printed.is_fun_ty (lemmas.written_int t at e)
by_ty t (Ty-F.Bool at) e = ap printed.is_fun_ty (lemmas.written_bool t at e)
by_ty t (Ty-F.Named name) e = ap printed.is_fun_ty (lemmas.written_named t name e)
by_ty t (Ty-F.Array at element) e = ap printed.is_fun_ty (lemmas.written_array t at element e)
by_ty t (Ty-F.Fun at params None) e = ap printed.is_fun_ty (lemmas.written_fun t at params e)
by_ty t (Ty-F.Fun at params (Some r)) e = ap printed.is_fun_ty (lemmas.written_fun_to t at params r e)

pub is_fun_opened : (t : Ty) → printed.is_fun_ty (core.core_ty t) ≡ is_fun_by (out-Ty t)
is_fun_opened t = by_ty t (out-Ty t) refl

-- ---- how tightly an expression binds

abbrev pub KindLayer : Type 0
KindLayer = ExprKind-F Arg ExprKind Step StmtKind Block Branch Call Expr PlaceExpr Stmt

unfoldable pub tightness_by : KindLayer → ℕ
tightness_by (ExprKind-F.Prefix o x) = 5
tightness_by (ExprKind-F.Chain first links) = printed.links_tightness (core.core_links links)
tightness_by _ = 6

by_kind : (k : ExprKind) (at : Place) (u : KindLayer) → out-ExprKind k ≡ u → printed.expr_tightness (core.core_kind k at) ≡ tightness_by u
unfolding tightness_by
by_kind k at (ExprKind-F.Int z) e = ap printed.expr_tightness (lemmas.kind_int k at z e)
by_kind k at (ExprKind-F.Bool b) e = ap printed.expr_tightness (lemmas.kind_bool k at b e)
by_kind k at (ExprKind-F.Path p) e = ap printed.expr_tightness (lemmas.kind_path k at p e)
by_kind k at (ExprKind-F.ExprKind::Call c) e = ap printed.expr_tightness (lemmas.kind_call k at c e)
by_kind k at (ExprKind-F.ExprKind::Await name) e = ap printed.expr_tightness (lemmas.kind_await k at name e)
by_kind k at (ExprKind-F.ArrayLit xs) e = ap printed.expr_tightness (lemmas.kind_array_lit k at xs e)
by_kind k at (ExprKind-F.Filled len value) e = ap printed.expr_tightness (lemmas.kind_filled k at len value e)
by_kind k at (ExprKind-F.Count p) e = ap printed.expr_tightness (lemmas.kind_count k at p e)
by_kind k at (ExprKind-F.Lambda captures params result body) e = ap printed.expr_tightness (lemmas.kind_lambda k at captures params result body e)
by_kind k at (ExprKind-F.Prefix o x) e = ap printed.expr_tightness (lemmas.kind_prefix k at o x e)
by_kind k at (ExprKind-F.Chain first links) e = ap printed.expr_tightness (lemmas.kind_chain k at first links e)

pub tightness_opened : (x : Expr) → printed.expr_tightness (core.core_of x) ≡ tightness_by (out-ExprKind (out-Expr x).kind)
tightness_opened x = ap printed.expr_tightness (lemmas.opened_expr x) ∙ by_kind (out-Expr x).kind (out-Expr x).place (out-ExprKind (out-Expr x).kind) refl

pub tightness_chain : (x first : Expr) (links : List (Operator × Place × Expr)) → (out-Expr x).kind ≡ expr.Chain first links → printed.expr_tightness (core.core_of x) ≡ printed.links_tightness (core.core_links links)
tightness_chain x first links h = ap printed.expr_tightness (lemmas.expr_chain x first links h)

-- ---- expressions

pub expr_int : (d : ℕ) (x : Expr) (z : ℤ) → (out-Expr x).kind ≡ expr.Int z → texts.expr_text d x ≡ signed_decimal z
expr_int d x z h = ap (printed.expr_text d) (lemmas.expr_int x z h)

pub expr_bool : (d : ℕ) (x : Expr) (b : Bool) → (out-Expr x).kind ≡ expr.Bool b → texts.expr_text d x ≡ printed.truth_text b
expr_bool d x b h = ap (printed.expr_text d) (lemmas.expr_bool x b h)

pub expr_path : (d : ℕ) (x : Expr) (p : PlaceExpr) → (out-Expr x).kind ≡ expr.Path p → texts.expr_text d x ≡ texts.place_text d p
expr_path d x p h = ap (printed.expr_text d) (lemmas.expr_path x p h)

pub expr_call : (d : ℕ) (x : Expr) (c : Call) → (out-Expr x).kind ≡ expr.Call c → texts.expr_text d x ≡ texts.call_text d c
expr_call d x c h = ap (printed.expr_text d) (lemmas.expr_call x c h)

pub expr_await : (d : ℕ) (x : Expr) (name : Name) → (out-Expr x).kind ≡ expr.Await name → texts.expr_text d x ≡ codes "await " ++ name.text
expr_await d x name h = ap (printed.expr_text d) (lemmas.expr_await x name h)

pub expr_array_lit : (d : ℕ) (x : Expr) (xs : List Expr) → (out-Expr x).kind ≡ expr.ArrayLit xs → texts.expr_text d x ≡ codes "[" ++ (texts.exprs_text d [] xs ++ codes "]")
expr_array_lit d x xs h = ap (printed.expr_text d) (lemmas.expr_array_lit x xs h)

pub expr_filled : (d : ℕ) (x len value : Expr) → (out-Expr x).kind ≡ expr.Filled len value → texts.expr_text d x ≡ codes "filled(" ++ (texts.expr_text d len ++ (printed.comma ++ (texts.expr_text d value ++ codes ")")))
expr_filled d x len value h = ap (printed.expr_text d) (lemmas.expr_filled x len value h)

pub expr_count : (d : ℕ) (x : Expr) (p : PlaceExpr) → (out-Expr x).kind ≡ expr.Count p → texts.expr_text d x ≡ codes "count(" ++ (texts.place_text d p ++ codes ")")
expr_count d x p h = ap (printed.expr_text d) (lemmas.expr_count x p h) ∙ ap (λ t. codes "count(" ++ t) (sym (append_assoc (core.core_place p).0.text (printed.steps_text d (core.core_place p).1) (codes ")")))

pub expr_lambda : (d : ℕ) (x : Expr) (captures : List Name) (params : List Param) (result : Option Ty) (body : Block) → (out-Expr x).kind ≡ expr.Lambda captures params result body →
    texts.expr_text d x ≡ codes "fun [" ++ (printed.names_text [] captures ++ (codes "] " ++ (texts.signature_text params result ++ texts.block_text d body)))
expr_lambda d x captures params result body h =
    ap (printed.expr_text d) (lemmas.expr_lambda x captures params result body h)
    ∙ ap (λ t. codes "fun [" ++ (printed.names_text [] captures ++ (codes "] (" ++ t)))
    (sym (append_assoc (printed.params_text [] (map core.core_param params)) (codes ")" ++ printed.return_text (core.core_option_ty result)) (texts.block_text d body)))

pub expr_prefix : (d : ℕ) (x : Expr) (o : Operator) (operand : Expr) → (out-Expr x).kind ≡ expr.Prefix o operand → texts.expr_text d x ≡ printed.operator_text o ++ texts.operand_text d 5 operand
expr_prefix d x o operand h = ap (printed.expr_text d) (lemmas.expr_prefix x o operand h)

pub expr_chain : (d : ℕ) (x first : Expr) (links : List (Operator × Place × Expr)) → (out-Expr x).kind ≡ expr.Chain first links →
    texts.expr_text d x ≡ texts.operand_text d (printed.links_tightness (core.core_links links)) first ++ texts.links_text d (printed.links_tightness (core.core_links links)) links
expr_chain d x first links h = ap (printed.expr_text d) (lemmas.expr_chain x first links h)

-- ---- places, calls and arguments

pub place_opened : (d : ℕ) (p : PlaceExpr) → texts.place_text d p ≡ (out-PlaceExpr p).root.text ++ texts.steps_text d (out-PlaceExpr p).steps
place_opened d p = ap (λ (q : Name × core.CoreSteps). q.0.text ++ printed.steps_text d q.1) (lemmas.opened_place p)

pub step_field : (d : ℕ) (s : Step) (name : Name) → s ≡ step.Field name → texts.step_text d s ≡ codes "." ++ name.text
step_field d s name h = ap (texts.step_text d) h ∙ ap (printed.steps_text d) (lemmas.step_field core.NoSteps name) ∙ ap (λ t. codes "." ++ t) (append-nil name.text)

pub step_index : (d : ℕ) (s : Step) (at : Place) (x : Expr) → s ≡ step.Index at x → texts.step_text d s ≡ codes "[" ++ (texts.expr_text d x ++ codes "]")
step_index d s at x h = ap (texts.step_text d) h ∙ ap (printed.steps_text d) (lemmas.step_index core.NoSteps at x)

step_by : (d : ℕ) (s : Step) (rest : core.CoreSteps) (u : Step-F Arg ExprKind Step StmtKind Block Branch Call Expr PlaceExpr Stmt) → out-Step s ≡ u →
    printed.steps_text d (core.core_step s rest) ≡ texts.step_text d s ++ printed.steps_text d rest
step_by d s rest (Step-F.Field name) e =
    ap (printed.steps_text d) (lemmas.by_field s rest name e)
    ∙ ap (λ t. codes "." ++ (t ++ printed.steps_text d rest)) (sym (append-nil name.text))
    ∙ sym (ap (λ t. printed.steps_text d t ++ printed.steps_text d rest) (lemmas.by_field s core.NoSteps name e))
step_by d s rest (Step-F.Index at x) e =
    ap (printed.steps_text d) (lemmas.by_index s rest at x e)
    ∙ ap (λ t. codes "[" ++ t) (sym (append_assoc (texts.expr_text d x) (codes "]") (printed.steps_text d rest)))
    ∙ sym (ap (λ t. printed.steps_text d t ++ printed.steps_text d rest) (lemmas.by_index s core.NoSteps at x e))

pub steps_split : (d : ℕ) (s : Step) (rest : core.CoreSteps) → printed.steps_text d (core.core_step s rest) ≡ texts.step_text d s ++ printed.steps_text d rest
steps_split d s rest = step_by d s rest (out-Step s) refl

pub call_opened : (d : ℕ) (c : Call) → texts.call_text d c ≡ texts.place_text d (out-Call c).callee ++ (codes "(" ++ (texts.args_text d [] (out-Call c).args ++ codes ")"))
call_opened d c =
    ap (printed.call_text d) (lemmas.opened_call c)
    ∙ sym (append_assoc (core.core_place (out-Call c).callee).0.text (printed.steps_text d (core.core_place (out-Call c).callee).1) (codes "(" ++ (texts.args_text d [] (out-Call c).args ++ codes ")")))

pub arg_value : (d : ℕ) (a : Arg) (x : Expr) → a ≡ arg.Value x → texts.arg_text d a ≡ texts.expr_text d x
arg_value d a x h = ap (texts.arg_text d) h ∙ ap (printed.args_text d []) (lemmas.arg_value core.NoArgs x) ∙ append-nil (texts.expr_text d x)

pub arg_ref : (d : ℕ) (a : Arg) (at : Place) (p : PlaceExpr) → a ≡ arg.Ref at p → texts.arg_text d a ≡ codes "&" ++ texts.place_text d p
arg_ref d a at p h =
    ap (texts.arg_text d) h ∙ ap (printed.args_text d []) (lemmas.arg_ref core.NoArgs at p)
    ∙ ap (λ t. codes "&" ++ ((core.core_place p).0.text ++ t)) (append-nil (printed.steps_text d (core.core_place p).1))

arg_by : (d : ℕ) (before : List ℕ) (a : Arg) (rest : core.CoreArgs) (u : Arg-F Arg ExprKind Step StmtKind Block Branch Call Expr PlaceExpr Stmt) → out-Arg a ≡ u →
    printed.args_text d before (core.core_arg a rest) ≡ before ++ (texts.arg_text d a ++ printed.args_text d printed.comma rest)
arg_by d before a rest (Arg-F.Value x) e =
    ap (printed.args_text d before) (lemmas.by_value a rest x e)
    ∙ ap (λ t. before ++ (t ++ printed.args_text d printed.comma rest)) (sym (append-nil (texts.expr_text d x)))
    ∙ sym (ap (λ t. before ++ (printed.args_text d [] t ++ printed.args_text d printed.comma rest)) (lemmas.by_value a core.NoArgs x e))
arg_by d before a rest (Arg-F.Ref at p) e =
    let root = (core.core_place p).0.text in
    let steps = printed.steps_text d (core.core_place p).1 in
    let more = printed.args_text d printed.comma rest in
    ap (printed.args_text d before) (lemmas.by_ref a rest at p e)
    ∙ ap (λ t. before ++ (codes "&" ++ t)) (sym (append_assoc root steps more))
    ∙ ap (λ t. before ++ (codes "&" ++ ((root ++ t) ++ more))) (sym (append-nil steps))
    ∙ sym (ap (λ t. before ++ (printed.args_text d [] t ++ more)) (lemmas.by_ref a core.NoArgs at p e))

pub args_split : (d : ℕ) (before : List ℕ) (a : Arg) (rest : core.CoreArgs) → printed.args_text d before (core.core_arg a rest) ≡ before ++ (texts.arg_text d a ++ printed.args_text d printed.comma rest)
args_split d before a rest = arg_by d before a rest (out-Arg a) refl

-- ---- blocks and branches

pub indent_more : (n : ℕ) → 0 < n → printed.indent n ≡ codes "  " ++ printed.indent (n - 1)
indent_more zero h = absurd (omega arith)
indent_more (suc n) h = ap (λ k. codes "  " ++ printed.indent k) (omega arith)

pub bare_opened : (d : ℕ) (b : Block) → texts.bare_text d b ≡ codes "{\n" ++ (texts.stmts_text (d + 1) (out-Block b).stmts ++ (printed.indent d ++ codes "}"))
bare_opened d b = ap (printed.bare_text d) (lemmas.opened_block b) ∙ ap (λ n. codes "{\n" ++ (texts.stmts_text n (out-Block b).stmts ++ (printed.indent d ++ codes "}"))) (sym (add-one d))

behind_space : (d : ℕ) (b : core.CoreBlock) → printed.block_text d b ≡ codes " " ++ printed.bare_text d b
behind_space d (core.BlockOf stmts end) = refl

pub block_opened : (d : ℕ) (b : Block) → texts.block_text d b ≡ codes " " ++ texts.bare_text d b
block_opened d b = behind_space d (core.core_block b)

pub branch_opened : (d : ℕ) (b : Branch) → texts.branch_text d b ≡ texts.expr_text d (out-Branch b).test ++ texts.block_text d (out-Branch b).body
branch_opened d b =
    ap (printed.branches_text d []) (lemmas.opened_branch b core.NoElse)
    ∙ ap (λ t. texts.expr_text d (out-Branch b).test ++ t) (append-nil (texts.block_text d (out-Branch b).body))

pub branches_split : (d : ℕ) (before : List ℕ) (b : Branch) (rest : core.CoreBranches) → printed.branches_text d before (core.core_branch b rest) ≡ before ++ (texts.branch_text d b ++ printed.branches_text d (codes " else if ") rest)
branches_split d before b rest =
    ap (printed.branches_text d before) (lemmas.opened_branch b rest)
    ∙ ap (λ t. before ++ t) (sym (append_assoc (texts.expr_text d (out-Branch b).test) (texts.block_text d (out-Branch b).body) (printed.branches_text d (codes " else if ") rest)))
    ∙ sym (ap (λ t. before ++ (t ++ printed.branches_text d (codes " else if ") rest)) (branch_opened d b))

-- the last `else` stands behind the tests
branches_else : (d : ℕ) (before : List ℕ) (branches : List Branch) (otherwise : Option Block) →
    printed.branches_text d before (core.core_branches branches otherwise) ≡ texts.branches_text d before branches ++ texts.else_text d otherwise
branches_else d before [] None = refl
branches_else d before [] (Some b) = refl
branches_else d before (b ∷ more) otherwise =
    let first = texts.branch_text d b in
    let rest = texts.branches_text d (codes " else if ") more in
    let last = texts.else_text d otherwise in
    branches_split d before b (core.core_branches more otherwise)
    ∙ ap (λ t. before ++ (first ++ t)) (branches_else d (codes " else if ") more otherwise)
    ∙ ap (λ t. before ++ t) (sym (append_assoc first rest last))
    ∙ sym (append_assoc before (first ++ rest) last)
    ∙ ap (λ t. t ++ last) (sym (branches_split d before b (core.core_branches more None)))

-- ---- one more turn of a loop

-- what is written so far, and the text of what is left
pub extended : (was now piece rest left whole : List ℕ) → now ≡ was ++ piece → left ≡ piece ++ rest → was ++ left ≡ whole → now ++ rest ≡ whole
extended was now piece rest left whole e f g = ap (λ t. t ++ rest) e ∙ append_assoc was piece rest ∙ ap (λ t. was ++ t) (sym f) ∙ g

-- the part at i stands first among those from i on
first_left : {A : Type 0} (parts : List A) (i : ℕ) (part : A) → i < length parts → part ≡ get_or parts i part → drop i parts ≡ part ∷ drop (i + 1) parts
first_left parts i part within is = drop-cons parts i part within ∙ ap (λ x. x ∷ drop (suc i) parts) (sym is) ∙ ap (λ n. part ∷ drop n parts) (sym (add-one i))

pub names_next : (before : List ℕ) (names : List Name) (i : ℕ) (n : Name) → i < length names → n ≡ get_or names i n →
    printed.names_text before (drop i names) ≡ (before ++ n.text) ++ printed.names_text printed.comma (drop (i + 1) names)
names_next before names i n within is = ap (printed.names_text before) (first_left names i n within is) ∙ sym (append_assoc before n.text (printed.names_text printed.comma (drop (i + 1) names)))

pub steps_next : (d : ℕ) (steps : List Step) (i : ℕ) (s : Step) → i < length steps → s ≡ get_or steps i s →
    texts.steps_text d (drop i steps) ≡ texts.step_text d s ++ texts.steps_text d (drop (i + 1) steps)
steps_next d steps i s within is = ap (texts.steps_text d) (first_left steps i s within is) ∙ steps_split d s (core.core_steps (drop (i + 1) steps))

pub args_next : (d : ℕ) (before : List ℕ) (args : List Arg) (i : ℕ) (a : Arg) → i < length args → a ≡ get_or args i a →
    texts.args_text d before (drop i args) ≡ (before ++ texts.arg_text d a) ++ texts.args_text d printed.comma (drop (i + 1) args)
args_next d before args i a within is =
    ap (texts.args_text d before) (first_left args i a within is)
    ∙ args_split d before a (core.core_args (drop (i + 1) args))
    ∙ sym (append_assoc before (texts.arg_text d a) (texts.args_text d printed.comma (drop (i + 1) args)))

pub branches_next : (d : ℕ) (before : List ℕ) (branches : List Branch) (i : ℕ) (b : Branch) → i < length branches → b ≡ get_or branches i b →
    texts.branches_text d before (drop i branches) ≡ (before ++ texts.branch_text d b) ++ texts.branches_text d (codes " else if ") (drop (i + 1) branches)
branches_next d before branches i b within is =
    ap (texts.branches_text d before) (first_left branches i b within is)
    ∙ branches_split d before b (core.core_branches (drop (i + 1) branches) None)
    ∙ sym (append_assoc before (texts.branch_text d b) (texts.branches_text d (codes " else if ") (drop (i + 1) branches)))

-- ---- statements

pub stmt_var : (d : ℕ) (s : Stmt) (name : Name) (t : Ty) (value : Option Expr) → (out-Stmt s).kind ≡ stmt.Var name t value → texts.stmt_text d s ≡ codes "var " ++ (printed.typed_text name (core.core_ty t) ++ texts.value_text d value)
stmt_var d s name t None h = ap (printed.stmt_text d) (lemmas.stmt_var s name t h) ∙ ap (λ x. codes "var " ++ x) (sym (append-nil (printed.typed_text name (core.core_ty t))))
stmt_var d s name t (Some x) h = ap (printed.stmt_text d) (lemmas.stmt_var_with s name t x h)

pub stmt_let : (d : ℕ) (s : Stmt) (name : Name) (t : Ty) (x : Expr) → (out-Stmt s).kind ≡ stmt.Let name t x → texts.stmt_text d s ≡ codes "let " ++ (printed.typed_text name (core.core_ty t) ++ (codes " = " ++ texts.expr_text d x))
stmt_let d s name t x h = ap (printed.stmt_text d) (lemmas.stmt_let s name t x h)

pub stmt_inout : (d : ℕ) (s : Stmt) (name : Name) (t : Ty) (p : PlaceExpr) → (out-Stmt s).kind ≡ stmt.Inout name t p → texts.stmt_text d s ≡ codes "inout " ++ (printed.typed_text name (core.core_ty t) ++ (codes " = &" ++ texts.place_text d p))
stmt_inout d s name t p h = ap (printed.stmt_text d) (lemmas.stmt_inout s name t p h)

pub stmt_assign : (d : ℕ) (s : Stmt) (p : PlaceExpr) (x : Expr) → (out-Stmt s).kind ≡ stmt.Assign p x → texts.stmt_text d s ≡ codes "&" ++ (texts.place_text d p ++ (codes " = " ++ texts.expr_text d x))
stmt_assign d s p x h = ap (printed.stmt_text d) (lemmas.stmt_assign s p x h) ∙ ap (λ t. codes "&" ++ t) (sym (append_assoc (core.core_place p).0.text (printed.steps_text d (core.core_place p).1) (codes " = " ++ texts.expr_text d x)))

pub stmt_if : (d : ℕ) (s : Stmt) (branches : List Branch) (otherwise : Option Block) → (out-Stmt s).kind ≡ stmt.If branches otherwise → texts.stmt_text d s ≡ texts.branches_text d (codes "if ") branches ++ texts.else_text d otherwise
stmt_if d s branches otherwise h = ap (printed.stmt_text d) (lemmas.stmt_if s branches otherwise h) ∙ branches_else d (codes "if ") branches otherwise

pub stmt_while : (d : ℕ) (s : Stmt) (test : Expr) (body : Block) → (out-Stmt s).kind ≡ stmt.While test body → texts.stmt_text d s ≡ codes "while " ++ (texts.expr_text d test ++ texts.block_text d body)
stmt_while d s test body h = ap (printed.stmt_text d) (lemmas.stmt_while s test body h)

pub stmt_return : (d : ℕ) (s : Stmt) (value : Option Expr) → (out-Stmt s).kind ≡ stmt.Return value → texts.stmt_text d s ≡ texts.return_text d value
stmt_return d s None h = ap (printed.stmt_text d) (lemmas.stmt_return s h)
stmt_return d s (Some x) h = ap (printed.stmt_text d) (lemmas.stmt_return_with s x h)

pub stmt_print : (d : ℕ) (s : Stmt) (x : Expr) → (out-Stmt s).kind ≡ stmt.Print x → texts.stmt_text d s ≡ codes "print(" ++ (texts.expr_text d x ++ codes ")")
stmt_print d s x h = ap (printed.stmt_text d) (lemmas.stmt_print s x h)

pub stmt_task : (d : ℕ) (s : Stmt) (handle : Name) (t : Option Ty) (spawn : Place) (budget : Expr) (c : Call) → (out-Stmt s).kind ≡ stmt.Task handle t spawn budget c →
    texts.stmt_text d s ≡ codes "task " ++ (handle.text ++ (printed.handle_text (core.core_option_ty t) ++ (codes " = spawn(" ++ (texts.expr_text d budget ++ (codes ") " ++ texts.call_text d c)))))
stmt_task d s handle t spawn budget c h = ap (printed.stmt_text d) (lemmas.stmt_task s handle t spawn budget c h)

pub stmt_await : (d : ℕ) (s : Stmt) (name : Name) → (out-Stmt s).kind ≡ stmt.Await name → texts.stmt_text d s ≡ codes "await " ++ name.text
stmt_await d s name h = ap (printed.stmt_text d) (lemmas.stmt_await s name h)

pub stmt_call : (d : ℕ) (s : Stmt) (c : Call) → (out-Stmt s).kind ≡ stmt.Call c → texts.stmt_text d s ≡ texts.call_text d c
stmt_call d s c h = ap (printed.stmt_text d) (lemmas.stmt_call s c h)

pub stmt_block : (d : ℕ) (s : Stmt) (b : Block) → (out-Stmt s).kind ≡ stmt.Block b → texts.stmt_text d s ≡ texts.bare_text d b
stmt_block d s b h = ap (printed.stmt_text d) (lemmas.stmt_block s b h)

-- ---- declarations

pub fun_text : (f : FunDecl) → printed.decl_text (core.core_decl (decl.Fun f)) ≡ codes "fun " ++ (f.name.text ++ (texts.signature_text f.params f.result ++ (texts.block_text 0 f.body ++ printed.new_line)))
fun_text f =
    ap (λ t. codes "fun " ++ (f.name.text ++ (codes "(" ++ t)))
    (sym (append_assoc (printed.params_text [] (map core.core_param f.params)) (codes ")" ++ printed.return_text (core.core_option_ty f.result)) (texts.block_text 0 f.body ++ printed.new_line)))
