-- What is found in each part, by the part's variant, as code meets it.
use Rattle.std.proofs.Common.{◌≡◌, ℕ, List, [], ◌∷◌, ◌++◌, map, Option, Some, None, refl, sym, ap, ◌∙◌, ◌+◌, ◌<◌, length, drop, get_or, append_assoc, append-nil}
use Rattle.hv_tree.specs.declared.place.Place.{Place}
use Rattle.hv_tree.specs.declared.types.Name.{Name}
use Rattle.hv_tree.specs.declared.types.Conv.{Conv}
use Rattle.hv_tree.specs.declared.types.Ty.{Ty, out-Ty}
use Rattle.hv_tree.specs.declared.types.Ty.TheOpen.{Ty-F}
use Rattle.hv_tree.specs.declared.refusal.Refusal.{Refusal}
use Rattle.hv_tree.specs.declared.ast.Arg.{Arg, out-Arg}
use Rattle.hv_tree.specs.declared.ast.Block.{Block, out-Block}
use Rattle.hv_tree.specs.declared.ast.Branch.{Branch, out-Branch}
use Rattle.hv_tree.specs.declared.ast.Call.{Call, out-Call}
use Rattle.hv_tree.specs.declared.ast.Expr.{Expr, out-Expr}
use Rattle.hv_tree.specs.declared.ast.ExprKind.{ExprKind, out-ExprKind}
use Rattle.hv_tree.specs.declared.ast.PlaceExpr.{PlaceExpr, out-PlaceExpr}
use Rattle.hv_tree.specs.declared.ast.Step.{Step, out-Step}
use Rattle.hv_tree.specs.declared.ast.Stmt.{Stmt, out-Stmt}
use Rattle.hv_tree.specs.declared.ast.StmtKind.{StmtKind, out-StmtKind}
use Rattle.hv_tree.specs.declared.ast.Arg.TheOpen.{Arg-F, ExprKind-F, Step-F, StmtKind-F}
use Rattle.hv_tree.specs.Core as core
use Rattle.hv_tree.proofs.CoreLemmas as lemmas
use Rattle.hv_type_names.specs.declared.program.Program.{Program}
use Rattle.hv_type_names.specs.Found as spec
use Rattle.hv_type_names.specs.Parts as parts
use Rattle.hv_lemmas.proofs.Lists.{first_left}

-- ---- types

unfoldable pub ty_by : Program → Ty-F Ty → List Refusal
ty_by p (Ty-F.Int at) = []
ty_by p (Ty-F.Bool at) = []
ty_by p (Ty-F.Named name) = spec.named_found p name
ty_by p (Ty-F.Array at element) = spec.ty_found p (core.core_ty element)
ty_by p (Ty-F.Fun at params result) = parts.pairs_found p params ++ spec.option_ty_found p (core.core_option_ty result)

pairs_same : (p : Program) (params : List (Conv × Ty)) → spec.tys_found p (core.core_tys_of (map (λ (x : Conv × Ty). (x.0, core.core_ty x.1)) params)) ≡ parts.pairs_found p params
pairs_same p [] = refl
pairs_same p (x ∷ xs) = ap (λ l. spec.ty_found p (core.core_ty x.1) ++ l) (pairs_same p xs)

by_ty : (p : Program) (t : Ty) (u : Ty-F Ty) → out-Ty t ≡ u → spec.ty_found p (core.core_ty t) ≡ ty_by p u
unfolding ty_by
by_ty p t (Ty-F.Int at) e = ap (spec.ty_found p) (lemmas.written_int t at e)
by_ty p t (Ty-F.Bool at) e = ap (spec.ty_found p) (lemmas.written_bool t at e)
by_ty p t (Ty-F.Named name) e = ap (spec.ty_found p) (lemmas.written_named t name e)
by_ty p t (Ty-F.Array at element) e = ap (spec.ty_found p) (lemmas.written_array t at element e)
by_ty p t (Ty-F.Fun at params None) e = ap (spec.ty_found p) (lemmas.written_fun t at params e) ∙ pairs_same p params ∙ sym (append-nil (parts.pairs_found p params))
by_ty p t (Ty-F.Fun at params (Some r)) e = ap (spec.ty_found p) (lemmas.written_fun_to t at params r e) ∙ ap (λ l. l ++ spec.ty_found p (core.core_ty r)) (pairs_same p params)

pub ty_opened : (p : Program) (t : Ty) → spec.ty_found p (core.core_ty t) ≡ ty_by p (out-Ty t)
ty_opened p t = by_ty p t (out-Ty t) refl

-- ---- expressions

module _ (p : Program) (seen : List (List ℕ)) where
  unfoldable pub expr_by : ExprKind-F Arg ExprKind Step StmtKind Block Branch Call Expr PlaceExpr Stmt → List Refusal
  expr_by (ExprKind-F.Int z) = []
  expr_by (ExprKind-F.Bool b) = []
  expr_by (ExprKind-F.Path place) = parts.place_found p seen place
  expr_by (ExprKind-F.ExprKind::Call call) = parts.call_found p seen call
  expr_by (ExprKind-F.ExprKind::Await handle) = spec.use_found p seen handle
  expr_by (ExprKind-F.ArrayLit xs) = parts.exprs_found p seen xs
  expr_by (ExprKind-F.Filled len value) = parts.expr_found p seen len ++ parts.expr_found p seen value
  expr_by (ExprKind-F.Count place) = parts.place_found p seen place
  expr_by (ExprKind-F.Lambda captures params result body) =
      spec.header_found p seen captures (map core.core_param params) (core.core_option_ty result) ++ spec.body_found p captures (map core.core_param params) (core.core_block body)
  expr_by (ExprKind-F.Prefix o x) = parts.expr_found p seen x
  expr_by (ExprKind-F.Chain first links) = parts.expr_found p seen first ++ parts.links_found p seen links

  by_kind : (k : ExprKind) (at : Place) (u : ExprKind-F Arg ExprKind Step StmtKind Block Branch Call Expr PlaceExpr Stmt) → out-ExprKind k ≡ u → spec.expr_found p seen (core.core_kind k at) ≡ expr_by u
  unfolding expr_by
  by_kind k at (ExprKind-F.Int z) e = ap (spec.expr_found p seen) (lemmas.kind_int k at z e)
  by_kind k at (ExprKind-F.Bool b) e = ap (spec.expr_found p seen) (lemmas.kind_bool k at b e)
  by_kind k at (ExprKind-F.Path place) e = ap (spec.expr_found p seen) (lemmas.kind_path k at place e)
  by_kind k at (ExprKind-F.ExprKind::Call call) e = ap (spec.expr_found p seen) (lemmas.kind_call k at call e)
  by_kind k at (ExprKind-F.ExprKind::Await handle) e = ap (spec.expr_found p seen) (lemmas.kind_await k at handle e)
  by_kind k at (ExprKind-F.ArrayLit xs) e = ap (spec.expr_found p seen) (lemmas.kind_array_lit k at xs e)
  by_kind k at (ExprKind-F.Filled len value) e = ap (spec.expr_found p seen) (lemmas.kind_filled k at len value e)
  by_kind k at (ExprKind-F.Count place) e = ap (spec.expr_found p seen) (lemmas.kind_count k at place e)
  by_kind k at (ExprKind-F.Lambda captures params result body) e = ap (spec.expr_found p seen) (lemmas.kind_lambda k at captures params result body e)
  by_kind k at (ExprKind-F.Prefix o x) e = ap (spec.expr_found p seen) (lemmas.kind_prefix k at o x e)
  by_kind k at (ExprKind-F.Chain first links) e = ap (spec.expr_found p seen) (lemmas.kind_chain k at first links e)

  pub expr_opened : (x : Expr) → parts.expr_found p seen x ≡ expr_by (out-ExprKind (out-Expr x).kind)
  expr_opened x = ap (spec.expr_found p seen) (lemmas.opened_expr x) ∙ by_kind (out-Expr x).kind (out-Expr x).place (out-ExprKind (out-Expr x).kind) refl

  pub place_opened : (place : PlaceExpr) → parts.place_found p seen place ≡ spec.use_found p seen (out-PlaceExpr place).root ++ parts.steps_found p seen (out-PlaceExpr place).steps
  place_opened place = ap (λ (q : Name × core.CoreSteps). spec.use_found p seen q.0 ++ spec.steps_found p seen q.1) (lemmas.opened_place place)

  unfoldable pub step_by : Step-F Arg ExprKind Step StmtKind Block Branch Call Expr PlaceExpr Stmt → List Refusal
  step_by (Step-F.Field name) = []
  step_by (Step-F.Index at x) = parts.expr_found p seen x

  by_step : (s : Step) (rest : core.CoreSteps) (u : Step-F Arg ExprKind Step StmtKind Block Branch Call Expr PlaceExpr Stmt) → out-Step s ≡ u → spec.steps_found p seen (core.core_step s rest) ≡ step_by u ++ spec.steps_found p seen rest
  unfolding step_by
  by_step s rest (Step-F.Field name) e = ap (spec.steps_found p seen) (lemmas.by_field s rest name e)
  by_step s rest (Step-F.Index at x) e = ap (spec.steps_found p seen) (lemmas.by_index s rest at x e)

  pub step_opened : (s : Step) → parts.step_found p seen s ≡ step_by (out-Step s)
  step_opened s = by_step s core.NoSteps (out-Step s) refl ∙ append-nil (step_by (out-Step s))

  pub steps_split : (s : Step) (rest : core.CoreSteps) → spec.steps_found p seen (core.core_step s rest) ≡ parts.step_found p seen s ++ spec.steps_found p seen rest
  steps_split s rest = by_step s rest (out-Step s) refl ∙ ap (λ l. l ++ spec.steps_found p seen rest) (sym (step_opened s))

  pub call_opened : (c : Call) → parts.call_found p seen c ≡ parts.place_found p seen (out-Call c).callee ++ parts.args_found p seen (out-Call c).args
  call_opened c =
      ap (spec.call_found p seen) (lemmas.opened_call c)
      ∙ sym (append_assoc (spec.use_found p seen (core.core_place (out-Call c).callee).0) (spec.steps_found p seen (core.core_place (out-Call c).callee).1) (parts.args_found p seen (out-Call c).args))

  unfoldable pub arg_by : Arg-F Arg ExprKind Step StmtKind Block Branch Call Expr PlaceExpr Stmt → List Refusal
  arg_by (Arg-F.Value x) = parts.expr_found p seen x
  arg_by (Arg-F.Ref at place) = parts.place_found p seen place

  by_arg : (a : Arg) (rest : core.CoreArgs) (u : Arg-F Arg ExprKind Step StmtKind Block Branch Call Expr PlaceExpr Stmt) → out-Arg a ≡ u → spec.args_found p seen (core.core_arg a rest) ≡ arg_by u ++ spec.args_found p seen rest
  unfolding arg_by
  by_arg a rest (Arg-F.Value x) e = ap (spec.args_found p seen) (lemmas.by_value a rest x e)
  by_arg a rest (Arg-F.Ref at place) e =
      ap (spec.args_found p seen) (lemmas.by_ref a rest at place e)
      ∙ sym (append_assoc (spec.use_found p seen (core.core_place place).0) (spec.steps_found p seen (core.core_place place).1) (spec.args_found p seen rest))

  pub arg_opened : (a : Arg) → parts.arg_found p seen a ≡ arg_by (out-Arg a)
  arg_opened a = by_arg a core.NoArgs (out-Arg a) refl ∙ append-nil (arg_by (out-Arg a))

  pub args_split : (a : Arg) (rest : core.CoreArgs) → spec.args_found p seen (core.core_arg a rest) ≡ parts.arg_found p seen a ++ spec.args_found p seen rest
  args_split a rest = by_arg a rest (out-Arg a) refl ∙ ap (λ l. l ++ spec.args_found p seen rest) (sym (arg_opened a))

  -- ---- statements

  pub block_opened : (b : Block) → parts.block_found p seen b ≡ parts.stmts_found p seen (out-Block b).stmts
  block_opened b = ap (spec.block_found p seen) (lemmas.opened_block b)

  pub branches_split : (b : Branch) (rest : core.CoreBranches) → spec.branches_found p seen (core.core_branch b rest) ≡ parts.branch_found p seen b ++ spec.branches_found p seen rest
  branches_split b rest =
      ap (spec.branches_found p seen) (lemmas.opened_branch b rest)
      ∙ sym (append_assoc (parts.expr_found p seen (out-Branch b).test) (parts.block_found p seen (out-Branch b).body) (spec.branches_found p seen rest))

  branches_else : (branches : List Branch) (otherwise : Option Block) → spec.branches_found p seen (core.core_branches branches otherwise) ≡ parts.branches_found p seen branches ++ parts.option_block_found p seen otherwise
  branches_else [] None = refl
  branches_else [] (Some b) = refl
  branches_else (b ∷ more) otherwise =
      let first = parts.branch_found p seen b in
      branches_split b (core.core_branches more otherwise)
      ∙ ap (λ l. first ++ l) (branches_else more otherwise)
      ∙ sym (append_assoc first (parts.branches_found p seen more) (parts.option_block_found p seen otherwise))
      ∙ ap (λ l. l ++ parts.option_block_found p seen otherwise) (sym (branches_split b (core.core_branches more None)))

  unfoldable pub stmt_by : StmtKind-F Arg ExprKind Step StmtKind Block Branch Call Expr PlaceExpr Stmt → List Refusal
  stmt_by (StmtKind-F.Var name t value) = spec.ty_found p (core.core_ty t) ++ parts.option_expr_found p seen value
  stmt_by (StmtKind-F.Let name t value) = spec.ty_found p (core.core_ty t) ++ parts.expr_found p seen value
  stmt_by (StmtKind-F.Inout name t place) = spec.ty_found p (core.core_ty t) ++ parts.place_found p seen place
  stmt_by (StmtKind-F.Assign place value) = parts.place_found p seen place ++ parts.expr_found p seen value
  stmt_by (StmtKind-F.If branches otherwise) = parts.branches_found p seen branches ++ parts.option_block_found p seen otherwise
  stmt_by (StmtKind-F.While test body) = parts.expr_found p seen test ++ parts.block_found p seen body
  stmt_by (StmtKind-F.Return value) = parts.option_expr_found p seen value
  stmt_by (StmtKind-F.Print value) = parts.expr_found p seen value
  stmt_by (StmtKind-F.Task handle t spawn budget call) = spec.option_ty_found p (core.core_option_ty t) ++ (parts.expr_found p seen budget ++ parts.call_found p seen call)
  stmt_by (StmtKind-F.StmtKind::Await handle) = spec.use_found p seen handle
  stmt_by (StmtKind-F.StmtKind::Call call) = parts.call_found p seen call
  stmt_by (StmtKind-F.Block b) = parts.block_found p seen b

  by_stmt : (k : StmtKind) (at : Place) (u : StmtKind-F Arg ExprKind Step StmtKind Block Branch Call Expr PlaceExpr Stmt) → out-StmtKind k ≡ u → spec.stmt_found p seen (core.core_stmt_kind k at) ≡ stmt_by u
  unfolding stmt_by
  by_stmt k at (StmtKind-F.Var name t None) e = ap (spec.stmt_found p seen) (lemmas.alone_var k at name t e) ∙ sym (append-nil (spec.ty_found p (core.core_ty t)))
  by_stmt k at (StmtKind-F.Var name t (Some x)) e = ap (spec.stmt_found p seen) (lemmas.alone_var_with k at name t x e)
  by_stmt k at (StmtKind-F.Let name t x) e = ap (spec.stmt_found p seen) (lemmas.alone_let k at name t x e)
  by_stmt k at (StmtKind-F.Inout name t place) e = ap (spec.stmt_found p seen) (lemmas.alone_inout k at name t place e)
  by_stmt k at (StmtKind-F.Assign place x) e =
      ap (spec.stmt_found p seen) (lemmas.alone_assign k at place x e)
      ∙ sym (append_assoc (spec.use_found p seen (core.core_place place).0) (spec.steps_found p seen (core.core_place place).1) (parts.expr_found p seen x))
  by_stmt k at (StmtKind-F.If branches otherwise) e = ap (spec.stmt_found p seen) (lemmas.alone_if k at branches otherwise e) ∙ branches_else branches otherwise
  by_stmt k at (StmtKind-F.While test body) e = ap (spec.stmt_found p seen) (lemmas.alone_while k at test body e)
  by_stmt k at (StmtKind-F.Return None) e = ap (spec.stmt_found p seen) (lemmas.alone_return k at e)
  by_stmt k at (StmtKind-F.Return (Some x)) e = ap (spec.stmt_found p seen) (lemmas.alone_return_with k at x e)
  by_stmt k at (StmtKind-F.Print x) e = ap (spec.stmt_found p seen) (lemmas.alone_print k at x e)
  by_stmt k at (StmtKind-F.Task handle t spawn budget c) e = ap (spec.stmt_found p seen) (lemmas.alone_task k at handle t spawn budget c e)
  by_stmt k at (StmtKind-F.StmtKind::Await handle) e = ap (spec.stmt_found p seen) (lemmas.alone_await k at handle e)
  by_stmt k at (StmtKind-F.StmtKind::Call c) e = ap (spec.stmt_found p seen) (lemmas.alone_call k at c e)
  by_stmt k at (StmtKind-F.Block b) e = ap (spec.stmt_found p seen) (lemmas.alone_block k at b e)

  pub stmt_opened : (s : Stmt) → parts.stmt_found p seen s ≡ stmt_by (out-StmtKind (out-Stmt s).kind)
  stmt_opened s = ap (spec.stmt_found p seen) (lemmas.opened_stmt s) ∙ by_stmt (out-Stmt s).kind (out-Stmt s).place (out-StmtKind (out-Stmt s).kind) refl

  -- ---- one more turn of a loop

  pub steps_next : (steps : List Step) (i : ℕ) (s : Step) → i < length steps → s ≡ get_or steps i s → parts.steps_found p seen (drop i steps) ≡ parts.step_found p seen s ++ parts.steps_found p seen (drop (i + 1) steps)
  steps_next steps i s within is = ap (parts.steps_found p seen) (first_left steps i s within is) ∙ steps_split s (core.core_steps (drop (i + 1) steps))

  pub args_next : (args : List Arg) (i : ℕ) (a : Arg) → i < length args → a ≡ get_or args i a → parts.args_found p seen (drop i args) ≡ parts.arg_found p seen a ++ parts.args_found p seen (drop (i + 1) args)
  args_next args i a within is = ap (parts.args_found p seen) (first_left args i a within is) ∙ args_split a (core.core_args (drop (i + 1) args))

  pub branches_next : (branches : List Branch) (i : ℕ) (b : Branch) → i < length branches → b ≡ get_or branches i b →
      parts.branches_found p seen (drop i branches) ≡ parts.branch_found p seen b ++ parts.branches_found p seen (drop (i + 1) branches)
  branches_next branches i b within is = ap (parts.branches_found p seen) (first_left branches i b within is) ∙ branches_split b (core.core_branches (drop (i + 1) branches) None)

  pub stmts_next : (stmts : List Stmt) (i : ℕ) (s : Stmt) → i < length stmts → s ≡ get_or stmts i s →
      parts.stmts_found p seen (drop i stmts) ≡ parts.stmt_found p seen s ++ parts.stmts_found p (spec.behind seen (spec.bound (core.core_stmt s))) (drop (i + 1) stmts)
  stmts_next stmts i s within is = ap (parts.stmts_found p seen) (first_left stmts i s within is)
