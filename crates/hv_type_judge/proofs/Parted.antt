-- What is judged wrong in a part, by its variant.
use Rattle.std.proofs.Common.{◌≡◌, ◌||◌, ℕ, Bool, is_some, List, [], ◌∷◌, ◌++◌, Option, Some, None, refl, sym, ap, ◌∙◌, append-nil}
use Rattle.hv_tree.specs.declared.place.Place.{Place}
use Rattle.hv_tree.specs.declared.types.Name.{Name}
use Rattle.hv_tree.specs.declared.types.Ty.{Ty}
use Rattle.hv_tree.specs.declared.refusal.Refusal.{Refusal}
use Rattle.hv_tree.specs.declared.refusal.Rule.TheVariants as rule
use Rattle.hv_tree.specs.declared.ast.Arg.{Arg}
use Rattle.hv_tree.specs.declared.ast.Block.{Block}
use Rattle.hv_tree.specs.declared.ast.Branch.{Branch}
use Rattle.hv_tree.specs.declared.ast.Call.{Call, out-Call}
use Rattle.hv_tree.specs.declared.ast.Expr.{Expr, out-Expr}
use Rattle.hv_tree.specs.declared.ast.ExprKind.{ExprKind, out-ExprKind}
use Rattle.hv_tree.specs.declared.ast.PlaceExpr.{PlaceExpr, out-PlaceExpr}
use Rattle.hv_tree.specs.declared.ast.Step.{Step}
use Rattle.hv_tree.specs.declared.ast.Stmt.{Stmt, out-Stmt}
use Rattle.hv_tree.specs.declared.ast.StmtKind.{StmtKind, out-StmtKind}
use Rattle.hv_tree.specs.declared.ast.Arg.TheOpen.{ExprKind-F, StmtKind-F}
use Rattle.hv_tree.specs.Core.{CoreExpr, CoreStmt, CoreSteps, core_of, core_kind, core_place, core_steps, core_stmt, core_stmt_kind, core_call, core_option_ty}
use Rattle.hv_tree.proofs.CoreLemmas as lemmas
use Rattle.hv_decls.specs.Types.{IntType, option_meant}
use Rattle.hv_decls.specs.Locals.{value_of}
use Rattle.hv_type_rules.specs.Typing.{operand_type}
use Rattle.hv_type_synth.specs.declared.around.Around.{Around}
use Rattle.hv_type_synth.specs.Held.{ty_by}
use Rattle.hv_type_synth.specs.Here as here
use Rattle.hv_type_synth.specs.Tests as tests
use Rattle.hv_type_judge.specs.Judged as spec
use Rattle.hv_type_judge.specs.Seen as seen
use Rattle.hv_type_judge.proofs.Roots.{root_of}
use Rattle.hv_type_rules.specs.Typing as typing

module _ (a : Around) where
  pub place_opened : (p : PlaceExpr) →
      seen.place_judged a p ≡ seen.step_t1 a (value_of (here.local_named a (out-PlaceExpr p).root)) (out-PlaceExpr p).steps ++ seen.step_t3 a (value_of (here.local_named a (out-PlaceExpr p).root)) (out-PlaceExpr p).steps
  place_opened p = ap (λ (q : Name × CoreSteps). spec.place_judged (here.tree_in a) (here.holding_in a) (here.scope_in a) q.0 q.1) (lemmas.opened_place p)

  pub task_opened : (t : Option Ty) (c : Call) →
      seen.task_t1 a t c
      ≡ spec.only (seen.is_construction a (out-Call c).callee || tests.signature_differs (typing.or_nothing (option_meant (core_option_ty t))) (here.signature_of a (out-Call c).callee)) (spec.refusal rule.T1 (out-PlaceExpr (out-Call c).callee).root.place)
  task_opened t c =
      ap (spec.task_t1 (here.tree_in a) (here.holding_in a) (here.scope_in a) (core_option_ty t)) (lemmas.opened_call c)
      ∙ ap (λ (n : Name). spec.only (seen.is_construction a (out-Call c).callee || tests.signature_differs (typing.or_nothing (option_meant (core_option_ty t))) (here.signature_of a (out-Call c).callee)) (spec.refusal rule.T1 n.place)) (root_of (out-Call c).callee)

  -- ---- expressions

  unfoldable pub expr_by : Place → ExprKind-F Arg ExprKind Step StmtKind Block Branch Call Expr PlaceExpr Stmt → List Refusal
  expr_by at (ExprKind-F.Int z) = []
  expr_by at (ExprKind-F.Bool b) = []
  expr_by at (ExprKind-F.Path p) = seen.read_t6 a p
  expr_by at (ExprKind-F.ExprKind::Call c) = []
  expr_by at (ExprKind-F.ExprKind::Await name) = seen.await_t6 a name
  expr_by at (ExprKind-F.ArrayLit xs) = seen.array_judged a xs
  expr_by at (ExprKind-F.Filled len value) = seen.filled_judged a len value
  expr_by at (ExprKind-F.Count p) = seen.count_judged a p at
  expr_by at (ExprKind-F.Lambda captures params result body) = seen.capture_t6 a captures ++ seen.capture_t9 a captures
  expr_by at (ExprKind-F.Prefix o x) = seen.wrong a (operand_type o) x
  expr_by at (ExprKind-F.Chain first links) = seen.chain_t1 a first links ++ seen.link_t9 a first links

  abbrev judged_expr : CoreExpr → List Refusal
  judged_expr x = spec.expr_judged (here.tree_in a) (here.holding_in a) (here.scope_in a) x

  kind_judged : (k : ExprKind) (at : Place) (u : ExprKind-F Arg ExprKind Step StmtKind Block Branch Call Expr PlaceExpr Stmt) → out-ExprKind k ≡ u → judged_expr (core_kind k at) ≡ expr_by at u
  unfolding expr_by
  kind_judged k at (ExprKind-F.Int z) e = ap judged_expr (lemmas.kind_int k at z e)
  kind_judged k at (ExprKind-F.Bool b) e = ap judged_expr (lemmas.kind_bool k at b e)
  kind_judged k at (ExprKind-F.Path p) e = ap judged_expr (lemmas.kind_path k at p e)
  kind_judged k at (ExprKind-F.ExprKind::Call c) e = ap judged_expr (lemmas.kind_call k at c e)
  kind_judged k at (ExprKind-F.ExprKind::Await name) e = ap judged_expr (lemmas.kind_await k at name e)
  kind_judged k at (ExprKind-F.ArrayLit xs) e = ap judged_expr (lemmas.kind_array_lit k at xs e)
  kind_judged k at (ExprKind-F.Filled len value) e = ap judged_expr (lemmas.kind_filled k at len value e)
  kind_judged k at (ExprKind-F.Count p) e = ap judged_expr (lemmas.kind_count k at p e)
  kind_judged k at (ExprKind-F.Lambda captures params result body) e = ap judged_expr (lemmas.kind_lambda k at captures params result body e)
  kind_judged k at (ExprKind-F.Prefix o x) e = ap judged_expr (lemmas.kind_prefix k at o x e)
  kind_judged k at (ExprKind-F.Chain first links) e = ap judged_expr (lemmas.kind_chain k at first links e)

  pub expr_opened : (x : Expr) → seen.expr_judged a x ≡ expr_by (out-Expr x).place (out-ExprKind (out-Expr x).kind)
  expr_opened x = ap judged_expr (lemmas.opened_expr x) ∙ kind_judged (out-Expr x).kind (out-Expr x).place (out-ExprKind (out-Expr x).kind) refl

  -- ---- statements

  abbrev pub var_by : Ty → Option Expr → List Refusal
  var_by t None = []
  var_by t (Some x) = seen.wrong a (Some (ty_by t)) x

  abbrev pub return_by : Place → Option Expr → List Refusal
  return_by at None = spec.only (is_some a.returned.now) (spec.refusal rule.T1 at)
  return_by at (Some x) = seen.return_judged a x

  unfoldable pub stmt_by : Place → StmtKind-F Arg ExprKind Step StmtKind Block Branch Call Expr PlaceExpr Stmt → List Refusal
  stmt_by at (StmtKind-F.Var name t value) = var_by t value
  stmt_by at (StmtKind-F.Let name t x) = seen.wrong a (Some (ty_by t)) x
  stmt_by at (StmtKind-F.Inout name t p) = seen.inout_judged a t p
  stmt_by at (StmtKind-F.Assign p x) = seen.assign_judged a p x
  stmt_by at (StmtKind-F.If branches otherwise) = []
  stmt_by at (StmtKind-F.While test body) = []
  stmt_by at (StmtKind-F.Return value) = return_by at value
  stmt_by at (StmtKind-F.Print x) = seen.wrong a None x ++ seen.print_t9 a x
  stmt_by at (StmtKind-F.Task handle t spawn x c) = seen.task_judged a t x c
  stmt_by at (StmtKind-F.StmtKind::Await name) = seen.await_t6 a name
  stmt_by at (StmtKind-F.StmtKind::Call c) = []
  stmt_by at (StmtKind-F.Block b) = []

  abbrev judged_stmt : CoreStmt → List Refusal
  judged_stmt x = spec.stmt_judged (here.tree_in a) (here.holding_in a) (here.scope_in a) x

  there_same : (t : Option Ty) → is_some (core_option_ty t) ≡ is_some t
  there_same None = refl
  there_same (Some t) = refl

  alone_judged : (k : StmtKind) (at : Place) (u : StmtKind-F Arg ExprKind Step StmtKind Block Branch Call Expr PlaceExpr Stmt) → out-StmtKind k ≡ u → judged_stmt (core_stmt_kind k at) ≡ stmt_by at u
  unfolding stmt_by
  alone_judged k at (StmtKind-F.Var name t None) e = ap judged_stmt (lemmas.alone_var k at name t e)
  alone_judged k at (StmtKind-F.Var name t (Some x)) e = ap judged_stmt (lemmas.alone_var_with k at name t x e)
  alone_judged k at (StmtKind-F.Let name t x) e = ap judged_stmt (lemmas.alone_let k at name t x e)
  alone_judged k at (StmtKind-F.Inout name t p) e = ap judged_stmt (lemmas.alone_inout k at name t p e)
  alone_judged k at (StmtKind-F.Assign p x) e = ap judged_stmt (lemmas.alone_assign k at p x e)
  alone_judged k at (StmtKind-F.If branches otherwise) e = ap judged_stmt (lemmas.alone_if k at branches otherwise e)
  alone_judged k at (StmtKind-F.While test body) e = ap judged_stmt (lemmas.alone_while k at test body e)
  alone_judged k at (StmtKind-F.Return None) e = ap judged_stmt (lemmas.alone_return k at e) ∙ ap (λ b. spec.only b (spec.refusal rule.T1 at)) (there_same a.returned.now)
  alone_judged k at (StmtKind-F.Return (Some x)) e = ap judged_stmt (lemmas.alone_return_with k at x e)
  alone_judged k at (StmtKind-F.Print x) e = ap judged_stmt (lemmas.alone_print k at x e)
  alone_judged k at (StmtKind-F.Task handle t spawn x c) e = ap judged_stmt (lemmas.alone_task k at handle t spawn x c e)
  alone_judged k at (StmtKind-F.StmtKind::Await name) e = ap judged_stmt (lemmas.alone_await k at name e)
  alone_judged k at (StmtKind-F.StmtKind::Call c) e = ap judged_stmt (lemmas.alone_call k at c e)
  alone_judged k at (StmtKind-F.Block b) e = ap judged_stmt (lemmas.alone_block k at b e)

  pub stmt_opened : (x : Stmt) → seen.stmt_judged a x ≡ stmt_by (out-Stmt x).place (out-StmtKind (out-Stmt x).kind)
  stmt_opened x = ap judged_stmt (lemmas.opened_stmt x) ∙ alone_judged (out-Stmt x).kind (out-Stmt x).place (out-StmtKind (out-Stmt x).kind) refl
