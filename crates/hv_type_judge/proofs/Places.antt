-- The place of an expression.
use Rattle.std.proofs.Common.{◌≡◌, refl, ap, ◌∙◌}
use Rattle.hv_tree.specs.declared.place.Place.{Place}
use Rattle.hv_tree.specs.declared.ast.Arg.{Arg}
use Rattle.hv_tree.specs.declared.ast.Block.{Block}
use Rattle.hv_tree.specs.declared.ast.Branch.{Branch}
use Rattle.hv_tree.specs.declared.ast.Call.{Call}
use Rattle.hv_tree.specs.declared.ast.Expr.{Expr, out-Expr}
use Rattle.hv_tree.specs.declared.ast.ExprKind.{ExprKind, out-ExprKind}
use Rattle.hv_tree.specs.declared.ast.PlaceExpr.{PlaceExpr}
use Rattle.hv_tree.specs.declared.ast.Step.{Step}
use Rattle.hv_tree.specs.declared.ast.Stmt.{Stmt}
use Rattle.hv_tree.specs.declared.ast.StmtKind.{StmtKind}
use Rattle.hv_tree.specs.declared.ast.Arg.TheOpen.{ExprKind-F}
use Rattle.hv_tree.specs.Core.{core_of, core_kind}
use Rattle.hv_tree.proofs.CoreLemmas as lemmas
use Rattle.hv_type_rules.specs.TypeRules.{expr_place}

place_by : (k : ExprKind) (at : Place) (u : ExprKind-F Arg ExprKind Step StmtKind Block Branch Call Expr PlaceExpr Stmt) → out-ExprKind k ≡ u → expr_place (core_kind k at) ≡ at
place_by k at (ExprKind-F.Int z) e = ap expr_place (lemmas.kind_int k at z e)
place_by k at (ExprKind-F.Bool b) e = ap expr_place (lemmas.kind_bool k at b e)
place_by k at (ExprKind-F.Path p) e = ap expr_place (lemmas.kind_path k at p e)
place_by k at (ExprKind-F.ExprKind::Call c) e = ap expr_place (lemmas.kind_call k at c e)
place_by k at (ExprKind-F.ExprKind::Await name) e = ap expr_place (lemmas.kind_await k at name e)
place_by k at (ExprKind-F.ArrayLit xs) e = ap expr_place (lemmas.kind_array_lit k at xs e)
place_by k at (ExprKind-F.Filled len value) e = ap expr_place (lemmas.kind_filled k at len value e)
place_by k at (ExprKind-F.Count p) e = ap expr_place (lemmas.kind_count k at p e)
place_by k at (ExprKind-F.Lambda captures params result body) e = ap expr_place (lemmas.kind_lambda k at captures params result body e)
place_by k at (ExprKind-F.Prefix o x) e = ap expr_place (lemmas.kind_prefix k at o x e)
place_by k at (ExprKind-F.Chain first links) e = ap expr_place (lemmas.kind_chain k at first links e)

pub place_of : (x : Expr) → expr_place (core_of x) ≡ (out-Expr x).place
place_of x = ap expr_place (lemmas.opened_expr x) ∙ place_by (out-Expr x).kind (out-Expr x).place (out-ExprKind (out-Expr x).kind) refl
