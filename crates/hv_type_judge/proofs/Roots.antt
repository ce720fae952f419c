-- Places by their steps, and what is moved by its variant.
use Rattle.std.proofs.Common.{◌≡◌, ℕ, false, List, [], ◌∷◌, refl, ap, sym, ◌∙◌}
use Rattle.hv_tree.specs.declared.place.Place.{Place}
use Rattle.hv_tree.specs.declared.types.Name.{Name}
use Rattle.hv_tree.specs.declared.refusal.Refusal.{Refusal}
use Rattle.hv_tree.specs.declared.refusal.Rule.TheVariants as rule
use Rattle.hv_tree.specs.declared.ast.Arg.{Arg}
use Rattle.hv_tree.specs.declared.ast.Block.{Block}
use Rattle.hv_tree.specs.declared.ast.Branch.{Branch}
use Rattle.hv_tree.specs.declared.ast.Call.{Call}
use Rattle.hv_tree.specs.declared.ast.Expr.{Expr, out-Expr}
use Rattle.hv_tree.specs.declared.ast.ExprKind.{ExprKind, out-ExprKind}
use Rattle.hv_tree.specs.declared.ast.PlaceExpr.{PlaceExpr, out-PlaceExpr}
use Rattle.hv_tree.specs.declared.ast.Step.{Step, out-Step}
use Rattle.hv_tree.specs.declared.ast.Stmt.{Stmt}
use Rattle.hv_tree.specs.declared.ast.StmtKind.{StmtKind}
use Rattle.hv_tree.specs.declared.ast.Arg.TheOpen.{ExprKind-F, Step-F}
use Rattle.hv_tree.specs.Core.{Core, CoreExpr, CoreSteps, NoSteps, core_of, core_kind, core_place, core_step, core_steps}
use Rattle.hv_tree.proofs.CoreLemmas as lemmas
use Rattle.hv_decls.specs.Sites.{Scope}
use Rattle.hv_type_synth.specs.declared.around.Around.{Around}
use Rattle.hv_type_synth.specs.Here as here
use Rattle.hv_type_judge.specs.Judged as spec
use Rattle.hv_type_judge.specs.Seen as seen

abbrev StepLayer : Type 0
StepLayer = Step-F Arg ExprKind Step StmtKind Block Branch Call Expr PlaceExpr Stmt

module _ (tree : Core) (holding : List (List ℕ)) (scope : Scope) where
  read_step : (root : Name) (s : Step) (rest : CoreSteps) (u : StepLayer) → out-Step s ≡ u → spec.read_t6 tree holding scope root (core_step s rest) ≡ spec.root_t6 tree holding scope root
  read_step root s rest (Step-F.Field name) e = ap (spec.read_t6 tree holding scope root) (lemmas.by_field s rest name e)
  read_step root s rest (Step-F.Index at x) e = ap (spec.read_t6 tree holding scope root) (lemmas.by_index s rest at x e)

  pub read_behind : (root : Name) (steps : List Step) → (steps ≡ [] → ⊥) → spec.read_t6 tree holding scope root (core_steps steps) ≡ spec.root_t6 tree holding scope root
  read_behind root [] n = absurd (n refl)
  read_behind root (s ∷ steps) n = read_step root s (core_steps steps) (out-Step s) refl

  pub read_alone : (root : Name) (steps : List Step) → steps ≡ [] → spec.read_t6 tree holding scope root (core_steps steps) ≡ spec.read_t6 tree holding scope root NoSteps
  read_alone root steps e = ap (λ s. spec.read_t6 tree holding scope root (core_steps s)) e

  callee_step : (root : Name) (s : Step) (rest : CoreSteps) (u : StepLayer) → out-Step s ≡ u → spec.callee_t6 tree holding scope root (core_step s rest) ≡ spec.root_t6 tree holding scope root
  callee_step root s rest (Step-F.Field name) e = ap (spec.callee_t6 tree holding scope root) (lemmas.by_field s rest name e)
  callee_step root s rest (Step-F.Index at x) e = ap (spec.callee_t6 tree holding scope root) (lemmas.by_index s rest at x e)

  pub callee_behind : (root : Name) (steps : List Step) → (steps ≡ [] → ⊥) → spec.callee_t6 tree holding scope root (core_steps steps) ≡ spec.root_t6 tree holding scope root
  callee_behind root [] n = absurd (n refl)
  callee_behind root (s ∷ steps) n = callee_step root s (core_steps steps) (out-Step s) refl

  pub callee_alone : (root : Name) (steps : List Step) → steps ≡ [] → spec.callee_t6 tree holding scope root (core_steps steps) ≡ spec.callee_t6 tree holding scope root NoSteps
  callee_alone root steps e = ap (λ s. spec.callee_t6 tree holding scope root (core_steps s)) e

  construct_step : (root : Name) (s : Step) (rest : CoreSteps) (u : StepLayer) → out-Step s ≡ u → spec.is_construction tree holding scope root (core_step s rest) ≡ false
  construct_step root s rest (Step-F.Field name) e = ap (spec.is_construction tree holding scope root) (lemmas.by_field s rest name e)
  construct_step root s rest (Step-F.Index at x) e = ap (spec.is_construction tree holding scope root) (lemmas.by_index s rest at x e)

  pub construct_behind : (root : Name) (steps : List Step) → (steps ≡ [] → ⊥) → spec.is_construction tree holding scope root (core_steps steps) ≡ false
  construct_behind root [] n = absurd (n refl)
  construct_behind root (s ∷ steps) n = construct_step root s (core_steps steps) (out-Step s) refl

-- the root of a place
pub root_of : (p : PlaceExpr) → (core_place p).0 ≡ (out-PlaceExpr p).root
root_of p = ap (λ (q : Name × CoreSteps). q.0) (lemmas.opened_place p)

-- ---- moves

module _ (a : Around) where
  unfoldable pub moved_by : ExprKind-F Arg ExprKind Step StmtKind Block Branch Call Expr PlaceExpr Stmt → List Refusal
  moved_by (ExprKind-F.Int z) = []
  moved_by (ExprKind-F.Bool b) = []
  moved_by (ExprKind-F.Path p) = spec.only (seen.stays a p) (spec.refusal rule.T7 (out-PlaceExpr p).root.place)
  moved_by (ExprKind-F.ExprKind::Call c) = []
  moved_by (ExprKind-F.ExprKind::Await name) = []
  moved_by (ExprKind-F.ArrayLit xs) = []
  moved_by (ExprKind-F.Filled len value) = []
  moved_by (ExprKind-F.Count p) = []
  moved_by (ExprKind-F.Lambda captures params result body) = []
  moved_by (ExprKind-F.Prefix o x) = []
  moved_by (ExprKind-F.Chain first links) = []

  abbrev moves : CoreExpr → List Refusal
  moves x = spec.move_t7 (here.tree_in a) (here.holding_in a) (here.scope_in a) x

  moved_kind : (k : ExprKind) (at : Place) (u : ExprKind-F Arg ExprKind Step StmtKind Block Branch Call Expr PlaceExpr Stmt) → out-ExprKind k ≡ u → moves (core_kind k at) ≡ moved_by u
  unfolding moved_by
  moved_kind k at (ExprKind-F.Int z) e = ap moves (lemmas.kind_int k at z e)
  moved_kind k at (ExprKind-F.Bool b) e = ap moves (lemmas.kind_bool k at b e)
  moved_kind k at (ExprKind-F.Path p) e = ap moves (lemmas.kind_path k at p e) ∙ ap (λ (n : Name). spec.only (seen.stays a p) (spec.refusal rule.T7 n.place)) (root_of p)
  moved_kind k at (ExprKind-F.ExprKind::Call c) e = ap moves (lemmas.kind_call k at c e)
  moved_kind k at (ExprKind-F.ExprKind::Await name) e = ap moves (lemmas.kind_await k at name e)
  moved_kind k at (ExprKind-F.ArrayLit xs) e = ap moves (lemmas.kind_array_lit k at xs e)
  moved_kind k at (ExprKind-F.Filled len value) e = ap moves (lemmas.kind_filled k at len value e)
  moved_kind k at (ExprKind-F.Count p) e = ap moves (lemmas.kind_count k at p e)
  moved_kind k at (ExprKind-F.Lambda captures params result body) e = ap moves (lemmas.kind_lambda k at captures params result body e)
  moved_kind k at (ExprKind-F.Prefix o x) e = ap moves (lemmas.kind_prefix k at o x e)
  moved_kind k at (ExprKind-F.Chain first links) e = ap moves (lemmas.kind_chain k at first links e)

  pub moved_opened : (x : Expr) → seen.move_t7 a x ≡ moved_by (out-ExprKind (out-Expr x).kind)
  moved_opened x = ap moves (lemmas.opened_expr x) ∙ moved_kind (out-Expr x).kind (out-Expr x).place (out-ExprKind (out-Expr x).kind) refl

  pub read_placed : (p : PlaceExpr) → ((out-PlaceExpr p).steps ≡ [] → ⊥) → seen.root_t6 a (out-PlaceExpr p).root ≡ seen.read_t6 a p
  read_placed p n =
      sym (ap (λ (q : Name × CoreSteps). spec.read_t6 (here.tree_in a) (here.holding_in a) (here.scope_in a) q.0 q.1) (lemmas.opened_place p)
      ∙ read_behind (here.tree_in a) (here.holding_in a) (here.scope_in a) (out-PlaceExpr p).root (out-PlaceExpr p).steps n)

  pub callee_placed : (p : PlaceExpr) → ((out-PlaceExpr p).steps ≡ [] → ⊥) → seen.root_t6 a (out-PlaceExpr p).root ≡ seen.callee_t6 a p
  callee_placed p n =
      sym (ap (λ (q : Name × CoreSteps). spec.callee_t6 (here.tree_in a) (here.holding_in a) (here.scope_in a) q.0 q.1) (lemmas.opened_place p)
      ∙ callee_behind (here.tree_in a) (here.holding_in a) (here.scope_in a) (out-PlaceExpr p).root (out-PlaceExpr p).steps n)

  pub construct_placed : (p : PlaceExpr) → ((out-PlaceExpr p).steps ≡ [] → ⊥) → seen.is_construction a p ≡ false
  construct_placed p n =
      ap (λ (q : Name × CoreSteps). spec.is_construction (here.tree_in a) (here.holding_in a) (here.scope_in a) q.0 q.1) (lemmas.opened_place p)
      ∙ construct_behind (here.tree_in a) (here.holding_in a) (here.scope_in a) (out-PlaceExpr p).root (out-PlaceExpr p).steps n

  pub construct_alone : (p : PlaceExpr) → (out-PlaceExpr p).steps ≡ [] → seen.is_construction a p ≡ spec.is_construction (here.tree_in a) (here.holding_in a) (here.scope_in a) (out-PlaceExpr p).root NoSteps
  construct_alone p e =
      ap (λ (q : Name × CoreSteps). spec.is_construction (here.tree_in a) (here.holding_in a) (here.scope_in a) q.0 q.1) (lemmas.opened_place p)
      ∙ ap (λ s. spec.is_construction (here.tree_in a) (here.holding_in a) (here.scope_in a) (out-PlaceExpr p).root (core_steps s)) e
