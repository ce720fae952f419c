-- Steps of loops over parts.
use Rattle.std.proofs.Common.{◌≡◌, ◌||◌, Bool, true, false, ℕ, ◌+◌, ◌<◌, List, [], ◌∷◌, length, drop, get_or, refl, sym, ap, ◌∙◌}
use Rattle.hv_tree.specs.declared.ast.Arg.{Arg}
use Rattle.hv_tree.specs.declared.ast.Block.{Block}
use Rattle.hv_tree.specs.declared.ast.Branch.{Branch}
use Rattle.hv_tree.specs.declared.ast.Call.{Call}
use Rattle.hv_tree.specs.declared.ast.Expr.{Expr}
use Rattle.hv_tree.specs.declared.ast.ExprKind.{ExprKind}
use Rattle.hv_tree.specs.declared.ast.PlaceExpr.{PlaceExpr}
use Rattle.hv_tree.specs.declared.ast.Step.{Step, out-Step}
use Rattle.hv_tree.specs.declared.ast.Stmt.{Stmt}
use Rattle.hv_tree.specs.declared.ast.StmtKind.{StmtKind}
use Rattle.hv_tree.specs.declared.ast.Arg.TheOpen.{Step-F}
use Rattle.hv_tree.specs.Core.{CoreSteps, NoSteps, core_step, core_steps}
use Rattle.hv_tree.proofs.CoreLemmas as lemmas
use Rattle.hv_lemmas.proofs.Lists.{first_left}
use Rattle.hv_type_synth.specs.Tests as tests

abbrev pub StepLayer : Type 0
StepLayer = Step-F Arg ExprKind Step StmtKind Block Branch Call Expr PlaceExpr Stmt

index_by : (s : Step) (rest : CoreSteps) (u : StepLayer) → out-Step s ≡ u → tests.has_index (core_step s rest) ≡ (tests.has_index (core_step s NoSteps) || tests.has_index rest)
index_by s rest (Step-F.Field name) e = ap tests.has_index (lemmas.by_field s rest name e) ∙ sym (ap (λ c. tests.has_index c || tests.has_index rest) (lemmas.by_field s NoSteps name e))
index_by s rest (Step-F.Index at x) e = ap tests.has_index (lemmas.by_index s rest at x e) ∙ sym (ap (λ c. tests.has_index c || tests.has_index rest) (lemmas.by_index s NoSteps at x e))

index_next : (steps : List Step) (i : ℕ) (s : Step) → i < length steps → s ≡ get_or steps i s →
    tests.has_index (core_steps (drop i steps)) ≡ (tests.has_index (core_step s NoSteps) || tests.has_index (core_steps (drop (i + 1) steps)))
index_next steps i s within is = ap (λ w. tests.has_index (core_steps w)) (first_left steps i s within is) ∙ index_by s (core_steps (drop (i + 1) steps)) (out-Step s) refl

found_by : (b c whole left : Bool) → b ≡ true → left ≡ (b || c) → left ≡ whole → true ≡ whole
found_by b c whole left e f g = ap (λ x. x || c) (sym e) ∙ sym f ∙ g

pub index_found : (steps : List Step) (i : ℕ) (s : Step) (whole : Bool) → i < length steps → s ≡ get_or steps i s → tests.has_index (core_step s NoSteps) ≡ true → tests.has_index (core_steps (drop i steps)) ≡ whole → true ≡ whole
index_found steps i s whole within is e f =
    found_by (tests.has_index (core_step s NoSteps)) (tests.has_index (core_steps (drop (i + 1) steps))) whole (tests.has_index (core_steps (drop i steps))) e (index_next steps i s within is) f

pub index_later : (steps : List Step) (i : ℕ) (s : Step) (whole : Bool) → i < length steps → s ≡ get_or steps i s → tests.has_index (core_step s NoSteps) ≡ false → tests.has_index (core_steps (drop i steps)) ≡ whole → tests.has_index (core_steps (drop (i + 1) steps)) ≡ whole
index_later steps i s whole within is e f = sym (index_next steps i s within is ∙ ap (λ x. x || tests.has_index (core_steps (drop (i + 1) steps))) e) ∙ f
