-- What is judged wrong in steps, one after the other.
use Rattle.std.proofs.Common.{◌≡◌, ℕ, ◌+◌, ◌<◌, List, [], ◌∷◌, ◌++◌, length, drop, get_or, Option, Some, None, refl, sym, ap, ◌∙◌, append_assoc, append-nil}
use Rattle.hv_tree.specs.declared.place.Place.{Place}
use Rattle.hv_tree.specs.declared.types.Name.{Name}
use Rattle.hv_tree.specs.declared.refusal.Refusal.{Refusal}
use Rattle.hv_tree.specs.declared.refusal.Rule.TheVariants as rule
use Rattle.hv_tree.specs.declared.ast.Arg.{Arg}
use Rattle.hv_tree.specs.declared.ast.Block.{Block}
use Rattle.hv_tree.specs.declared.ast.Branch.{Branch}
use Rattle.hv_tree.specs.declared.ast.Call.{Call}
use Rattle.hv_tree.specs.declared.ast.Expr.{Expr}
use Rattle.hv_tree.specs.declared.ast.ExprKind.{ExprKind}
use Rattle.hv_tree.specs.declared.ast.PlaceExpr.{PlaceExpr}
use Rattle.hv_tree.specs.declared.ast.Step.{Step, out-Step}
use Rattle.hv_tree.specs.declared.ast.Step.TheVariants as step
use Rattle.hv_tree.specs.declared.ast.Stmt.{Stmt}
use Rattle.hv_tree.specs.declared.ast.StmtKind.{StmtKind}
use Rattle.hv_tree.specs.declared.ast.Arg.TheOpen.{Step-F}
use Rattle.hv_tree.specs.Core.{CoreSteps, NoSteps, FieldStep, IndexStep, core_of, core_step, core_steps}
use Rattle.hv_tree.proofs.CoreLemmas as lemmas
use Rattle.hv_decls.specs.Types.{ValueType, IntType}
use Rattle.hv_decls.specs.Statics.{type_behind}
use Rattle.hv_lemmas.proofs.Lists.{first_left}
use Rattle.hv_type_synth.specs.declared.around.Around.{Around}
use Rattle.hv_type_synth.specs.Here as here
use Rattle.hv_type_synth.specs.Tests as tests
use Rattle.hv_type_judge.specs.Judged as spec
use Rattle.hv_type_judge.specs.Seen as seen

abbrev StepLayer : Type 0
StepLayer = Step-F Arg ExprKind Step StmtKind Block Branch Call Expr PlaceExpr Stmt

module _ (a : Around) (t : Option ValueType) where
  abbrev t1 : CoreSteps → List Refusal
  t1 s = spec.step_t1 (here.tree_in a) (here.holding_in a) (here.scope_in a) t s

  abbrev t3 : CoreSteps → List Refusal
  t3 s = spec.step_t3 (here.tree_in a) (here.holding_in a) (here.scope_in a) t s

  -- ---- a step alone, by its variant

  pub field_alone : (s : Step) (name : Name) → s ≡ step.Field name → seen.one_t1 a t s ≡ []
  field_alone s name e = ap (seen.one_t1 a t) e ∙ ap t1 (lemmas.step_field NoSteps name)

  pub index_alone : (s : Step) (at : Place) (x : Expr) → s ≡ step.Index at x → seen.one_t1 a t s ≡ spec.only (tests.no_array t) (spec.refusal rule.T1 at) ++ seen.wrong a (Some IntType) x
  index_alone s at x e =
      ap (seen.one_t1 a t) e ∙ ap t1 (lemmas.step_index NoSteps at x)
      ∙ ap (λ l. spec.only (tests.no_array t) (spec.refusal rule.T1 at) ++ l) (append-nil (seen.wrong a (Some IntType) x))

  pub no_field_alone : (s : Step) (name : Name) → s ≡ step.Field name → seen.one_t3 a t s ≡ spec.only (tests.no_field (here.tree_in a) t name) (spec.refusal rule.T3 name.place)
  no_field_alone s name e = ap (seen.one_t3 a t) e ∙ ap t3 (lemmas.step_field NoSteps name) ∙ append-nil (spec.only (tests.no_field (here.tree_in a) t name) (spec.refusal rule.T3 name.place))

  pub only_field_alone : (s : Step) (at : Place) (x : Expr) → s ≡ step.Index at x → seen.one_t3 a t s ≡ []
  only_field_alone s at x e = ap (seen.one_t3 a t) e ∙ ap t3 (lemmas.step_index NoSteps at x)

  -- ---- a step and those behind it

  abbrev After : Step → Option ValueType
  After s = type_behind (here.tree_in a) t (core_step s NoSteps)

  abbrev rest_t1 : Option ValueType → CoreSteps → List Refusal
  rest_t1 u r = spec.step_t1 (here.tree_in a) (here.holding_in a) (here.scope_in a) u r

  abbrev rest_t3 : Option ValueType → CoreSteps → List Refusal
  rest_t3 u r = spec.step_t3 (here.tree_in a) (here.holding_in a) (here.scope_in a) u r

  -- both sides by the step's plain form
  abbrev Splits : (CoreSteps → List Refusal) → (Option ValueType → CoreSteps → List Refusal) → CoreSteps → CoreSteps → CoreSteps → Type 0
  Splits f g whole alone rest = f whole ≡ f alone ++ g (type_behind (here.tree_in a) t alone) rest

  split_t1 : (s : Step) (rest : CoreSteps) (u : StepLayer) → out-Step s ≡ u → Splits t1 rest_t1 (core_step s rest) (core_step s NoSteps) rest
  split_t1 s rest (Step-F.Field name) e = rw (lemmas.by_field s rest name e) (rw (lemmas.by_field s NoSteps name e) refl)
  split_t1 s rest (Step-F.Index at x) e = rw (lemmas.by_index s rest at x e) (rw (lemmas.by_index s NoSteps at x e) (by rest))
    where
      by : (r : CoreSteps) → Splits t1 rest_t1 (IndexStep at (core_of x) r) (IndexStep at (core_of x) NoSteps) r
      by r =
          let p = spec.only (tests.no_array t) (spec.refusal rule.T1 at) in
          let q = seen.wrong a (Some IntType) x in
          let w = rest_t1 (type_behind (here.tree_in a) t (IndexStep at (core_of x) NoSteps)) r in
          sym (append_assoc p (q ++ []) w ∙ ap (λ l. p ++ (l ++ w)) (append-nil q))

  split_t3 : (s : Step) (rest : CoreSteps) (u : StepLayer) → out-Step s ≡ u → Splits t3 rest_t3 (core_step s rest) (core_step s NoSteps) rest
  split_t3 s rest (Step-F.Field name) e = rw (lemmas.by_field s rest name e) (rw (lemmas.by_field s NoSteps name e) (by rest))
    where
      by : (r : CoreSteps) → Splits t3 rest_t3 (FieldStep name r) (FieldStep name NoSteps) r
      by r =
          let p = spec.only (tests.no_field (here.tree_in a) t name) (spec.refusal rule.T3 name.place) in
          ap (λ l. l ++ rest_t3 (type_behind (here.tree_in a) t (FieldStep name NoSteps)) r) (sym (append-nil p))
  split_t3 s rest (Step-F.Index at x) e = rw (lemmas.by_index s rest at x e) (rw (lemmas.by_index s NoSteps at x e) refl)

  pub next_t1 : (steps : List Step) (i : ℕ) (s : Step) → i < length steps → s ≡ get_or steps i s → seen.step_t1 a t (drop i steps) ≡ seen.one_t1 a t s ++ seen.step_t1 a (After s) (drop (i + 1) steps)
  next_t1 steps i s within is = ap (λ w. t1 (core_steps w)) (first_left steps i s within is) ∙ split_t1 s (core_steps (drop (i + 1) steps)) (out-Step s) refl

  pub next_t3 : (steps : List Step) (i : ℕ) (s : Step) → i < length steps → s ≡ get_or steps i s → seen.step_t3 a t (drop i steps) ≡ seen.one_t3 a t s ++ seen.step_t3 a (After s) (drop (i + 1) steps)
  next_t3 steps i s within is = ap (λ w. t3 (core_steps w)) (first_left steps i s within is) ∙ split_t3 s (core_steps (drop (i + 1) steps)) (out-Step s) refl
