-- The steps of places by their variant, as code meets them.
use Rattle.std.proofs.Common.{◌≡◌, ◌<◌, ◌+◌, ℕ, List, [], ◌∷◌, ◌++◌, length, drop, get_or, Option, Some, None, refl, sym, ap, ◌∙◌}
use Rattle.hv_tree.specs.declared.place.Place.{Place}
use Rattle.hv_tree.specs.declared.types.Name.{Name}
use Rattle.hv_tree.specs.declared.ast.Arg.{Arg}
use Rattle.hv_tree.specs.declared.ast.Block.{Block}
use Rattle.hv_tree.specs.declared.ast.Branch.{Branch}
use Rattle.hv_tree.specs.declared.ast.Call.{Call}
use Rattle.hv_tree.specs.declared.ast.Expr.{Expr}
use Rattle.hv_tree.specs.declared.ast.ExprKind.{ExprKind}
use Rattle.hv_tree.specs.declared.ast.PlaceExpr.{PlaceExpr}
use Rattle.hv_tree.specs.declared.ast.Step.{Step, out-Step}
use Rattle.hv_tree.specs.declared.ast.Step.TheVariants as step
use Rattle.hv_tree.specs.declared.ast.Stmt.{Stmt}
use Rattle.hv_tree.specs.declared.ast.StmtKind.{StmtKind}
use Rattle.hv_tree.specs.declared.ast.Arg.TheOpen.{Step-F}
use Rattle.hv_tree.specs.Core.{CoreExpr, CoreSteps, NoSteps, IndexStep, core_of, core_step, core_steps}
use Rattle.hv_tree.proofs.CoreLemmas as lemmas
use Rattle.hv_decls.specs.Types.{ValueType, FieldAt}
use Rattle.hv_decls.specs.Statics.{field_at, element_at}
use Rattle.hv_value.specs.Walk.{Link, ToField, ToIndex}
use Rattle.hv_sem_copying.specs.declared.end.Cause.TheVariants.{Kinds}
use Rattle.hv_sem_copying.specs.Run.{Is, Halted, Stuck, and_then, ◌>>=◌, pure, halt, known}
use Rattle.hv_sem_copying.specs.Operations.{number}
use Rattle.hv_sem_copying.proofs.RunLaws.{bind_assoc}
use Rattle.hv_sem_flat.specs.Accesses.{Plain}
use Rattle.hv_sem_flat.specs.Flat.{links_from}
use Rattle.hv_lemmas.proofs.Lists.{first_left}
use Rattle.hv_eval_state.specs.declared.task.Task.{Task}
use Rattle.hv_eval_state.specs.Gives.{now_of, from}
use Rattle.hv_eval_env.specs.declared.level.Level.{Level}
use Rattle.hv_eval_env.specs.Level.{tree_in, locals_in, deeper_in}
use Rattle.hv_eval_operands.specs.Links.{value_by, index_by, to_field, to_index, first_link, link_in}

abbrev StepLayer : Type 0
StepLayer = Step-F Arg ExprKind Step StmtKind Block Branch Call Expr PlaceExpr Stmt

module _ (l : Level) (t : Option ValueType) where
  pub field_found : (s : Step) (name : Name) (f : FieldAt) (n : ℕ) (task : Task) → s ≡ step.Field name → field_at (tree_in l) t name ≡ Some f →
      from (link_in l t s) n task ≡ Is (now_of task, (ToField f.number, Some f.ty))
  unfolding and_then pure
  field_found s name f n task h e =
      ap (λ u. from (link_in l t u) n task) h
      ∙ ap (λ c. from (first_link l t c) n task) (lemmas.step_field NoSteps name)
      ∙ ap (λ o. from (known Kinds o >>= to_field) n task) e

  pub field_lacks : (s : Step) (name : Name) (n : ℕ) (task : Task) → s ≡ step.Field name → field_at (tree_in l) t name ≡ None →
      from (link_in l t s) n task ≡ Halted (Stuck Kinds) (now_of task).task
  unfolding and_then halt
  field_lacks s name n task h e =
      ap (λ u. from (link_in l t u) n task) h
      ∙ ap (λ c. from (first_link l t c) n task) (lemmas.step_field NoSteps name)
      ∙ ap (λ o. from (known Kinds o >>= to_field) n task) e

  pub index_found : (s : Step) (at : Place) (x : Expr) (n : ℕ) (task : Task) → s ≡ step.Index at x → from (link_in l t s) n task ≡ from (index_by l (core_of x) >>= to_index at t) n task
  index_found s at x n task h = ap (λ u. from (link_in l t u) n task) h ∙ ap (λ c. from (first_link l t c) n task) (lemmas.step_index NoSteps at x)

  pub ruleset by_step = (field_found, field_lacks, index_found)

-- ---- the steps behind

module _ (l : Level) (ls : List (Link Place)) (t : Option ValueType) (rest : CoreSteps) where
  abbrev pub behind : Link Place × Option ValueType → Plain (List (Link Place))
  behind r = links_from (tree_in l) (locals_in l) (deeper_in l) (ls ++ r.0 ∷ []) r.1 rest

  abbrev links_on : CoreSteps → Plain (List (Link Place))
  links_on steps = links_from (tree_in l) (locals_in l) (deeper_in l) ls t steps

  abbrev linked_on : CoreSteps → Plain (List (Link Place))
  linked_on s = first_link l t s >>= behind

  field_first : (name : Name) (o : Option FieldAt) → known Kinds o >>= (λ f. behind (ToField f.number, Some f.ty)) ≡ (known Kinds o >>= to_field) >>= behind
  unfolding and_then pure halt
  field_first name None = refl
  field_first name (Some f) = refl

  index_first : (at : Place) (x : CoreExpr) → links_on (IndexStep at x rest) ≡ linked_on (IndexStep at x NoSteps)
  unfolding and_then pure
  index_first at x = sym (bind_assoc (value_by l x) number (λ z. behind (ToIndex z at, element_at t))) ∙ sym (bind_assoc (index_by l x) (to_index at t) behind)

  steps_by : (s : Step) (u : StepLayer) → out-Step s ≡ u → links_on (core_step s rest) ≡ linked_on (core_step s NoSteps)
  steps_by s (Step-F.Field name) e = ap links_on (lemmas.by_field s rest name e) ∙ field_first name (field_at (tree_in l) t name) ∙ sym (ap linked_on (lemmas.by_field s NoSteps name e))
  steps_by s (Step-F.Index at x) e = ap links_on (lemmas.by_index s rest at x e) ∙ index_first at (core_of x) ∙ sym (ap linked_on (lemmas.by_index s NoSteps at x e))

-- the next step, and those behind it
pub steps_next : (l : Level) (ls : List (Link Place)) (t : Option ValueType) (steps : List Step) (i : ℕ) (s : Step) → i < length steps → s ≡ get_or steps i s →
    links_from (tree_in l) (locals_in l) (deeper_in l) ls t (core_steps (drop i steps)) ≡ link_in l t s >>= behind l ls t (core_steps (drop (i + 1) steps))
steps_next l ls t steps i s within is =
    ap (λ w. links_from (tree_in l) (locals_in l) (deeper_in l) ls t (core_steps w)) (first_left steps i s within is) ∙ steps_by l ls t (core_steps (drop (i + 1) steps)) s (out-Step s) refl
