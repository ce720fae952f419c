-- Turns of a loop.
use Rattle.std.proofs.Common.{◌≡◌, ◌≤◌, ◌<◌, ◌+◌, ◌-◌, ℕ, zero, suc, Bool, true, false, if◌then◌else◌, [], ◌∷◌, Option, Some, None, refl, sym, ap, ◌∙◌, arith}
use Rattle.hv_tree.specs.declared.place.Place.{Place}
use Rattle.hv_value.specs.ValueTree.{ValueTree}
use Rattle.hv_sem_copying.specs.Run.{Is, Halted, Spent, Flow, and_then, ◌>>=◌, pure, pay, spent, unless_left}
use Rattle.hv_sem_copying.specs.Operations.{truth}
use Rattle.hv_sem_copying.specs.Blocks.{chosen, turns, repeated}
use Rattle.hv_sem_copying.proofs.RunLaws.{bind_assoc}
use Rattle.hv_sem_flat.specs.Accesses.{Plain}
use Rattle.hv_sem_flat.proofs.Runs.{later, split}
use Rattle.hv_eval_state.specs.declared.task.Task.{Task}
use Rattle.hv_eval_state.specs.declared.task.Halt.{Halt}
use Rattle.hv_eval_state.specs.Gives.{now_of, from, halted}
use Rattle.hv_eval_blocks.specs.Runs.{tested, after_body, turn_by, turn}
use Rattle.hv_eval_blocks.proofs.Sequence.{step_on, step_off}

-- ---- tests

pub chosen_tested : (x : Plain ValueTree) (a b : Plain Flow) → chosen x a b ≡ tested x >>= (λ h. if h then a else b)
unfolding tested
chosen_tested x a b = sym (bind_assoc x truth (λ h. if h then a else b))

-- ---- turns

abbrev or_on : Option Flow → Plain Flow → Plain Flow
or_on None again = again
or_on (Some flow) again = pure flow

left : (again : Plain Flow) (f : Flow) → after_body f >>= (λ o. or_on o again) ≡ unless_left again f
unfolding and_then pure
left again None = refl
left again (Some v) = refl

module _ (at : Place) (x : Plain ValueTree) (body : Plain Flow) (used : ℕ) (t u v w : Task) (paid : from (pay 1 at) used t ≡ Is (now_of u, tt)) where
  paid_turn : from (turn at x body) used t ≡ from (tested x >>= turn_by body) used u
  unfolding turn
  paid_turn = step_on (pay 1 at) (λ done. tested x >>= turn_by body) used t u tt paid

  holds : from (tested x) used u ≡ Is (now_of v, true) → from (turn at x body) used t ≡ from (body >>= after_body) used v
  holds e = paid_turn ∙ step_on (tested x) (turn_by body) used u v true e

  pub turn_over : from (tested x) used u ≡ Is (now_of v, false) → from (turn at x body) used t ≡ Is (now_of v, Some None)
  unfolding pure
  turn_over e = paid_turn ∙ step_on (tested x) (turn_by body) used u v false e

  pub turn_halted : (h : Halt) → from (tested x) used u ≡ Is (now_of v, true) → from body used v ≡ halted h w → from (turn at x body) used t ≡ halted h w
  turn_halted h e f = holds e ∙ step_off body after_body used v w h f

  pub turn_again : from (tested x) used u ≡ Is (now_of v, true) → from body used v ≡ Is (now_of w, None) → from (turn at x body) used t ≡ Is (now_of w, None)
  unfolding pure
  turn_again e f = holds e ∙ step_on body after_body used v w None f

  pub turn_left : (value : ValueTree) → from (tested x) used u ≡ Is (now_of v, true) → from body used v ≡ Is (now_of w, Some value) → from (turn at x body) used t ≡ Is (now_of w, Some (Some value))
  unfolding pure
  turn_left value e f = holds e ∙ step_on body after_body used v w (Some value) f

pub ruleset by_turn = (turn_over, turn_halted, turn_again, turn_left)

after_turn : (body again : Plain Flow) (h : Bool) → (if h then (body >>= unless_left again) else pure None) ≡ turn_by body h >>= (λ o. or_on o again)
unfolding and_then pure
after_turn body again true = sym (split body after_body (λ o. or_on o again) (left again))
after_turn body again false = refl

one_more : (n : ℕ) (at : Place) (x : Plain ValueTree) (body : Plain Flow) → turns (suc n) at x body ≡ turn at x body >>= (λ o. or_on o (turns n at x body))
unfolding turn
one_more n at x body =
    later (pay 1 at) (λ paid. chosen_tested x (body >>= unless_left (turns n at x body)) (pure None) ∙ later (tested x) (λ h. after_turn body (turns n at x body) h) ∙ sym (bind_assoc (tested x) (turn_by body) (λ o. or_on o (turns n at x body))))
    ∙ sym (bind_assoc (pay 1 at) (λ paid. tested x >>= turn_by body) (λ o. or_on o (turns n at x body)))

module _ (at : Place) (x : Plain ValueTree) (body : Plain Flow) (used most made : ℕ) (t : Task) where
  next : made ≤ most → turns (most + 1 - made) at x body ≡ turn at x body >>= (λ o. or_on o (turns (most + 1 - (made + 1)) at x body))
  next below =
      let k : most + 1 - made ≡ suc (most + 1 - (made + 1)) = omega arith in
      ap (λ m. turns m at x body) k ∙ one_more (most + 1 - (made + 1)) at x body

  pub turns_on : (u : Task) → made ≤ most → from (turn at x body) used t ≡ Is (now_of u, None) → from (turns (most + 1 - made) at x body) used t ≡ from (turns (most + 1 - (made + 1)) at x body) used u
  turns_on u below e = ap (λ p. from p used t) (next below) ∙ step_on (turn at x body) (λ o. or_on o (turns (most + 1 - (made + 1)) at x body)) used t u None e

  pub turns_left : (u : Task) (flow : Flow) → made ≤ most → from (turn at x body) used t ≡ Is (now_of u, Some flow) → from (turns (most + 1 - made) at x body) used t ≡ Is (now_of u, flow)
  unfolding pure
  turns_left u flow below e = ap (λ p. from p used t) (next below) ∙ step_on (turn at x body) (λ o. or_on o (turns (most + 1 - (made + 1)) at x body)) used t u (Some flow) e

  pub turns_halted : (u : Task) (h : Halt) → made ≤ most → from (turn at x body) used t ≡ halted h u → from (turns (most + 1 - made) at x body) used t ≡ halted h u
  turns_halted u h below e = ap (λ p. from p used t) (next below) ∙ step_off (turn at x body) (λ o. or_on o (turns (most + 1 - (made + 1)) at x body)) used t u h e

  -- the last turn goes on
  pub turns_last : (begun u v : Task) → made ≤ most → most ≤ made → from (turns (most + 1 - made) at x body) used t ≡ from (repeated at x body) used begun → from (turn at x body) used t ≡ Is (now_of u, None) → v ≡ u → from (repeated at x body) used begun ≡ Halted (Spent at (0 ∷ [])) (now_of v).task
  unfolding spent
  turns_last begun u v below above so e is =
      let k : most + 1 - (made + 1) ≡ zero = omega arith in
      sym so ∙ turns_on u below e ∙ ap (λ m. from (turns m at x body) used u) k ∙ ap (λ (w : Task). Halted (Spent at (0 ∷ [])) (now_of w).task) (sym is)

pub repeated_first : (at : Place) (x : Plain ValueTree) (body : Plain Flow) (used : ℕ) (t : Task) → from (repeated at x body) used t ≡ from (turns (t.steps + 1 - 0) at x body) used t
unfolding repeated
repeated_first at x body used t = let k : suc t.steps ≡ t.steps + 1 - 0 = omega arith in ap (λ m. from (turns m at x body) used t) k

pub ruleset by_turns = (turns_on, turns_left, turns_halted, repeated_first)
