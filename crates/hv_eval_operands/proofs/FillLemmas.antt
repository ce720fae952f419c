-- Arrays of copies by the length that is asked for.
use Rattle.std.proofs.Common.{◌≡◌, ◌≤◌, ◌<◌, ℕ, ℤ, pos, negsuc, [], ◌∷◌, refl, ap, ◌∙◌}
use Rattle.std.proofs.lemmas.Bool.{le-leb, lt-leb}
use Rattle.hv_tree.specs.declared.place.Place.{Place}
use Rattle.hv_value.specs.ValueTree.{ValueTree, Elements}
use Rattle.hv_value.specs.Operators.{copies}
use Rattle.hv_value.specs.Sizes.{fill_cost}
use Rattle.hv_sem_copying.specs.declared.end.TrapKind.TheVariants as trap_kind
use Rattle.hv_sem_copying.specs.Run.{Halted, Trap, and_then, ◌>>=◌, pure, trap, pay}
use Rattle.hv_sem_copying.specs.Operations.{filled_with}
use Rattle.hv_eval_state.specs.declared.task.Task.{Task}
use Rattle.hv_eval_state.specs.Gives.{now_of, from}

module _ (at : Place) (v : ValueTree) (z : ℤ) (n k : ℕ) (t : Task) where
  pub fills : z ≡ pos n → n ≤ 1048576 → from (filled_with at v z) k t ≡ from (pay (fill_cost n v) at >>= (λ paid. pure (Elements (copies n v)))) k t
  unfolding and_then pure
  fills h e = ap (λ y. from (filled_with at v y) k t) h ∙ rw (le-leb n 1048576 e) refl

  pub fills_long : z ≡ pos n → 1048576 < n → from (filled_with at v z) k t ≡ Halted (Trap trap_kind.TooLong at (0 ∷ [])) (now_of t).task
  unfolding and_then trap
  fills_long h e = ap (λ y. from (filled_with at v y) k t) h ∙ rw (lt-leb n 1048576 e) refl

  pub fills_bad : z ≡ negsuc n → from (filled_with at v z) k t ≡ Halted (Trap trap_kind.BadLength at (0 ∷ [])) (now_of t).task
  unfolding and_then trap
  fills_bad h = ap (λ y. from (filled_with at v y) k t) h
