-- What operators give, as code answers it.
use Rattle.std.proofs.Common.{◌≡◌, ℕ, [], ◌∷◌, Some, None, refl}
use Rattle.hv_tree.specs.declared.place.Place.{Place}
use Rattle.hv_value.specs.ValueTree.{ValueTree}
use Rattle.hv_value.specs.Operators.{Gives, Overflow, DivZero}
use Rattle.hv_sem_copying.specs.declared.end.TrapKind.TheVariants as trap_kind
use Rattle.hv_sem_copying.specs.declared.end.Cause.TheVariants.{Kinds}
use Rattle.hv_sem_copying.specs.Run.{Is, Halted, Trap, Stuck, and_then, pure, halt, trap}
use Rattle.hv_sem_copying.specs.Operations.{applied}
use Rattle.hv_eval_state.specs.declared.task.Task.{Task}
use Rattle.hv_eval_state.specs.Gives.{now_of, from}

pub applied_gives : (at : Place) (v : ValueTree) (n : ℕ) (t : Task) → from (applied at (Some (Gives v))) n t ≡ Is (now_of t, v)
unfolding and_then pure
applied_gives at v n t = refl

pub applied_overflow : (at : Place) (n : ℕ) (t : Task) → from (applied at (Some Overflow)) n t ≡ Halted (Trap trap_kind.Overflow at (0 ∷ [])) (now_of t).task
unfolding and_then pure trap
applied_overflow at n t = refl

pub applied_div_zero : (at : Place) (n : ℕ) (t : Task) → from (applied at (Some DivZero)) n t ≡ Halted (Trap trap_kind.DivZero at (0 ∷ [])) (now_of t).task
unfolding and_then pure trap
applied_div_zero at n t = refl

pub applied_none : (at : Place) (n : ℕ) (t : Task) → from (applied at None) n t ≡ Halted (Stuck Kinds) (now_of t).task
unfolding and_then halt
applied_none at n t = refl

pub ruleset by_given = (applied_gives, applied_overflow, applied_div_zero, applied_none)
