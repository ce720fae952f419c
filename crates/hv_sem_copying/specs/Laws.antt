-- What laws say of runs.
use Rattle.std.specs.Prelude.{◌≡◌, ◌≤◌, Bool, true, false, List, ◌++◌}
use Rattle.hv_sem_copying.specs.Node.{End, Done, Trapped, SpentAt}
use Rattle.hv_sem_copying.specs.Run.{Task, Res, Is, Halted, Trap, Spent, Stuck, Now}

-- the old list is the front of the new one
abbrev pub Extends : {A : Type 0} → List A → List A → Type 0
Extends {A} old new = (more : List A) × (new ≡ old ++ more)

-- how a task goes on: no step comes back, and of the output and the children nothing is taken away
pub record Follows (old new : Task) : Type 0 where
  pub same_id : new.id ≡ old.id
  pub steps_fall : new.steps ≤ old.steps
  pub output_grows : Extends old.output new.output
  pub children_grow : Extends old.children new.children

-- what holds of the task at the end of a run, however that ends
abbrev pub Leaves : {S A : Type 0} → (Task → Type 0) → Res (Now S × A) → Type 0
Leaves P (Is r) = P r.0.task
Leaves P (Halted (Trap kind at id) t) = P t
Leaves P (Halted (Spent at id) t) = P t
Leaves P (Halted (Stuck cause) w) = Unit {0}

abbrev pub is_spent : End → Bool
is_spent (Done v) = false
is_spent (Trapped kind at id) = false
is_spent (SpentAt at id) = true
