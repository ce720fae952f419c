use Rattle.std.proofs.Common.{◌≡◌, ℕ, length}
use Rattle.hv_sem_flat.specs.Accesses.{all_closed}
use Rattle.hv_eval_state.specs.Gives.{from}
use Rattle.hv_eval_state.specs.Opened.{last_first}
use Rattle.hv_eval_state.proofs.access.close_all.Given as goal

abbrev pub invariant-loop-access : goal.invariant-loop-access
invariant-loop-access l = (n : ℕ) → from (all_closed (last_first l.accesses.items)) n l.task ≡ from (all_closed (last_first l.fn.accesses.items)) n l.fn.task

abbrev pub decreases-loop-access : goal.decreases-loop-access
decreases-loop-access l = length l.accesses.items
