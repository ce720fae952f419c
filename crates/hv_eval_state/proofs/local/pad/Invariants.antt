use Rattle.std.proofs.Common.{◌≡◌, ◌-◌, suc, length, map}
use Rattle.hv_value.specs.ValueTree.{ValueTree}
use Rattle.hv_sem_copying.specs.Copying.{change_at}
use Rattle.hv_partial.specs.HeldTree.{held_tree}
use Rattle.hv_eval_state.proofs.local.pad.Given as goal

abbrev pub invariant-loop-locals : goal.invariant-loop-locals
invariant-loop-locals l = (t : ValueTree) → change_at (map held_tree l.locals) l.x t ≡ change_at (map held_tree l.fn.locals) l.x t

abbrev pub decreases-loop-locals : goal.decreases-loop-locals
decreases-loop-locals l = suc l.x - length l.locals
