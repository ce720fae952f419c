use Rattle.std.proofs.Common.{◌≡◌, ◌++◌, drop}
use Rattle.hv_init_layout.specs.Tracked as spec
use Rattle.hv_init_layout.proofs.tracked.counts_of.Given as goal

abbrev pub invariant-loop-tracked : goal.invariant-loop-tracked
invariant-loop-tracked l = l.counts ++ spec.counts_from l.count (drop l.tracked-index l.flags) ≡ spec.counts_from 0 l.flags
