use Rattle.std.proofs.Common.{◌≡◌, Some, drop}
use Rattle.hv_init_leaves.specs.Rounds as spec
use Rattle.hv_init_leaves.proofs.rounds.row_sum.Given as goal

abbrev pub invariant-loop-number : goal.invariant-loop-number
invariant-loop-number l = spec.sum_from l.known l.sum (drop l.number-index l.row) ≡ spec.sum_from l.known (Some 0) l.row
