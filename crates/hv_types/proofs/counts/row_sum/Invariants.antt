use Rattle.std.proofs.Common.{◌≡◌, drop}
use Rattle.hv_types.specs.Counts as spec
use Rattle.hv_types.proofs.counts.row_sum.Given as goal

abbrev pub invariant-loop-field : goal.invariant-loop-field
invariant-loop-field l = spec.sum_from l.counts l.sum (drop l.field-index l.row) ≡ spec.sum_from l.counts 0 l.row
