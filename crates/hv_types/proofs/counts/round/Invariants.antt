use Rattle.std.proofs.Common.{◌≡◌, ◌++◌, map, drop}
use Rattle.hv_types.specs.Counts as spec
use Rattle.hv_types.proofs.counts.round.Given as goal

abbrev pub invariant-loop-row : goal.invariant-loop-row
invariant-loop-row l = l.next ++ map (spec.row_count l.counts) (drop l.row-index l.rows) ≡ map (spec.row_count l.counts) l.rows
