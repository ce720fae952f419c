use Rattle.std.proofs.Common.{◌≡◌, ◌++◌, map, drop}
use Rattle.hv_init_leaves.specs.Rounds as spec
use Rattle.hv_init_leaves.proofs.rounds.round.Given as goal

abbrev pub invariant-loop-row : goal.invariant-loop-row
invariant-loop-row l = l.next ++ map (spec.row_size l.known) (drop l.row-index l.table) ≡ map (spec.row_size l.known) l.table
