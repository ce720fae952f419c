use Rattle.std.proofs.Common.{◌≡◌, ◌++◌, map, drop}
use Rattle.hv_init_leaves.specs.Rows as spec
use Rattle.hv_init_leaves.proofs.sizes.rows_of.Given as goal

abbrev pub invariant-loop-numbers : goal.invariant-loop-numbers
invariant-loop-numbers l = l.rows ++ map (spec.row_from l.sizes 0) (drop l.numbers-index l.table) ≡ map (spec.row_from l.sizes 0) l.table
