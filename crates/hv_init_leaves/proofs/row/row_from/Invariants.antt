use Rattle.std.proofs.Common.{◌≡◌, ◌++◌, drop}
use Rattle.hv_init_leaves.specs.Rows as spec
use Rattle.hv_init_leaves.proofs.row.row_from.Given as goal

abbrev pub invariant-loop-number : goal.invariant-loop-number
invariant-loop-number l =
    (l.parts ++ spec.parts_from l.sizes l.end (drop l.number-index l.numbers) ≡ spec.parts_from l.sizes l.first l.numbers)
    × (spec.end_from l.sizes l.end (drop l.number-index l.numbers) ≡ spec.end_from l.sizes l.first l.numbers)
