use Rattle.std.proofs.Common.{◌≡◌, ◌++◌, drop}
use Rattle.hv_types.specs.Holders as spec
use Rattle.hv_types.proofs.holders.direct.Given as goal

abbrev pub invariant-loop-number : goal.invariant-loop-number
invariant-loop-number l = l.found ++ spec.direct_from l.number (drop l.number l.rows) ≡ spec.direct_from 0 l.rows
