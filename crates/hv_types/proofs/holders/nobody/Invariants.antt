use Rattle.std.proofs.Common.{◌≡◌, ◌++◌, drop}
use Rattle.hv_types.specs.Holders as spec
use Rattle.hv_types.proofs.holders.nobody.Given as goal

abbrev pub invariant-loop-row : goal.invariant-loop-row
invariant-loop-row l = l.users ++ spec.nobody (drop l._row-index l.rows) ≡ spec.nobody l.rows
