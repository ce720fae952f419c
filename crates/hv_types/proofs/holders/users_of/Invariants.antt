use Rattle.std.proofs.Common.{◌≡◌, drop}
use Rattle.hv_types.specs.Holders as spec
use Rattle.hv_types.proofs.holders.users_of.Given as goal

abbrev pub invariant-loop-number : goal.invariant-loop-number
invariant-loop-number l = spec.with_rows l.users l.number (drop l.number l.rows) ≡ spec.users_of l.rows
