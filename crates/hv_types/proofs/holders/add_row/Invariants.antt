use Rattle.std.proofs.Common.{◌≡◌, drop}
use Rattle.hv_types.specs.Holders as spec
use Rattle.hv_types.proofs.holders.add_row.Given as goal

abbrev pub invariant-loop-field : goal.invariant-loop-field
invariant-loop-field l = spec.with_row l.users l.number (drop l.field-index l.row) ≡ spec.with_row l.fn.users l.number l.row
