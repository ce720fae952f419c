use Rattle.std.proofs.Common.{◌≡◌, drop}
use Rattle.hv_types.specs.Holders as spec
use Rattle.hv_types.proofs.holders.has_function.Given as goal

abbrev pub invariant-loop-field : goal.invariant-loop-field
invariant-loop-field l = spec.has_function (drop l.field-index l.row) ≡ spec.has_function l.row
