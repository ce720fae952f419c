use Rattle.std.proofs.Common.{◌≡◌, drop, map}
use Rattle.hv_tree.specs.Core.{core_field}
use Rattle.hv_runs.specs.Walked as spec
use Rattle.hv_runs.proofs.types.fields_read.Given as goal

abbrev pub invariant-loop-field : goal.invariant-loop-field
invariant-loop-field l = spec.fields_read (map core_field (drop l.field-index l.fields)) ≡ spec.fields_read (map core_field l.fn.fields)
