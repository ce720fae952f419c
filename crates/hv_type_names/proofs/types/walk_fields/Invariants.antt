use Rattle.std.proofs.Common.{◌≡◌, ◌++◌, drop, map}
use Rattle.hv_tree.specs.Core.{core_field}
use Rattle.hv_type_names.specs.Found as spec
use Rattle.hv_type_names.proofs.types.walk_fields.Given as goal

abbrev pub invariant-loop-field : goal.invariant-loop-field
invariant-loop-field l = l.found.items ++ spec.fields_found l.program (map core_field (drop l.field-index l.fields)) ≡ l.fn.found.items ++ spec.fields_found l.program (map core_field l.fn.fields)
