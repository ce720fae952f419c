use Rattle.std.proofs.Common.{◌≡◌, ◌++◌, map, drop}
use Rattle.hv_scope.specs.Tops.{field_text}
use Rattle.hv_scope.proofs.structs.field_names.Given as goal

abbrev pub invariant-loop-field : goal.invariant-loop-field
invariant-loop-field l = l.names ++ map field_text (drop l.field-index l.fields) ≡ map field_text l.fields
