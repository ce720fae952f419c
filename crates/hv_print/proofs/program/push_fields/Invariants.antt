use Rattle.std.proofs.Common.{◌≡◌, ◌++◌, drop, map}
use Rattle.std.specs.Prelude.{string_bytes}
use Rattle.hv_tree.specs.Core.{core_field}
use Rattle.hv_tree.specs.Printed.{fields_text}
use Rattle.hv_print.proofs.program.push_fields.Given as goal

abbrev pub invariant-loop-field : goal.invariant-loop-field
invariant-loop-field l = string_bytes l.out ++ fields_text (map core_field (drop l.field-index l.fields)) ≡ string_bytes l.fn.out ++ fields_text (map core_field l.fn.fields)
