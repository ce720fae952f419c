use Rattle.std.proofs.Common.{◌≡◌, ◌++◌, map, drop}
use Rattle.hv_tree.specs.Core.{core_tree, core_field}
use Rattle.hv_decls.specs.Types.{type_of_field}
use Rattle.hv_init_leaves.specs.Table as spec
use Rattle.hv_init_leaves.proofs.table.row_of.Given as goal

abbrev pub invariant-loop-field : goal.invariant-loop-field
invariant-loop-field l =
    l.row ++ map (spec.number_of (core_tree l.declared)) (map type_of_field (map core_field (drop l.field-index l.fields)))
    ≡ map (spec.number_of (core_tree l.declared)) (map type_of_field (map core_field l.fields))
