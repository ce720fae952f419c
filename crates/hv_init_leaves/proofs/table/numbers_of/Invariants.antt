use Rattle.std.proofs.Common.{◌≡◌, ◌++◌, map, drop}
use Rattle.hv_tree.specs.Core.{core_tree}
use Rattle.hv_scope.specs.Known.{local_by}
use Rattle.hv_init_leaves.specs.Table as spec
use Rattle.hv_init_leaves.proofs.table.numbers_of.Given as goal

abbrev pub invariant-loop-local : goal.invariant-loop-local
invariant-loop-local l =
    l.numbers ++ map (spec.local_number (core_tree l.declared)) (map local_by (drop l.local-index l.locals))
    ≡ map (spec.local_number (core_tree l.declared)) (map local_by l.locals)
