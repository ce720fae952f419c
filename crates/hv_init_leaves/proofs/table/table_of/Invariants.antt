use Rattle.std.proofs.Common.{◌≡◌, ◌++◌, map, drop}
use Rattle.std.specs.Borrow.{Bor}
use Rattle.hv_tree.specs.Core.{core_tree}
use Rattle.hv_tree.specs.declared.ast.StructDecl.{StructDecl}
use Rattle.hv_scope.specs.Known.{core_struct}
use Rattle.hv_init_leaves.specs.Table as spec
use Rattle.hv_init_leaves.proofs.table.table_of.Given as goal

abbrev pub invariant-loop-found : goal.invariant-loop-found
invariant-loop-found l =
    l.table ++ map (spec.row_of (core_tree l.declared)) (map (λ (d : Bor StructDecl). core_struct d.now) (drop l.found-index l.found-items))
    ≡ spec.table_of (core_tree l.declared)
