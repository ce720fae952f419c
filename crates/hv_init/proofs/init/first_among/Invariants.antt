use Rattle.std.proofs.Common.{map, take}
use Rattle.hv_tree.specs.Core.{core_tree}
use Rattle.hv_tree.specs.Earlier.{IsFirst}
use Rattle.hv_scope.specs.Bodies.{body_by}
use Rattle.hv_init_leaves.specs.Leaves.{AreSizesOf}
use Rattle.hv_init_cells.specs.Law.{IsViolatedAmong}
use Rattle.hv_init.proofs.init.first_among.Given as goal

abbrev pub invariant-loop-body : goal.invariant-loop-body
invariant-loop-body l = AreSizesOf (core_tree l.declared) l.sizes → IsFirst (IsViolatedAmong (core_tree l.declared) (map body_by (take l.body-index l.bodies))) l.first
