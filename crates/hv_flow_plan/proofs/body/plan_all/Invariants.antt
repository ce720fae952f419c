use Rattle.std.proofs.Common.{◌≡◌, ◌++◌, length, map}
use Rattle.std.specs.Vec.Iter.{into_iter_items, into_iter_len}
use Rattle.hv_tree.specs.Core.{core_tree}
use Rattle.hv_scope.specs.Bodies.{body_by}
use Rattle.hv_flow_plan.specs.Planned.{planned, planned_by}
use Rattle.hv_flow_plan.proofs.body.plan_all.Given as goal

abbrev pub invariant-loop-body : goal.invariant-loop-body
invariant-loop-body l =
    (into_iter_len l.body-iterator ≡ length (into_iter_items l.body-iterator))
    × (map planned_by l.all.items ++ map (planned (core_tree l.declared)) (map body_by (into_iter_items l.body-iterator)) ≡ map (planned (core_tree l.declared)) (map body_by l.fn.bodies.items))
