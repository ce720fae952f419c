use Rattle.std.proofs.Common.{◌≡◌, ◌++◌}
use Rattle.hv_flow_plan.specs.Plans as plans
use Rattle.hv_flow_plan.proofs.exprs.push_closes.Given as goal

abbrev pub invariant-loop-left : goal.invariant-loop-left
invariant-loop-left l = l.plan ++ plans.closes l.left l.at ≡ l.fn.plan ++ plans.closes l.fn.count l.at

abbrev pub decreases-loop-left : goal.decreases-loop-left
decreases-loop-left l = l.left
