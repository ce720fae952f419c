use Rattle.std.proofs.Common.{◌≡◌, ◌++◌, drop}
use Rattle.hv_flow_plan.specs.Scopes.{tree_in, locals_in}
use Rattle.hv_flow_plan.specs.Plans as plans
use Rattle.hv_flow_plan.proofs.exprs.push_captured.Given as goal

abbrev pub invariant-loop-name : goal.invariant-loop-name
invariant-loop-name l = l.plan ++ plans.plan_captured (tree_in l.scope) (locals_in l.scope) (drop l.name-index l.captures) ≡ l.fn.plan ++ plans.plan_captured (tree_in l.scope) (locals_in l.scope) l.captures
