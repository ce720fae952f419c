use Rattle.std.proofs.Common.{◌≡◌, ◌≤◌, ◌++◌, drop}
use Rattle.hv_flow_plan.specs.Scopes.{tree_in, locals_in, callee_by}
use Rattle.hv_flow_plan.specs.Plans as plans
use Rattle.hv_flow_plan.proofs.exprs.+exprs.Given as goal

abbrev pub invariant-push_parts-loop-part : goal.invariant-push_parts-loop-part
invariant-push_parts-loop-part l = l.plan ++ plans.plan_parts (tree_in l.scope) (locals_in l.scope) (drop l.part-index l.parts) ≡ l.fn.plan ++ plans.plan_parts (tree_in l.scope) (locals_in l.scope) l.parts

abbrev pub invariant-push_links-loop-operator : goal.invariant-push_links-loop-operator
invariant-push_links-loop-operator l = l.plan ++ plans.plan_links (tree_in l.scope) (locals_in l.scope) (drop l.operator-index l.links) ≡ l.fn.plan ++ plans.plan_links (tree_in l.scope) (locals_in l.scope) l.links

abbrev pub invariant-push_indices-loop-step : goal.invariant-push_indices-loop-step
invariant-push_indices-loop-step l = l.plan ++ plans.plan_indices (tree_in l.scope) (locals_in l.scope) (drop l.step-index l.steps) ≡ l.fn.plan ++ plans.plan_indices (tree_in l.scope) (locals_in l.scope) l.steps

abbrev pub invariant-push_args-loop-arg : goal.invariant-push_args-loop-arg
invariant-push_args-loop-arg l = (l.unclosed ≤ l.arg-index)
    × (l.plan ++ (plans.plan_args (tree_in l.scope) (locals_in l.scope) l.way l.at (callee_by l.callee) (drop l.arg-index l.args) ++ plans.closes l.unclosed l.at)
    ≡ l.fn.plan ++ plans.plan_args (tree_in l.scope) (locals_in l.scope) l.way l.at (callee_by l.fn.callee) l.args)
