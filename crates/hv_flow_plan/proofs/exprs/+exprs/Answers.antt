use Rattle.std.proofs.Common.{◌++◌, sym, ap, ◌∙◌, arith, append-nil}
use Rattle.std.proofs.lemmas.Grind.{common_steps}
use Rattle.hv_flow_plan.specs.declared.plan.FlowOp.TheVariants as op
use Rattle.hv_flow_plan.specs.Scopes.{tree_in, locals_in, callee_by}
use Rattle.hv_flow_plan.specs.Plans as plans
use Rattle.hv_lemmas.proofs.Lists.{first_left, extended, two_added}
use Rattle.hv_flow_plan.proofs.ExprPlans as parts
use Rattle.hv_flow_plan.proofs.exprs.+exprs.Goals as goal

pub push_args-loop-arg-preserved : goal.push_args-loop-arg-preserved
push_args-loop-arg-preserved t c = (
  grind (arith, common_steps),
  parts.args_step (tree_in c.args.scope.now) (locals_in c.args.scope.now) c.args.way c.args.at (callee_by c.loop-arg.callee) _ _ c.args.args.now c.loop-arg.arg-index c.arg-item.result c.loop-arg.unclosed _
      c.loop-arg.plan c.push_arg.new.plan _ c.loop-arg-test.true c.arg-item.is c.next_conv-conv.ensures.conv c.next_conv-conv.ensures.others c.in_ok-push_arg.ensures.plan
      (c.one_if.ensures ∙ ap plans.count_open c.in_ok-push_arg.ensures.stays) c.loop-arg.invariant.1,
)

pub push_call-returns : goal.push_call-returns
push_call-returns t c = rw (parts.call_opened (tree_in c.args.scope.now) (locals_in c.args.scope.now) c.args.way c.args.call.now) (grind (arith, common_steps))

pub push_expr-returns-in_ok-push_expr-in-Chain : goal.push_expr-returns-in_ok-push_expr-in-Chain
push_expr-returns-in_ok-push_expr-in-Chain t c =
    rw (parts.expr_chain (tree_in c.args.scope.now) (locals_in c.args.scope.now) c.args.doing c.args.x.now c.in-Chain.first c.in-Chain.links c.in-Chain.is) (grind (arith, common_steps))

pub push_expr-returns-in_ok-push_expr-in-Filled : goal.push_expr-returns-in_ok-push_expr-in-Filled
push_expr-returns-in_ok-push_expr-in-Filled t c =
    rw (parts.expr_filled (tree_in c.args.scope.now) (locals_in c.args.scope.now) c.args.doing c.args.x.now c.in-Filled.len c.in-Filled.value c.in-Filled.is) (grind (arith, common_steps))

pub push_given-returns-then-opens-clause-opens : goal.push_given-returns-then-opens-clause-opens
push_given-returns-then-opens-clause-opens t c =
    c.is_place.ensures
    ∙ sym (parts.opens_true (tree_in c.args.scope.now) (locals_in c.args.scope.now) c.args.way c.args.conv c.args.arg.now c.in-Value.x c.in-Value.is (sym c.opens.ensures ∙ c.if-opens.true))

pub push_given-returns-else-opens-clause-opens : goal.push_given-returns-else-opens-clause-opens
push_given-returns-else-opens-clause-opens t c =
    c.if-opens.false
    ∙ sym (parts.opens_false (tree_in c.args.scope.now) (locals_in c.args.scope.now) c.args.way c.args.conv c.args.arg.now c.in-Value.x c.in-Value.is (sym c.opens.ensures ∙ c.if-opens.false))

pub push_index-returns-in-Field : goal.push_index-returns-in-Field
push_index-returns-in-Field t c =
    sym (ap (λ o. c.args.plan.now ++ o) (parts.index_field (tree_in c.args.scope.now) (locals_in c.args.scope.now) c.args.step.now c.in-Field.field-0 c.in-Field.is) ∙ append-nil c.args.plan.now)

pub push_index-returns-in_ok-push-in-Index : goal.push_index-returns-in_ok-push-in-Index
push_index-returns-in_ok-push-in-Index t c =
    rw (parts.index_index (tree_in c.args.scope.now) (locals_in c.args.scope.now) c.args.step.now c.in-Index.field-0 c.in-Index.index c.in-Index.is) (grind (arith, common_steps))

pub push_indices-loop-step-preserved : goal.push_indices-loop-step-preserved
push_indices-loop-step-preserved t c =
    extended c.loop-step.plan c.push_index.new.plan _ _ _ _ c.in_ok-push_index.ensures
    (parts.indices_next (tree_in c.args.scope.now) (locals_in c.args.scope.now) c.args.steps.now c.loop-step.step-index c.step-item.result c.loop-step-test.true c.step-item.is) c.loop-step.invariant

pub push_links-loop-operator-preserved : goal.push_links-loop-operator-preserved
push_links-loop-operator-preserved t c =
    extended c.loop-operator.plan c.push_link.new.plan _ _ _ _ c.in_ok-push_link.ensures
    (parts.links_next (tree_in c.args.scope.now) (locals_in c.args.scope.now) c.args.links.now c.loop-operator.operator-index c.loop-operator-item.result c.loop-operator-test.true c.loop-operator-item.is) c.loop-operator.invariant

pub push_parts-loop-part-preserved : goal.push_parts-loop-part-preserved
push_parts-loop-part-preserved t c =
    extended c.loop-part.plan c.push_expr.new.plan _ _ _ _ (two_added c.loop-part.plan c.push.new.self c.push_expr.new.plan _ op.Then c.in_ok-push.ensures.ok c.in_ok-push_expr.ensures)
    (ap (plans.plan_parts (tree_in c.args.scope.now) (locals_in c.args.scope.now)) (first_left c.args.parts.now c.loop-part.part-index c.part-item.result c.loop-part-test.true c.part-item.is)) c.loop-part.invariant
