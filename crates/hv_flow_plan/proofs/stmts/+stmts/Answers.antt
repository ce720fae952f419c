use Rattle.std.proofs.Common.{◌++◌, ◌+◌, ap, ◌∙◌, arith, drop}
use Rattle.std.proofs.lemmas.Grind.{common_steps}
use Rattle.hv_flow_plan.specs.declared.plan.FlowOp.TheVariants as op
use Rattle.hv_flow_plan.specs.Scopes.{tree_in, locals_in}
use Rattle.hv_flow_plan.specs.StmtPlans as plans
use Rattle.hv_lemmas.proofs.Lists.{extended, two_added}
use Rattle.hv_flow_plan.proofs.StmtLemmas as parts
use Rattle.hv_flow_plan.proofs.VariantPlans as variants
use Rattle.hv_flow_plan.proofs.stmts.+stmts.Goals as goal

pub push_block-returns-clause-plan : goal.push_block-returns-clause-plan
push_block-returns-clause-plan t c = rw (parts.block_plan (tree_in c.args.scope.now) (locals_in c.args.scope.now) c.args.next.now c.args.block.now) (grind (arith, common_steps))

pub push_branches-loop-branch-preserved : goal.push_branches-loop-branch-preserved
push_branches-loop-branch-preserved t c = (
  ap (λ n. c.push_branch.new.plan ++ plans.plan_tests (tree_in c.args.scope.now) (locals_in c.args.scope.now) n (drop (c.loop-branch.branch-index + 1) c.args.branches.now)) c.in_ok-push_branch.ensures.next
      ∙ extended c.loop-branch.plan c.push_branch.new.plan _ _ _ _ c.in_ok-push_branch.ensures.plan
      (parts.tests_next (tree_in c.args.scope.now) (locals_in c.args.scope.now) c.loop-branch.next c.args.branches.now c.loop-branch.branch-index c.branch-item.result c.loop-branch-test.true c.branch-item.is)
      c.loop-branch.invariant.0,
  let counted = parts.tests_counted_next c.args.branches.now c.loop-branch.branch-index c.branch-item.result c.loop-branch-test.true c.branch-item.is in
      omega (arith, counted, c.in_ok-push_branch.ensures.next, c.loop-branch.invariant.1),
)

pub push_stmt-returns-in_ok-push_block-in-While-clause-plan : goal.push_stmt-returns-in_ok-push_block-in-While-clause-plan
push_stmt-returns-in_ok-push_block-in-While-clause-plan t c =
    rw (variants.stmt_while (tree_in c.args.scope.now) (locals_in c.args.scope.now) c.args.next.now c.args.stmt.now c.in-While.test c.in-While.body c.in-While.is) (grind (arith, common_steps))

pub push_stmts-loop-stmt-preserved : goal.push_stmts-loop-stmt-preserved
push_stmts-loop-stmt-preserved t c = (
  ap (λ n. c.push_stmt.new.plan ++ plans.plan_stmts (tree_in c.args.scope.now) (locals_in c.args.scope.now) n (drop (c.loop-stmt.stmt-index + 1) c.args.stmts.now)) c.in_ok-push_stmt.ensures.next
      ∙ extended c.loop-stmt.plan c.push_stmt.new.plan _ _ _ _ (two_added c.loop-stmt.plan c.push.new.self c.push_stmt.new.plan _ op.Then c.in_ok-push.ensures.ok c.in_ok-push_stmt.ensures.plan)
      (parts.stmts_next (tree_in c.args.scope.now) (locals_in c.args.scope.now) c.loop-stmt.next c.args.stmts.now c.loop-stmt.stmt-index c.stmt-item.result c.loop-stmt-test.true c.stmt-item.is)
      c.loop-stmt.invariant.0,
  let counted = parts.stmts_counted c.args.stmts.now c.loop-stmt.stmt-index c.stmt-item.result c.loop-stmt-test.true c.stmt-item.is in
      omega (arith, counted, c.in_ok-push_stmt.ensures.next, c.loop-stmt.invariant.1),
)

pub push_stmt-returns-in_ok-push_branches-in-If-clause-plan : goal.push_stmt-returns-in_ok-push_branches-in-If-clause-plan
push_stmt-returns-in_ok-push_branches-in-If-clause-plan t c =
    rw (variants.stmt_if (tree_in c.args.scope.now) (locals_in c.args.scope.now) c.args.next.now c.args.stmt.now c.in-If.branches c.in-If.otherwise c.in-If.is) (grind (arith, common_steps))

pub push_stmt-returns-in_ok-push_branches-in-If-clause-next : goal.push_stmt-returns-in_ok-push_branches-in-If-clause-next
push_stmt-returns-in_ok-push_branches-in-If-clause-next t c = rw (variants.count_if c.args.stmt.now c.in-If.branches c.in-If.otherwise c.in-If.is) (grind (arith, common_steps))
