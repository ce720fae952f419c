use Rattle.std.proofs.Common.{◌≡◌, ◌+◌, ◌++◌, drop}
use Rattle.hv_flow_plan.specs.Scopes.{tree_in, locals_in}
use Rattle.hv_flow_plan.specs.StmtPlans as plans
use Rattle.hv_flow_plan.proofs.stmts.+stmts.Given as goal

abbrev pub invariant-push_stmts-loop-stmt : goal.invariant-push_stmts-loop-stmt
invariant-push_stmts-loop-stmt l = (l.plan ++ plans.plan_stmts (tree_in l.scope) (locals_in l.scope) l.next (drop l.stmt-index l.stmts) ≡ l.fn.plan ++ plans.plan_stmts (tree_in l.scope) (locals_in l.scope) l.fn.next l.stmts)
    × (l.next + plans.stmts_locals (drop l.stmt-index l.stmts) ≡ l.fn.next + plans.stmts_locals l.stmts)

abbrev pub invariant-push_branches-loop-branch : goal.invariant-push_branches-loop-branch
invariant-push_branches-loop-branch l =
    (l.plan ++ plans.plan_tests (tree_in l.scope) (locals_in l.scope) l.next (drop l.branch-index l.branches) ≡ l.fn.plan ++ plans.plan_tests (tree_in l.scope) (locals_in l.scope) l.fn.next l.branches)
    × (l.next + plans.tests_locals (drop l.branch-index l.branches) ≡ l.fn.next + plans.tests_locals l.branches)
