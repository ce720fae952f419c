use Rattle.std.proofs.Common.{arith}
use Rattle.hv_flow_ends.proofs.Variants.{stmts_counted, tests_counted}
use Rattle.hv_flow_ends.proofs.count.+counts.Goals as goal

pub count_stmts-loop-stmt-preserved : goal.count_stmts-loop-stmt-preserved
count_stmts-loop-stmt-preserved t c =
    let next = stmts_counted c.args.stmts.now c.loop-stmt.stmt-index c.stmt-item.result c.loop-stmt-test.true c.stmt-item.is in
    omega (arith, next, c.in_ok-count_stmt.ensures, c.in_ok-count.ensures, c.loop-stmt.invariant)

pub count_tests-loop-branch-preserved : goal.count_tests-loop-branch-preserved
count_tests-loop-branch-preserved t c =
    let next = tests_counted c.args.branches.now c.loop-branch.branch-index c.branch-item.result c.loop-branch-test.true c.branch-item.is in
    omega (arith, next, c.in_ok-count_block.ensures, c.in_ok-count.ensures, c.loop-branch.invariant)
