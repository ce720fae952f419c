use Rattle.std.proofs.Common.{◌≡◌, ◌+◌, drop}
use Rattle.hv_flow_ends.specs.Walked as spec
use Rattle.hv_flow_ends.proofs.count.+counts.Given as goal

abbrev pub invariant-count_stmts-loop-stmt : goal.invariant-count_stmts-loop-stmt
invariant-count_stmts-loop-stmt l = l.count + spec.stmts_locals (drop l.stmt-index l.stmts) ≡ spec.stmts_locals l.stmts

abbrev pub invariant-count_tests-loop-branch : goal.invariant-count_tests-loop-branch
invariant-count_tests-loop-branch l = l.count + spec.tests_locals (drop l.branch-index l.branches) ≡ spec.tests_locals l.branches
