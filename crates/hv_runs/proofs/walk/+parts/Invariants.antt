use Rattle.std.proofs.Common.{◌≡◌, drop}
use Rattle.hv_runs.specs.Parts as parts
use Rattle.hv_runs.proofs.walk.+parts.Given as goal

abbrev pub invariant-exprs_run-loop-x : goal.invariant-exprs_run-loop-x
invariant-exprs_run-loop-x l = parts.exprs_run (drop l.x-index l.xs) ≡ parts.exprs_run l.fn.xs

abbrev pub invariant-links_run-loop-operand : goal.invariant-links_run-loop-operand
invariant-links_run-loop-operand l = parts.links_run (drop l.operand-index l.links) ≡ parts.links_run l.fn.links

abbrev pub invariant-steps_run-loop-step : goal.invariant-steps_run-loop-step
invariant-steps_run-loop-step l = parts.steps_run (drop l.step-index l.steps) ≡ parts.steps_run l.fn.steps

abbrev pub invariant-args_run-loop-arg : goal.invariant-args_run-loop-arg
invariant-args_run-loop-arg l = parts.args_run (drop l.arg-index l.args) ≡ parts.args_run l.fn.args

abbrev pub invariant-stmts_run-loop-stmt : goal.invariant-stmts_run-loop-stmt
invariant-stmts_run-loop-stmt l = parts.stmts_run (drop l.stmt-index l.stmts) ≡ parts.stmts_run l.fn.stmts

abbrev pub invariant-branches_run-loop-branch : goal.invariant-branches_run-loop-branch
invariant-branches_run-loop-branch l = parts.branches_run (drop l.branch-index l.branches) ≡ parts.branches_run l.fn.branches
