use Rattle.std.proofs.Common.{◌≡◌, ◌++◌, drop, length}
use Rattle.hv_scope.specs.Oldest.{oldest}
use Rattle.hv_types.specs.Walked as walked
use Rattle.hv_types.proofs.walk.+parts.Given as goal

abbrev pub invariant-walk_exprs-loop-x : goal.invariant-walk_exprs-loop-x
invariant-walk_exprs-loop-x l = l.found.items ++ walked.exprs_walked l.program l.visible l.returned (drop l.x-index l.xs) ≡ l.fn.found.items ++ walked.exprs_walked l.program l.visible l.returned l.fn.xs

abbrev pub invariant-walk_links-loop-operand : goal.invariant-walk_links-loop-operand
invariant-walk_links-loop-operand l = l.found.items ++ walked.links_walked l.program l.visible l.returned (drop l.operand-index l.links) ≡ l.fn.found.items ++ walked.links_walked l.program l.visible l.returned l.fn.links

abbrev pub invariant-walk_steps-loop-step : goal.invariant-walk_steps-loop-step
invariant-walk_steps-loop-step l = l.found.items ++ walked.steps_walked l.program l.visible l.returned (drop l.step-index l.steps) ≡ l.fn.found.items ++ walked.steps_walked l.program l.visible l.returned l.fn.steps

abbrev pub invariant-walk_args-loop-arg : goal.invariant-walk_args-loop-arg
invariant-walk_args-loop-arg l = l.found.items ++ walked.args_walked l.program l.visible l.returned (drop l.arg-index l.args) ≡ l.fn.found.items ++ walked.args_walked l.program l.visible l.returned l.fn.args

abbrev pub invariant-walk_stmts-loop-stmt : goal.invariant-walk_stmts-loop-stmt
invariant-walk_stmts-loop-stmt l =
    (l.found.items ++ walked.stmts_walked l.program l.visible l.returned (drop l.stmt-index l.stmts) ≡ l.fn.found.items ++ walked.stmts_walked l.program l.fn.visible l.returned l.fn.stmts)
    × (oldest (length l.fn.visible) l.visible ≡ l.fn.visible)

abbrev pub invariant-walk_branches-loop-branch : goal.invariant-walk_branches-loop-branch
invariant-walk_branches-loop-branch l =
    (l.found.items ++ walked.branches_walked l.program l.visible l.returned (drop l.branch-index l.branches) ≡ l.fn.found.items ++ walked.branches_walked l.program l.fn.visible l.returned l.fn.branches) × (l.visible ≡ l.fn.visible)
