use Rattle.std.proofs.Common.{◌≡◌, ◌++◌, drop, take, length}
use Rattle.hv_type_names.specs.Parts as parts
use Rattle.hv_type_names.proofs.walk.+parts.Given as goal

abbrev pub invariant-walk_exprs-loop-x : goal.invariant-walk_exprs-loop-x
invariant-walk_exprs-loop-x l = l.found.items ++ parts.exprs_found l.program l.seen (drop l.x-index l.xs) ≡ l.fn.found.items ++ parts.exprs_found l.program l.seen l.fn.xs

abbrev pub invariant-walk_links-loop-operand : goal.invariant-walk_links-loop-operand
invariant-walk_links-loop-operand l = l.found.items ++ parts.links_found l.program l.seen (drop l.operand-index l.links) ≡ l.fn.found.items ++ parts.links_found l.program l.seen l.fn.links

abbrev pub invariant-walk_steps-loop-step : goal.invariant-walk_steps-loop-step
invariant-walk_steps-loop-step l = l.found.items ++ parts.steps_found l.program l.seen (drop l.step-index l.steps) ≡ l.fn.found.items ++ parts.steps_found l.program l.seen l.fn.steps

abbrev pub invariant-walk_args-loop-arg : goal.invariant-walk_args-loop-arg
invariant-walk_args-loop-arg l = l.found.items ++ parts.args_found l.program l.seen (drop l.arg-index l.args) ≡ l.fn.found.items ++ parts.args_found l.program l.seen l.fn.args

abbrev pub invariant-walk_stmts-loop-stmt : goal.invariant-walk_stmts-loop-stmt
invariant-walk_stmts-loop-stmt l =
    (l.found.items ++ parts.stmts_found l.program l.seen (drop l.stmt-index l.stmts) ≡ l.fn.found.items ++ parts.stmts_found l.program l.fn.seen l.fn.stmts) × (take (length l.fn.seen) l.seen ≡ l.fn.seen)

abbrev pub invariant-walk_branches-loop-branch : goal.invariant-walk_branches-loop-branch
invariant-walk_branches-loop-branch l =
    (l.found.items ++ parts.branches_found l.program l.seen (drop l.branch-index l.branches) ≡ l.fn.found.items ++ parts.branches_found l.program l.fn.seen l.fn.branches) × (l.seen ≡ l.fn.seen)
