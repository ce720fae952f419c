use Rattle.std.proofs.lemmas.Result.{on_ok_weaker}
use Rattle.std.proofs.Common.{refl, ◌≡◌, ◌++◌, map, length, drop, ap, sym, ◌∙◌, ◌+◌}
use Rattle.hv_scope.proofs.OldestLemmas.{oldest_twice, oldest_same}
use Rattle.hv_tree.specs.Core.{core_stmt}
use Rattle.hv_decls.specs.Locals.{binds, listed}
use Rattle.hv_scope.specs.Oldest.{oldest}
use Rattle.hv_scope.specs.Known.{local_by}
use Rattle.hv_lemmas.proofs.Lists.{extended, three}
use Rattle.hv_types.specs.Walked as walked
use Rattle.hv_types.proofs.Walks.{call_split, exprs_next, links_next, steps_next, args_next, branches_next, stmts_next}
use Rattle.hv_types.proofs.walk.+parts.Goals as goal

pub walk_exprs-loop-x-preserved : goal.walk_exprs-loop-x-preserved
walk_exprs-loop-x-preserved t c =
    extended c.loop-x.found.items c.walk_expr.new.found.items _ _ _ _ c.in_ok-walk_expr.ensures
    (exprs_next c.args.program.now c.args.visible.now c.args.returned.now c.args.xs.now c.loop-x.x-index c.x-item.result c.loop-x-test.true c.x-item.is) c.loop-x.invariant

pub walk_links-loop-operand-preserved : goal.walk_links-loop-operand-preserved
walk_links-loop-operand-preserved t c =
    extended c.loop-operand.found.items c.walk_expr.new.found.items _ _ _ _ c.in_ok-walk_expr.ensures
    (links_next c.args.program.now c.args.visible.now c.args.returned.now c.args.links.now c.loop-operand.operand-index c.loop-operand-item.result c.loop-operand-test.true c.loop-operand-item.is) c.loop-operand.invariant

pub walk_steps-loop-step-preserved : goal.walk_steps-loop-step-preserved
walk_steps-loop-step-preserved t c =
    extended c.loop-step.found.items c.walk_step.new.found.items _ _ _ _ c.in_ok-walk_step.ensures
    (steps_next c.args.program.now c.args.visible.now c.args.returned.now c.args.steps.now c.loop-step.step-index c.step-item.result c.loop-step-test.true c.step-item.is) c.loop-step.invariant

pub walk_args-loop-arg-preserved : goal.walk_args-loop-arg-preserved
walk_args-loop-arg-preserved t c =
    extended c.loop-arg.found.items c.walk_arg.new.found.items _ _ _ _ c.in_ok-walk_arg.ensures
    (args_next c.args.program.now c.args.visible.now c.args.returned.now c.args.args.now c.loop-arg.arg-index c.arg-item.result c.loop-arg-test.true c.arg-item.is) c.loop-arg.invariant

pub walk_branches-loop-branch-preserved : goal.walk_branches-loop-branch-preserved
walk_branches-loop-branch-preserved t c =
    let same : c.walk_branch.new.visible ≡ c.loop-branch.visible = c.in_ok-walk_branch.ensures.visible in (
      ap (λ s. c.walk_branch.new.found.items ++ walked.branches_walked c.args.program.now s c.args.returned.now (drop (c.loop-branch.branch-index + 1) c.args.branches.now)) same
          ∙ extended c.loop-branch.found.items c.walk_branch.new.found.items _ _ _ _ c.in_ok-walk_branch.ensures.found
          (branches_next c.args.program.now c.loop-branch.visible c.args.returned.now c.args.branches.now c.loop-branch.branch-index c.branch-item.result c.loop-branch-test.true c.branch-item.is) c.loop-branch.invariant.0,
      same ∙ c.loop-branch.invariant.1,
    )

pub walk_stmts-loop-stmt-preserved : goal.walk_stmts-loop-stmt-preserved
walk_stmts-loop-stmt-preserved t c =
    let same : c.walk_stmt.new.visible ≡ c.loop-stmt.visible = c.in_ok-walk_stmt.ensures.visible in
    let seen = c.in_ok-push_bound.ensures.seen ∙ ap (λ v. listed (binds (core_stmt c.stmt-item.result)) ++ map local_by v) same in
    let kept = sym (ap (λ v. oldest (length v) c.push_bound.new.visible) same) ∙ c.in_ok-push_bound.ensures.kept ∙ same in (
      extended c.loop-stmt.found.items c.walk_stmt.new.found.items _ _ _ _ c.in_ok-walk_stmt.ensures.found
          (stmts_next c.args.program.now c.loop-stmt.visible c.push_bound.new.visible c.args.returned.now c.args.stmts.now c.loop-stmt.stmt-index c.stmt-item.result c.loop-stmt-test.true c.stmt-item.is seen)
          c.loop-stmt.invariant.0,
      oldest_twice c.args.visible.now c.loop-stmt.visible c.push_bound.new.visible kept c.loop-stmt.invariant.1,
    )

pub walk_stmts-loop-stmt-init : goal.walk_stmts-loop-stmt-init
walk_stmts-loop-stmt-init t c = (refl, oldest_same c.args.visible.now)

pub walk_call-returns : goal.walk_call-returns
walk_call-returns t c =
    on_ok_weaker c.walk_args.result
    (λ e. three c.args.found.now.items c.call_here.new.found.items c.walk_place.new.found.items c.walk_args.new.found.items _ _ _ _ c.in_ok-call_here.ensures c.in_ok-walk_place.ensures
    (e ∙ ap (λ l. c.walk_place.new.found.items ++ walked.args_walked c.args.program.now c.args.visible.now c.args.returned.now l) c.as_slice.ensures)
    (call_split c.args.program.now c.args.visible.now c.args.returned.now c.args.call.now))
    c.walk_args.ensures
