use Rattle.std.proofs.Common.{◌≡◌, ◌++◌, drop, ap, ◌∙◌, ◌+◌}
use Rattle.hv_type_names.specs.Parts as parts
use Rattle.hv_lemmas.proofs.Lists.{extended}
use Rattle.hv_type_names.proofs.Parts.{steps_next, args_next, branches_next}
use Rattle.hv_type_names.proofs.walk.+parts.Goals as goal

pub walk_steps-loop-step-preserved : goal.walk_steps-loop-step-preserved
walk_steps-loop-step-preserved t c =
    extended c.loop-step.found.items c.walk_step.new.found.items _ _ _ _ c.in_ok-walk_step.ensures
    (steps_next c.args.program.now c.args.seen.now c.args.steps.now c.loop-step.step-index c.step-item.result c.loop-step-test.true c.step-item.is) c.loop-step.invariant

pub walk_args-loop-arg-preserved : goal.walk_args-loop-arg-preserved
walk_args-loop-arg-preserved t c =
    extended c.loop-arg.found.items c.walk_arg.new.found.items _ _ _ _ c.in_ok-walk_arg.ensures
    (args_next c.args.program.now c.args.seen.now c.args.args.now c.loop-arg.arg-index c.arg-item.result c.loop-arg-test.true c.arg-item.is) c.loop-arg.invariant

pub walk_branches-loop-branch-preserved : goal.walk_branches-loop-branch-preserved
walk_branches-loop-branch-preserved t c =
    let same : c.walk_branch.new.seen ≡ c.loop-branch.seen = c.in_ok-walk_branch.ensures.seen in (
      ap (λ s. c.walk_branch.new.found.items ++ parts.branches_found c.args.program.now s (drop (c.loop-branch.branch-index + 1) c.args.branches.now)) same
          ∙ extended c.loop-branch.found.items c.walk_branch.new.found.items _ _ _ _ c.in_ok-walk_branch.ensures.found
          (branches_next c.args.program.now c.loop-branch.seen c.args.branches.now c.loop-branch.branch-index c.branch-item.result c.loop-branch-test.true c.branch-item.is) c.loop-branch.invariant.0,
      same ∙ c.loop-branch.invariant.1,
    )
