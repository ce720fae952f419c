use Rattle.std.proofs.Common.{◌+◌, drop}
use Rattle.hv_runs.specs.Parts as parts
use Rattle.hv_runs.proofs.Parts.{steps_next, args_next, branches_next, stops, goes_on}
use Rattle.hv_runs.proofs.walk.+parts.Goals as goal

pub steps_run-returns-then-not-step_runs : goal.steps_run-returns-then-not-step_runs
steps_run-returns-then-not-step_runs t c =
    let i = c.loop-step.step-index in
    let all = c.args.steps.now in
    let x = c.step-item.result in
    stops (parts.steps_run (drop i all)) (parts.step_runs x) (parts.steps_run (drop (i + 1) all)) (parts.steps_run all)
    (steps_next all i x c.loop-step-test.true c.step-item.is) c.loop-step.invariant cc

pub steps_run-loop-step-preserved : goal.steps_run-loop-step-preserved
steps_run-loop-step-preserved t c =
    let i = c.loop-step.step-index in
    let all = c.args.steps.now in
    let x = c.step-item.result in
    goes_on (parts.steps_run (drop i all)) (parts.step_runs x) (parts.steps_run (drop (i + 1) all)) (parts.steps_run all)
    (steps_next all i x c.loop-step-test.true c.step-item.is) c.loop-step.invariant cc

pub args_run-returns-then-not-arg_runs : goal.args_run-returns-then-not-arg_runs
args_run-returns-then-not-arg_runs t c =
    let i = c.loop-arg.arg-index in
    let all = c.args.args.now in
    let x = c.arg-item.result in
    stops (parts.args_run (drop i all)) (parts.arg_runs x) (parts.args_run (drop (i + 1) all)) (parts.args_run all)
    (args_next all i x c.loop-arg-test.true c.arg-item.is) c.loop-arg.invariant cc

pub args_run-loop-arg-preserved : goal.args_run-loop-arg-preserved
args_run-loop-arg-preserved t c =
    let i = c.loop-arg.arg-index in
    let all = c.args.args.now in
    let x = c.arg-item.result in
    goes_on (parts.args_run (drop i all)) (parts.arg_runs x) (parts.args_run (drop (i + 1) all)) (parts.args_run all)
    (args_next all i x c.loop-arg-test.true c.arg-item.is) c.loop-arg.invariant cc

pub branches_run-returns-then-not-branch_runs : goal.branches_run-returns-then-not-branch_runs
branches_run-returns-then-not-branch_runs t c =
    let i = c.loop-branch.branch-index in
    let all = c.args.branches.now in
    let x = c.branch-item.result in
    stops (parts.branches_run (drop i all)) (parts.branch_runs x) (parts.branches_run (drop (i + 1) all)) (parts.branches_run all)
    (branches_next all i x c.loop-branch-test.true c.branch-item.is) c.loop-branch.invariant cc

pub branches_run-loop-branch-preserved : goal.branches_run-loop-branch-preserved
branches_run-loop-branch-preserved t c =
    let i = c.loop-branch.branch-index in
    let all = c.args.branches.now in
    let x = c.branch-item.result in
    goes_on (parts.branches_run (drop i all)) (parts.branch_runs x) (parts.branches_run (drop (i + 1) all)) (parts.branches_run all)
    (branches_next all i x c.loop-branch-test.true c.branch-item.is) c.loop-branch.invariant cc
