use Rattle.std.proofs.Common.{rules, drop, ◌+◌, sym, ap, ◌∙◌}
use Rattle.std.specs.Option.{option_copied}
use Rattle.hv_tree.specs.Core.{core_steps}
use Rattle.hv_sem_flat.specs.Flat.{links_from}
use Rattle.hv_scope.specs.Known.{typed}
use Rattle.hv_partial.specs.Ways.{link_of, links_of}
use Rattle.hv_eval_state.specs.Gives.{from}
use Rattle.hv_eval_env.specs.Level.{tree_in, locals_in, deeper_in}
use Rattle.hv_eval_operands.specs.Links.{links_in, link_in, linked}
use Rattle.hv_eval_operands.proofs.LinkLemmas.{behind, steps_next}
use Rattle.hv_eval_operands.proofs.Runs.{goes, ends, pushed}
use Rattle.hv_eval_operands.proofs.linking.links.Goals as goal

pub returns-in_err-link : goal.returns-in_err-link
returns-in_err-link g c =
    let l = c.args.parts.now.level in
    let known = typed (option_copied c.loop-step.known) in
    ends (link_in l known c.step-item.result) (behind l (links_of c.loop-step.links) known (core_steps (drop (c.loop-step.step-index + 1) c.args.steps.now))) (links_in l (typed (option_copied c.args.ty)) c.args.steps.now) _ c.args.used c.args.task.now c.loop-step.task c.link.new.task
    c.loop-step.invariant (steps_next l (links_of c.loop-step.links) known c.args.steps.now c.loop-step.step-index c.step-item.result c.loop-step-test.true c.step-item.is)
    links_of c.in_err-link.field-0.0 c.from_residual.result (search rules) c.in_err-link.ensures

pub loop-step-preserved : goal.loop-step-preserved
loop-step-preserved g c =
    let l = c.args.parts.now.level in
    let known = typed (option_copied c.loop-step.known) in
    let left = core_steps (drop (c.loop-step.step-index + 1) c.args.steps.now) in
    goes (link_in l known c.step-item.result) (behind l (links_of c.loop-step.links) known left) (links_in l (typed (option_copied c.args.ty)) c.args.steps.now) _ c.args.used c.args.task.now c.loop-step.task c.link.new.task
    c.loop-step.invariant (steps_next l (links_of c.loop-step.links) known c.args.steps.now c.loop-step.step-index c.step-item.result c.loop-step-test.true c.step-item.is)
    (linked (c.in_ok-link.link, c.in_ok-link.behind)) c.in_ok-link.ensures
    ∙ ap (λ ls. from (links_from (tree_in l) (locals_in l) (deeper_in l) ls (typed (option_copied c.in_ok-link.behind)) left) c.args.used c.link.new.task)
    (sym (pushed link_of c.loop-step.links c.push.new.self c.in_ok-link.link c.in_ok-push.ensures.ok))
