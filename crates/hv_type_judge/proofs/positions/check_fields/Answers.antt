use Rattle.std.proofs.Common.{◌++◌, ◌+◌, drop, ap, ◌∙◌}
use Rattle.std.specs.Option.{option_copied}
use Rattle.hv_scope.specs.Known.{typed}
use Rattle.hv_type_judge.specs.Seen as seen
use Rattle.hv_lemmas.proofs.Lists.{extended}
use Rattle.hv_type_judge.proofs.Steps.{next_t3}
use Rattle.hv_type_judge.proofs.positions.check_fields.Goals as goal

pub loop-step-preserved : goal.loop-step-preserved
loop-step-preserved c =
    ap (λ u. c.check_field.new.found.items ++ seen.step_t3 c.args.around.now u (drop (c.loop-step.step-index + 1) c.args.steps.now)) c.behind-known.ensures
    ∙ extended c.loop-step.found.items c.check_field.new.found.items _ _ _ _ c.in_ok-check_field.ensures
    (next_t3 c.args.around.now (typed (option_copied c.loop-step.known)) c.args.steps.now c.loop-step.step-index c.step-item.result c.loop-step-test.true c.step-item.is) c.loop-step.invariant
