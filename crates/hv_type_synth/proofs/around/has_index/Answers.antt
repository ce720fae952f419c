use Rattle.std.proofs.Common.{sym, ◌∙◌}
use Rattle.hv_type_synth.proofs.Loops.{index_found, index_later}
use Rattle.hv_type_synth.proofs.around.has_index.Goals as goal

pub returns-then-is_index : goal.returns-then-is_index
returns-then-is_index c =
    index_found c.args.steps.now c.loop-step.step-index c.step-item.result _ c.loop-step-test.true c.step-item.is (sym c.is_index.ensures ∙ c.if-is_index.true) c.loop-step.invariant

pub loop-step-preserved : goal.loop-step-preserved
loop-step-preserved c =
    index_later c.args.steps.now c.loop-step.step-index c.step-item.result _ c.loop-step-test.true c.step-item.is (sym c.is_index.ensures ∙ c.if-is_index.false) c.loop-step.invariant
