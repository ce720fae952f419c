use Rattle.std.proofs.Common.{arith}
use Rattle.std.proofs.lemmas.Grind.{common_steps}
use Rattle.std.specs.Option.{option_copied}
use Rattle.hv_tree.specs.Core.{core_tree}
use Rattle.hv_scope.specs.Known.{typed}
use Rattle.hv_flow_plan.proofs.TypeLemmas.{steps_next}
use Rattle.hv_flow_plan.proofs.paths.static_steps.Goals as goal

pub loop-step-preserved : goal.loop-step-preserved
loop-step-preserved c =
    let next = steps_next (core_tree c.args.declared.now) (typed (option_copied c.loop-step.known)) c.args.steps.now c.loop-step.step-index c.step-item.result c.loop-step-test.true c.step-item.is in
    grind (arith, common_steps)
