use Rattle.std.proofs.Common.{sym, ap, ◌∙◌, drop, ◌+◌}
use Rattle.std.specs.Option.{option_copied}
use Rattle.hv_tree.specs.Core.{core_steps, core_tree}
use Rattle.hv_decls.specs.Statics as statics
use Rattle.hv_scope.specs.Known.{typed}
use Rattle.hv_scope.proofs.TypeLemmas.{behind_next}
use Rattle.hv_scope.proofs.types.type_behind.Goals as goal

pub loop-step-preserved : goal.loop-step-preserved
loop-step-preserved c =
    ap (λ t. statics.type_behind (core_tree c.args.declared.now) t (core_steps (drop (c.loop-step.step-index + 1) c.args.steps.now))) c.behind-known.ensures
    ∙ sym (behind_next (core_tree c.args.declared.now) (typed (option_copied c.loop-step.known)) c.args.steps.now c.loop-step.step-index c.step-item.result c.loop-step-test.true c.step-item.is)
    ∙ c.loop-step.invariant
