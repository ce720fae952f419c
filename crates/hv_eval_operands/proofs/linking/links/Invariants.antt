use Rattle.std.proofs.Common.{◌≡◌, drop}
use Rattle.std.specs.Option.{option_copied}
use Rattle.hv_tree.specs.Core.{core_steps}
use Rattle.hv_sem_flat.specs.Flat.{links_from}
use Rattle.hv_scope.specs.Known.{typed}
use Rattle.hv_partial.specs.Ways.{links_of}
use Rattle.hv_eval_state.specs.Gives.{from}
use Rattle.hv_eval_env.specs.Level.{tree_in, locals_in, deeper_in}
use Rattle.hv_eval_operands.specs.Links.{links_in}
use Rattle.hv_eval_operands.proofs.linking.links.Given as goal

abbrev pub invariant-loop-step : goal.invariant-loop-step
invariant-loop-step g l =
    from (links_in l.parts.level (typed (option_copied l.ty)) l.steps) l.used l.fn.task
    ≡ from (links_from (tree_in l.parts.level) (locals_in l.parts.level) (deeper_in l.parts.level) (links_of l.links) (typed (option_copied l.known)) (core_steps (drop l.step-index l.steps))) l.used l.task
