use Rattle.std.proofs.Common.{◌≡◌, ◌++◌, drop}
use Rattle.std.specs.Option.{option_copied}
use Rattle.hv_tree.specs.Core.{core_steps, core_tree}
use Rattle.hv_decls.specs.Statics as statics
use Rattle.hv_scope.specs.Known.{typed}
use Rattle.hv_flow_plan.proofs.paths.static_steps.Given as goal

abbrev pub invariant-loop-step : goal.invariant-loop-step
invariant-loop-step l = l.path ++ statics.static_steps (core_tree l.declared) (typed (option_copied l.known)) (core_steps (drop l.step-index l.steps)) ≡ statics.static_steps (core_tree l.declared) (typed (option_copied l.ty)) (core_steps l.steps)
