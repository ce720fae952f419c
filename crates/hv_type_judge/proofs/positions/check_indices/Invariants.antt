use Rattle.std.proofs.Common.{◌≡◌, ◌++◌, drop}
use Rattle.std.specs.Option.{option_copied}
use Rattle.hv_scope.specs.Known.{typed}
use Rattle.hv_type_judge.specs.Seen as seen
use Rattle.hv_type_judge.proofs.positions.check_indices.Given as goal

abbrev pub invariant-loop-step : goal.invariant-loop-step
invariant-loop-step l = l.found.items ++ seen.step_t1 l.around (typed (option_copied l.known)) (drop l.step-index l.steps) ≡ l.fn.found.items ++ seen.step_t1 l.around (typed (option_copied l.ty)) l.steps
