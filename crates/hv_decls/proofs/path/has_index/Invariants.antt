use Rattle.std.proofs.Common.{◌≡◌, drop}
use Rattle.hv_decls.specs.Paths.{has_index}
use Rattle.hv_decls.proofs.path.has_index.Given as goal

abbrev pub invariant-loop-step : goal.invariant-loop-step
invariant-loop-step l = has_index (drop l.step-index l.steps) ≡ has_index l.steps
