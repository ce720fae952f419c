use Rattle.std.proofs.Common.{◌≡◌, drop}
use Rattle.hv_rules.specs.States.{fields_of}
use Rattle.hv_init_leaves.specs.Reached as spec
use Rattle.hv_init_leaves.proofs.reached.walked.Given as goal

abbrev pub invariant-loop-step : goal.invariant-loop-step
invariant-loop-step l = spec.walked l.sizes l.reached (fields_of (drop l.step-index l.steps)) ≡ spec.walked l.sizes l.fn.from (fields_of l.steps)
