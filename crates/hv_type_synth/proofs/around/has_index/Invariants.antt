use Rattle.std.proofs.Common.{◌≡◌, drop}
use Rattle.hv_tree.specs.Core.{core_steps}
use Rattle.hv_type_synth.specs.Tests as tests
use Rattle.hv_type_synth.proofs.around.has_index.Given as goal

abbrev pub invariant-loop-step : goal.invariant-loop-step
invariant-loop-step l = tests.has_index (core_steps (drop l.step-index l.steps)) ≡ tests.has_index (core_steps l.steps)
