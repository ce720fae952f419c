use Rattle.std.proofs.Common.{◌≡◌, drop}
use Rattle.hv_value.specs.Places.{get}
use Rattle.hv_partial.specs.HeldTree.{held_tree}
use Rattle.hv_partial.proofs.place.get.Given as goal

abbrev pub invariant-loop-step : goal.invariant-loop-step
invariant-loop-step l = get (held_tree l.place) (drop l.step-index l.path) ≡ get (held_tree l.held) l.path
