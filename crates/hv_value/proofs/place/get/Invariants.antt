use Rattle.std.proofs.Common.{◌≡◌, drop}
use Rattle.hv_value.specs.ValueTree.{tree_of}
use Rattle.hv_value.specs.Places.{get}
use Rattle.hv_value.proofs.place.get.Given as goal

abbrev pub invariant-loop-step : goal.invariant-loop-step
invariant-loop-step l = get (tree_of l.place) (drop l.step-index l.path) ≡ get (tree_of l.v) l.path
