use Rattle.std.proofs.Common.{◌≡◌, length}
use Rattle.hv_flow.specs.Reading.{given}
use Rattle.hv_flow.proofs.build.give.Given as goal

abbrev pub invariant-loop-frame : goal.invariant-loop-frame
invariant-loop-frame l = given l.part l.waiting l.nodes.items ≡ given l.fn.part l.fn.waiting l.fn.nodes.items

abbrev pub decreases-loop-frame : goal.decreases-loop-frame
decreases-loop-frame l = length l.waiting
