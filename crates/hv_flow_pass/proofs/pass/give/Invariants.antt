use Rattle.std.proofs.Common.{◌≡◌, length}
use Rattle.hv_flow_pass.specs.Passes.{given}
use Rattle.hv_flow_pass.proofs.pass.give.Given as goal

abbrev pub invariant-loop-frame : goal.invariant-loop-frame
invariant-loop-frame l = given l.waiting l.known ≡ given l.fn.waiting l.fn.known

abbrev pub decreases-loop-frame : goal.decreases-loop-frame
decreases-loop-frame l = length l.waiting
