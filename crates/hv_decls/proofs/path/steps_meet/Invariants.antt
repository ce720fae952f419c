use Rattle.std.proofs.Common.{◌≡◌, length}
use Rattle.hv_decls.specs.Paths.{steps_meet}
use Rattle.hv_decls.proofs.path.steps_meet.Given as goal

abbrev pub invariant-loop-left : goal.invariant-loop-left
invariant-loop-left l = steps_meet l.a l.b ≡ steps_meet l.left l.right

abbrev pub decreases-loop-left : goal.decreases-loop-left
decreases-loop-left l = length l.left
