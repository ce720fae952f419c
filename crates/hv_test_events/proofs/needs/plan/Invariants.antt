use Rattle.std.proofs.Common.{length}
use Rattle.hv_test_events.proofs.needs.plan.Given as goal

abbrev pub decreases-loop-left : goal.decreases-loop-left
decreases-loop-left l = length l.left
