use Rattle.std.proofs.Common.{length}
use Rattle.hv_test_events.proofs.exclusive.body.Given as goal

abbrev pub decreases-loop-letters : goal.decreases-loop-letters
decreases-loop-letters l = length l.letters
