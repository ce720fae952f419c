use Rattle.std.proofs.Common.{length}
use Rattle.hv_partial.proofs.place.+replace.Given as goal

abbrev pub decreases-replace : goal.decreases-replace
decreases-replace l = length l.path.now
