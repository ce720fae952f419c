use Rattle.std.proofs.Common.{length}
use Rattle.hv_excl.proofs.open.+end_call.Given as goal

abbrev pub decreases-end_call : goal.decreases-end_call
decreases-end_call l = length l.opened
