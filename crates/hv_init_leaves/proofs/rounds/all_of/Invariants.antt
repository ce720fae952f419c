use Rattle.std.proofs.Common.{◌≡◌, ◌++◌, map, drop, Some}
use Rattle.hv_init_leaves.proofs.rounds.all_of.Given as goal

abbrev pub invariant-loop-size : goal.invariant-loop-size
invariant-loop-size l = map Some l.sizes ++ drop l.size-index l.known ≡ l.known
