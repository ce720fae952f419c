use Rattle.hv_types.proofs.Users.{Spread}
use Rattle.hv_types.proofs.holders.reached.Given as goal

abbrev pub invariant-loop-taken : goal.invariant-loop-taken
invariant-loop-taken l = Spread l.fn.users l.fn.first l.found l.left l.taken
