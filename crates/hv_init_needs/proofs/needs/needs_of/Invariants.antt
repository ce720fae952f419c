use Rattle.std.proofs.Common.{◌≡◌, map, take}
use Rattle.hv_init_needs.specs.Standings.{needs}
use Rattle.hv_init_needs.proofs.needs.needs_of.Given as goal

abbrev pub invariant-loop-standing : goal.invariant-loop-standing
invariant-loop-standing l = l.flags ≡ map needs (take l.standing-index l.all)
