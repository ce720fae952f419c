use Rattle.std.proofs.Common.{◌≡◌, ◌++◌, drop}
use Rattle.hv_init_layout.specs.Cuts as spec
use Rattle.hv_init_layout.proofs.cuts.rising.Given as goal

abbrev pub invariant-loop-position : goal.invariant-loop-position
invariant-loop-position l = l.list ++ spec.rising l.low (drop l.position-index l.positions) ≡ spec.rising 0 l.positions
