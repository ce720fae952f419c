use Rattle.std.proofs.Common.{◌≡◌}
use Rattle.hv_init_leaves.specs.Rounds as spec
use Rattle.hv_init_leaves.proofs.rounds.known_last.Given as goal

abbrev pub invariant-loop-level : goal.invariant-loop-level
invariant-loop-level l = l.known ≡ spec.known_after l.table l._level
