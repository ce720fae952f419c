use Rattle.std.proofs.Common.{◌≡◌}
use Rattle.hv_types.specs.Rounds as spec
use Rattle.hv_types.proofs.rounds.depths.Given as goal

abbrev pub invariant-loop-most : goal.invariant-loop-most
invariant-loop-most l = l.depths ≡ spec.depths_after l.rows l.most
