use Rattle.std.proofs.Common.{◌≡◌}
use Rattle.hv_types.specs.Counts as spec
use Rattle.hv_types.proofs.counts.counts_of.Given as goal

abbrev pub invariant-loop-most : goal.invariant-loop-most
invariant-loop-most l = l.counts ≡ spec.counts_after l.rows l._most
