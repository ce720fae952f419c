use Rattle.std.proofs.Common.{◌≡◌, replicate}
use Rattle.hv_init_needs.specs.declared.standing.Standing.TheVariants.{Unfilled}
use Rattle.hv_init_needs.proofs.needs.all_unfilled.Given as goal

abbrev pub invariant-loop : goal.invariant-loop
invariant-loop l = l.all ≡ replicate l.counter Unfilled
