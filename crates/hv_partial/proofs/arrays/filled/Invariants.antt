use Rattle.std.proofs.Common.{◌≡◌, replicate}
use Rattle.hv_partial.proofs.arrays.filled.Given as goal

abbrev pub invariant-loop : goal.invariant-loop
invariant-loop l = l.copies.items ≡ replicate l.counter l.held
