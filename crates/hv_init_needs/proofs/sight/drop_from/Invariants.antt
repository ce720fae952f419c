use Rattle.std.proofs.Common.{◌≡◌, reverse, length}
use Rattle.hv_init_needs.specs.Sight.{declared_before}
use Rattle.hv_init_needs.specs.Ordered.{Falls}
use Rattle.hv_init_needs.proofs.sight.drop_from.Given as goal

abbrev pub invariant-loop-newest : goal.invariant-loop-newest
invariant-loop-newest l = Falls (reverse l.list) × (declared_before l.from (reverse l.list) ≡ declared_before l.from (reverse l.fn.list))

abbrev pub decreases-loop-newest : goal.decreases-loop-newest
decreases-loop-newest l = length l.list
