use Rattle.std.proofs.Common.{◌≡◌, ◌++◌, length, map}
use Rattle.hv_scope.specs.Known.{local_by}
use Rattle.hv_scope.proofs.bound.turned.Given as goal

abbrev pub invariant-loop-last : goal.invariant-loop-last
invariant-loop-last l = map local_by l.known.items ++ map local_by l.visible ≡ map local_by l.fn.known.items

abbrev pub decreases-loop-last : goal.decreases-loop-last
decreases-loop-last l = length l.known.items
