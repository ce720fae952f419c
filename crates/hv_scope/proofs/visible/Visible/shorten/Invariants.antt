use Rattle.std.proofs.Common.{◌≡◌, length}
use Rattle.hv_scope.specs.Oldest.{oldest}
use Rattle.hv_scope.proofs.visible.Visible.shorten.Given as goal

abbrev pub decreases-loop-self : goal.decreases-loop-self
decreases-loop-self l = length l.self

abbrev pub invariant-loop-self : goal.invariant-loop-self
invariant-loop-self l = oldest l.len l.self ≡ oldest l.len l.fn.self
