use Rattle.std.proofs.Common.{◌≡◌, ◌++◌, [], None, length}
use Rattle.hv_excl.specs.Judged.{judged}
use Rattle.hv_excl.proofs.judge.judge.Given as goal

abbrev pub invariant-loop-left : goal.invariant-loop-left
invariant-loop-left l = l.judged ++ judged l.before l.opened l.left ≡ judged None [] l.plan

abbrev pub decreases-loop-left : goal.decreases-loop-left
decreases-loop-left l = length l.left
