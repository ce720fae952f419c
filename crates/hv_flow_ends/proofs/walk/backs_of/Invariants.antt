use Rattle.std.proofs.Common.{◌≡◌, ◌++◌, drop}
use Rattle.hv_flow_ends.specs.Ends.{numbers_in}
use Rattle.hv_flow_ends.specs.Walked as spec
use Rattle.hv_flow_ends.proofs.walk.backs_of.Given as goal

abbrev pub invariant-loop-opened : goal.invariant-loop-opened
invariant-loop-opened l = numbers_in l.all ++ spec.backs_in (drop l.opened-index l.around) ≡ spec.backs_in l.around
