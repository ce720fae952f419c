use Rattle.std.proofs.Common.{◌≡◌, ◌++◌, drop}
use Rattle.hv_flow_ends.specs.Ends.{numbers_in}
use Rattle.hv_flow_ends.specs.Walked as spec
use Rattle.hv_flow_ends.proofs.body.entry_back.Given as goal

abbrev pub invariant-loop-local : goal.invariant-loop-local
invariant-loop-local l = numbers_in l.back ++ spec.known_back l.next (drop l.local-index l.known) ≡ spec.known_back 0 l.known
