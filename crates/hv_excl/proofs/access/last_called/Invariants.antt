use Rattle.std.proofs.Common.{◌≡◌, take}
use Rattle.hv_rules.specs.States.{last_called}
use Rattle.hv_excl.specs.Access.{accesses_by}
use Rattle.hv_excl.proofs.access.last_called.Given as goal

abbrev pub invariant-loop-at : goal.invariant-loop-at
invariant-loop-at l = last_called (accesses_by (take l.at l.entries)) ≡ last_called (accesses_by l.entries)
