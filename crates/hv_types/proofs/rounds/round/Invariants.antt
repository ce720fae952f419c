use Rattle.std.proofs.Common.{◌≡◌, ◌++◌, drop}
use Rattle.hv_types.specs.Rounds as spec
use Rattle.hv_types.proofs.rounds.round.Given as goal

abbrev pub invariant-loop-number : goal.invariant-loop-number
invariant-loop-number l = l.next ++ spec.round l.depths l.most l.number (drop l.number l.rows) ≡ spec.round l.depths l.most 0 l.rows
