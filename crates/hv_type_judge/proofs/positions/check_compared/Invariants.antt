use Rattle.std.proofs.Common.{◌≡◌, ◌++◌, drop}
use Rattle.hv_type_judge.specs.Seen as seen
use Rattle.hv_type_judge.proofs.positions.check_compared.Given as goal

abbrev pub invariant-loop-operator : goal.invariant-loop-operator
invariant-loop-operator l = l.found.items ++ seen.link_t9 l.around l.left (drop l.operator-index l.links) ≡ l.fn.found.items ++ seen.link_t9 l.around l.fn.first l.links
