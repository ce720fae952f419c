use Rattle.std.proofs.Common.{◌≡◌, ◌++◌, drop}
use Rattle.hv_type_judge.specs.Seen as seen
use Rattle.hv_type_judge.proofs.calls.check_lents.Given as goal

abbrev pub invariant-loop-arg : goal.invariant-loop-arg
invariant-loop-arg l = l.found.items ++ seen.lent_t6 l.around (drop l.arg-index l.args) ≡ l.fn.found.items ++ seen.lent_t6 l.around l.args
