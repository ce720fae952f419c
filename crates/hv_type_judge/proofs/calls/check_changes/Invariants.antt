use Rattle.std.proofs.Common.{◌≡◌, ◌++◌, drop}
use Rattle.hv_type_synth.specs.Held.{wants_by}
use Rattle.hv_type_judge.specs.Seen as seen
use Rattle.hv_type_judge.proofs.calls.check_changes.Given as goal

abbrev pub invariant-loop-arg : goal.invariant-loop-arg
invariant-loop-arg l = l.found.items ++ seen.arg_t7 l.around (wants_by l.left) (drop l.arg-index l.args) ≡ l.fn.found.items ++ seen.arg_t7 l.around (wants_by l.wants) l.args
