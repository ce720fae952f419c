use Rattle.std.proofs.Common.{◌≡◌, ◌++◌, drop}
use Rattle.hv_type_judge.specs.Seen as seen
use Rattle.hv_type_judge.proofs.names.check_captures.Given as goal

abbrev pub invariant-loop-name : goal.invariant-loop-name
invariant-loop-name l = l.found.items ++ seen.capture_t6 l.around (drop l.name-index l.captures) ≡ l.fn.found.items ++ seen.capture_t6 l.around l.captures
