use Rattle.std.proofs.Common.{◌≡◌, ◌++◌, drop}
use Rattle.hv_type_names.specs.Found as spec
use Rattle.hv_type_names.proofs.entry.look_up_captures.Given as goal

abbrev pub invariant-loop-name : goal.invariant-loop-name
invariant-loop-name l = l.found.items ++ spec.captures_found l.seen (drop l.name-index l.captures) ≡ l.fn.found.items ++ spec.captures_found l.seen l.fn.captures
