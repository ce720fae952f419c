use Rattle.std.proofs.Common.{◌≡◌, ◌++◌, drop}
use Rattle.hv_type_names.specs.Found as spec
use Rattle.hv_type_names.proofs.entry.declare_names.Given as goal

abbrev pub invariant-loop-name : goal.invariant-loop-name
invariant-loop-name l = (l.found.items ++ spec.repeats_found l.known (drop l.name-index l.names) ≡ l.fn.found.items ++ spec.repeats_found l.fn.known l.fn.names) × (l.known ++ spec.texts_of (drop l.name-index l.names) ≡ l.fn.known ++ spec.texts_of l.fn.names)
