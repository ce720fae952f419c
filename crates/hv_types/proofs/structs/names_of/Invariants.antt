use Rattle.std.proofs.Common.{◌≡◌, ◌++◌, drop}
use Rattle.hv_tree.specs.Core.{core_tree}
use Rattle.hv_types.specs.Structs as spec
use Rattle.hv_types.proofs.structs.names_of.Given as goal

abbrev pub invariant-loop-number : goal.invariant-loop-number
invariant-loop-number l = l.names ++ spec.names_of (core_tree l.declared) (drop l.number-index l.numbers) ≡ spec.names_of (core_tree l.declared) l.numbers
