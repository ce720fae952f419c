use Rattle.std.proofs.Common.{◌≡◌, ◌++◌, drop, map}
use Rattle.hv_value.specs.ValueTree.{tree_of}
use Rattle.hv_partial.specs.HeldTree.{held_tree}
use Rattle.hv_partial.proofs.convert.+of_value.Given as goal

abbrev pub invariant-of_values-loop-part : goal.invariant-of_values-loop-part
invariant-of_values-loop-part l = map held_tree l.held.items ++ map tree_of (drop l.part-index l.parts) ≡ map tree_of l.fn.parts
