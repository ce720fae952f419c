use Rattle.std.proofs.Common.{◌≡◌, drop}
use Rattle.hv_value.specs.ValueTree.{values_of}
use Rattle.hv_partial.specs.HeldTree.{held_trees}
use Rattle.hv_partial.proofs.ListLemmas.{behind_values}
use Rattle.hv_partial.proofs.convert.+to_value.Given as goal

abbrev pub invariant-to_values-loop-part : goal.invariant-to_values-loop-part
invariant-to_values-loop-part l = behind_values l.values.items (values_of (held_trees (drop l.part-index l.parts))) ≡ values_of (held_trees l.fn.parts)
