use Rattle.std.proofs.Common.{◌≡◌, drop}
use Rattle.hv_value.specs.Holes.{all_whole}
use Rattle.hv_partial.specs.HeldTree.{held_trees}
use Rattle.hv_partial.proofs.holes.+is_whole.Given as goal

abbrev pub invariant-all_whole-loop-part : goal.invariant-all_whole-loop-part
invariant-all_whole-loop-part l = all_whole (held_trees (drop l.part-index l.parts)) ≡ all_whole (held_trees l.fn.parts)
