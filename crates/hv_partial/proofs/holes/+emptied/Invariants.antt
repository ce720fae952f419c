use Rattle.std.proofs.Common.{◌≡◌, ◌++◌, drop, map}
use Rattle.hv_value.specs.Holes.{emptied}
use Rattle.hv_partial.specs.HeldTree.{held_tree}
use Rattle.hv_partial.proofs.holes.+emptied.Given as goal

abbrev pub invariant-all_emptied-loop-part : goal.invariant-all_emptied-loop-part
invariant-all_emptied-loop-part l = map held_tree l.rests.items ++ map emptied (map held_tree (drop l.part-index l.parts)) ≡ map emptied (map held_tree l.fn.parts)
