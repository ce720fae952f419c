use Rattle.std.proofs.Common.{◌≡◌, drop}
use Rattle.hv_value.specs.Equality.{all_same}
use Rattle.hv_partial.specs.HeldTree.{held_trees}
use Rattle.hv_partial.proofs.compare.+equal.Given as goal

abbrev pub invariant-equals-loop-i : goal.invariant-equals-loop-i
invariant-equals-loop-i l = all_same (held_trees (drop l.i l.a)) (held_trees (drop l.i l.b)) ≡ all_same (held_trees l.a) (held_trees l.b)
