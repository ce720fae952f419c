use Rattle.std.proofs.Common.{◌≡◌, ◌≤◌, ◌+◌, drop}
use Rattle.hv_value.specs.Sizes.{sizes}
use Rattle.hv_partial.specs.HeldTree.{held_trees}
use Rattle.hv_partial.proofs.measure.+size.Given as goal

abbrev pub invariant-sizes-loop-part : goal.invariant-sizes-loop-part
invariant-sizes-loop-part l = record {
  within : l.total ≤ l.limit;
  rest : l.total + sizes (held_trees (drop l.part-index l.parts)) ≡ sizes (held_trees l.fn.parts);
}
