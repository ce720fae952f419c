use Rattle.std.proofs.Common.{◌≡◌, ◌≤◌, ◌+◌, drop}
use Rattle.hv_value.specs.ValueTree.{trees_of}
use Rattle.hv_value.specs.Sizes.{sizes}
use Rattle.hv_value.proofs.measure.+size.Given as goal

abbrev pub invariant-sizes-loop-part : goal.invariant-sizes-loop-part
invariant-sizes-loop-part l = record {
  within : l.total ≤ l.limit;
  rest : l.total + sizes (trees_of (drop l.part-index l.parts)) ≡ sizes (trees_of l.fn.parts);
}
