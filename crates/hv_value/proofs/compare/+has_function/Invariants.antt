use Rattle.std.proofs.Common.{◌≡◌, drop}
use Rattle.hv_value.specs.ValueTree.{trees_of}
use Rattle.hv_value.specs.Equality.{some_function}
use Rattle.hv_value.proofs.compare.+has_function.Given as goal

abbrev pub invariant-some_function-loop-part : goal.invariant-some_function-loop-part
invariant-some_function-loop-part l = some_function (trees_of (drop l.part-index l.parts)) ≡ some_function (trees_of l.fn.parts)
