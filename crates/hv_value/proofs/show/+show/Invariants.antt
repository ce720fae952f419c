use Rattle.std.proofs.Common.{◌≡◌, ◌++◌, drop, false}
use Rattle.std.specs.Prelude.{string_bytes}
use Rattle.hv_value.specs.ValueTree.{trees_of}
use Rattle.hv_value.specs.Equality.{some_function}
use Rattle.hv_value.specs.Texts.{joined, followed}
use Rattle.hv_value.proofs.show.+show.Given as goal

abbrev pub invariant-push_texts-loop-part : goal.invariant-push_texts-loop-part
invariant-push_texts-loop-part l = record {
  texts : string_bytes l.out ++ followed (trees_of (drop l.part-index l.rest)) ≡ string_bytes l.fn.out ++ joined (trees_of l.fn.parts);
  plain : some_function (trees_of (drop l.part-index l.rest)) ≡ false;
}
