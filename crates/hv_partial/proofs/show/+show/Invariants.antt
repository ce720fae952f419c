use Rattle.std.proofs.Common.{◌≡◌, ◌++◌, drop}
use Rattle.std.specs.Prelude.{string_bytes}
use Rattle.hv_value.specs.Texts.{joined, followed}
use Rattle.hv_partial.specs.HeldTree.{held_trees}
use Rattle.hv_partial.proofs.show.+show.Given as goal

abbrev pub invariant-push_texts-loop-part : goal.invariant-push_texts-loop-part
invariant-push_texts-loop-part l = string_bytes l.out ++ followed (held_trees (drop l.part-index l.rest)) ≡ string_bytes l.fn.out ++ joined (held_trees l.fn.parts)
