use Rattle.std.proofs.Common.{refl}
use Rattle.hv_symbols.specs.Texts.{index_of}
use Rattle.hv_symbols.proofs.texts.Texts.new.Goals as goal

pub invariant_of-result : goal.invariant_of-result
unfolding index_of
invariant_of-result c = λ text. rw c.new-2.ensures.empty (rw c.new.ensures.items refl)
