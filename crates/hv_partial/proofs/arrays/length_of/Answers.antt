use Rattle.std.proofs.Common.{Some, ap, sym, ◌∙◌}
use Rattle.hv_partial.proofs.VariantLemmas.{length_held}
use Rattle.hv_partial.proofs.arrays.length_of.Goals as goal

pub returns-in-Array : goal.returns-in-Array
returns-in-Array c = ap Some c.len.ensures ∙ sym (length_held _ _ c.in-Array.is)
