use Rattle.std.proofs.Common.{rules}
use Rattle.hv_partial.proofs.VariantLemmas.{array_changed}
use Rattle.hv_partial.proofs.place.swap_element.Goals as goal

pub returns-in-Array-clause-new : goal.returns-in-Array-clause-new
returns-in-Array-clause-new c = array_changed _ _ c.in-Array.parts c.swap_nth.new.parts _ _ _ (search rules) c.in-Array.is c.in-Array.parts-is c.swap_nth.ensures.new
