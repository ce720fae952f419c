use Rattle.std.proofs.Common.{rules}
use Rattle.hv_value.proofs.VariantLemmas.{array_changed}
use Rattle.hv_value.proofs.place.swap_element.Goals as goal

pub returns-clause-new : goal.returns-clause-new
returns-clause-new c = array_changed _ _ c.in-Array.parts c.swap_nth.new.parts _ _ _ (search rules) c.in-Array.is c.in-Array.parts-is c.swap_nth.ensures.new
