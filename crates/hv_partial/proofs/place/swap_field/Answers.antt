use Rattle.std.proofs.Common.{rules}
use Rattle.hv_partial.proofs.VariantLemmas.{struct_changed}
use Rattle.hv_partial.proofs.place.swap_field.Goals as goal

pub returns-in-Struct-clause-new : goal.returns-in-Struct-clause-new
returns-in-Struct-clause-new c = struct_changed _ _ c.in-Struct.parts c.swap_nth.new.parts _ _ _ (search rules) c.in-Struct.is c.in-Struct.parts-is c.swap_nth.ensures.new
