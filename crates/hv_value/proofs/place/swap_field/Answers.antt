use Rattle.std.proofs.Common.{rules}
use Rattle.hv_value.proofs.VariantLemmas.{struct_changed}
use Rattle.hv_value.proofs.place.swap_field.Goals as goal

pub returns-clause-new : goal.returns-clause-new
returns-clause-new c = struct_changed _ _ c.in-Struct.parts c.swap_nth.new.parts _ _ _ (search rules) c.in-Struct.is c.in-Struct.parts-is c.swap_nth.ensures.new
