-- What is found at a type, and whether there is something.
use Rattle.std.proofs.Common.{◌≡◌, ℕ, Bool, not, List, Option, Some, None, is_some, refl, sym, ap, ◌∙◌}
use Rattle.std.specs.Borrow.{Bor}
use Rattle.hv_tree.specs.declared.types.Ty.{Ty}
use Rattle.hv_tree.specs.declared.types.Name.{Name}
use Rattle.hv_tree.specs.Core.{Core}
use Rattle.hv_decls.specs.Types.{ValueType, FieldAt, element_of, field_of}
use Rattle.hv_scope.specs.Known.{typed, field_found}
use Rattle.hv_type_synth.specs.Tests as tests
use Rattle.hv_type_synth.specs.Held.{option_ty_by, ty_by}

-- whether an answer is there
found_some : (o : Option (Bor Ty)) → is_some o ≡ is_some (option_ty_by o)
found_some None = refl
found_some (Some t) = refl

pub array_decided : (o : Option (Bor Ty)) (t : Ty) → option_ty_by o ≡ element_of (ty_by t) → not (is_some o) ≡ tests.no_array (Some (ty_by t))
array_decided o t e = ap not (found_some o ∙ ap is_some e)

field_some : (o : Option (ℕ × Bor Ty)) → is_some o ≡ is_some (field_found o)
field_some None = refl
field_some (Some f) = refl

pub field_decided : (tree : Core) (o : Option (ℕ × Bor Ty)) (t : Ty) (name : Name) → field_found o ≡ field_of tree (ty_by t) name.text → not (is_some o) ≡ tests.no_field tree (Some (ty_by t)) name
field_decided tree o t name e = ap not (field_some o ∙ ap is_some e)
