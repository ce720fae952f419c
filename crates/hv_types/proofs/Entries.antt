-- The types of fields by their variant, as code meets them.
use Rattle.std.proofs.Common.{◌≡◌, Option, Some, None, refl, ap, ◌∙◌}
use Rattle.hv_tree.specs.declared.types.Ty.{Ty, out-Ty}
use Rattle.hv_tree.specs.declared.types.Ty.TheOpen.{Ty-F}
use Rattle.hv_tree.specs.Core.{Core}
use Rattle.hv_decls.specs.Types.{ParamTypes, fun_type, ValueType}
use Rattle.hv_scope.specs.Tops.{struct_number}
use Rattle.hv_type_synth.specs.Held.{ty_by}
use Rattle.hv_type_synth.proofs.Opened.{shape_of, shape_opened}
use Rattle.hv_types.specs.declared.fields.FieldType.{FieldType}
use Rattle.hv_types.specs.declared.fields.FieldBase.TheVariants as base
use Rattle.hv_types.specs.Table as table

-- a type by its outermost level
unfoldable pub entry_by : Core → Ty-F Ty → FieldType
entry_by tree (Ty-F.Int at) = table.alone base.Plain
entry_by tree (Ty-F.Bool at) = table.alone base.Plain
entry_by tree (Ty-F.Named name) = table.by_number (struct_number tree.decls name.text)
entry_by tree (Ty-F.Array at t) = table.around (table.entry_of tree (ty_by t))
entry_by tree (Ty-F.Fun at params result) = table.alone base.Function

function_entry : (tree : Core) (ps : ParamTypes) (t : Option ValueType) → table.entry_of tree (fun_type ps t) ≡ table.alone base.Function
function_entry tree ps None = refl
function_entry tree ps (Some t) = refl

by_shape : (tree : Core) (u : Ty-F Ty) → table.entry_of tree (shape_of u) ≡ entry_by tree u
unfolding shape_of entry_by
by_shape tree (Ty-F.Int at) = refl
by_shape tree (Ty-F.Bool at) = refl
by_shape tree (Ty-F.Named name) = refl
by_shape tree (Ty-F.Array at t) = refl
by_shape tree (Ty-F.Fun at params result) = function_entry tree _ _

pub entry_opened : (tree : Core) (t : Ty) → table.entry_of tree (ty_by t) ≡ entry_by tree (out-Ty t)
entry_opened tree t = ap (table.entry_of tree) (shape_opened t) ∙ by_shape tree (out-Ty t)
