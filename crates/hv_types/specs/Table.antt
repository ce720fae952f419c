-- The structs of a program by number, with the types of their fields.
use Rattle.std.specs.Prelude.{◌≡◌, ℕ, suc, if◌then◌else◌, nat_lt, List, [], map, Option, Some, None, get_or, Contains}
use Rattle.hv_tree.specs.Core.{Core, CoreStruct}
use Rattle.hv_decls.specs.Types.{ValueType, IntType, BoolType, StructType, ArrayType, FunType, FunToType, type_of_field, most_depth}
use Rattle.hv_scope.specs.Tops.{structs_in, struct_number}
use Rattle.hv_types.specs.declared.fields.FieldType.{FieldType}
use Rattle.hv_types.specs.declared.fields.FieldBase.{FieldBase}
use Rattle.hv_types.specs.declared.fields.FieldBase.TheVariants as base

-- no arrays around it
abbrev pub alone : FieldBase → FieldType
alone b = record { arrays = 0; base = b }

-- the struct with this number; what is no struct has no fields
abbrev pub by_number : Option ℕ → FieldType
by_number None = alone base.Plain
by_number (Some i) = alone (base.Struct i)

-- one more array around it, of which more than the greatest depth don't count
abbrev pub around : FieldType → FieldType
around t = record { arrays = if nat_lt t.arrays most_depth then suc t.arrays else t.arrays; base = t.base }

-- a type as the table has it
abbrev pub entry_of : Core → ValueType → FieldType
entry_of tree IntType = alone base.Plain
entry_of tree BoolType = alone base.Plain
entry_of tree (StructType s) = by_number (struct_number tree.decls s)
entry_of tree (ArrayType t) = around (entry_of tree t)
entry_of tree (FunType params) = alone base.Function
entry_of tree (FunToType params t) = alone base.Function

-- the fields of a struct
abbrev pub row_of : Core → CoreStruct → List FieldType
row_of tree s = map (entry_of tree) (map type_of_field s.fields)

-- all structs
abbrev pub table_of : Core → List (List FieldType)
table_of tree = map (row_of tree) (structs_in tree.decls)

-- the fields of the struct with this number
abbrev pub row_at : List (List FieldType) → ℕ → List FieldType
row_at table i = get_or table i []

-- a struct with this number has a function in it, in a field or in a struct that a field has
pub data HoldsAt (table : List (List FieldType)) : ℕ → Type 0 where
  at_once : (i : ℕ) (t : FieldType) → Contains (row_at table i) t → t.base ≡ base.Function → HoldsAt table i
  through : (i : ℕ) (t : FieldType) (j : ℕ) → Contains (row_at table i) t → t.base ≡ base.Struct j → HoldsAt table j → HoldsAt table i
