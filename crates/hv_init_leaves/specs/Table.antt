-- The structs of a program by number, each with the structs that its fields are.
use Rattle.std.specs.Prelude.{ℕ, List, map, Option, Some, None}
use Rattle.hv_tree.specs.Core.{Core, CoreStruct}
use Rattle.hv_decls.specs.Types.{ValueType, IntType, BoolType, StructType, ArrayType, FunType, FunToType, type_of_field}
use Rattle.hv_decls.specs.Locals.{Local}
use Rattle.hv_scope.specs.Tops.{structs_in, struct_number}

-- the number of the struct that a type is; what is none is a leaf
abbrev pub number_of : Core → ValueType → Option ℕ
number_of tree IntType = None
number_of tree BoolType = None
number_of tree (StructType s) = struct_number tree.decls s
number_of tree (ArrayType t) = None
number_of tree (FunType params) = None
number_of tree (FunToType params t) = None

-- the same for a type that may be unknown
abbrev pub number_by : Core → Option ValueType → Option ℕ
number_by tree None = None
number_by tree (Some t) = number_of tree t

abbrev pub local_number : Core → Local → Option ℕ
local_number tree l = number_by tree l.ty

-- the fields of a struct
abbrev pub row_of : Core → CoreStruct → List (Option ℕ)
row_of tree s = map (number_of tree) (map type_of_field s.fields)

-- all structs
abbrev pub table_of : Core → List (List (Option ℕ))
table_of tree = map (row_of tree) (structs_in tree.decls)
