-- Types as they are compared, and what the declarations say of them: fields, depth, leaves and shape.
use Rattle.std.specs.Prelude.{ℕ, zero, suc, Bool, true, false, if◌then◌else◌, List, [], ◌∷◌, ◌++◌, map, Option, Some, None}
use Rattle.std.specs.List.{list_all}
use Rattle.std.specs.Str.{bytes_eq}
use Rattle.hv_tree.specs.declared.types.Conv.{Conv}
use Rattle.hv_tree.specs.Core.{Core, CoreDecl, StructOf, FunOf, CoreStruct, CoreField, CoreFun, CoreParam, CoreTy, IntTy, BoolTy, NamedTy, ArrayTy, FunTy, FunToTy, CoreTys, NoTys, TyOf}

-- ---- types without their places

mutual
  -- a type
  pub data ValueType : Type 0 where
    IntType : ValueType
    BoolType : ValueType
    -- a struct, by its name
    StructType : List ℕ → ValueType
    ArrayType : ValueType → ValueType
    -- the parameters, without and with a result
    FunType : ParamTypes → ValueType
    FunToType : ParamTypes → ValueType → ValueType

  -- the conventions and types of parameters
  pub data ParamTypes : Type 0 where
    NoneTaken : ParamTypes
    Taken : Conv → ValueType → ParamTypes → ParamTypes

abbrev mutual
  -- what a written type means
  pub meant : CoreTy → ValueType
  meant (IntTy at) = IntType
  meant (BoolTy at) = BoolType
  meant (NamedTy name) = StructType name.text
  meant (ArrayTy at element) = ArrayType (meant element)
  meant (FunTy at params) = FunType (params_meant params)
  meant (FunToTy at params result) = FunToType (params_meant params) (meant result)

  -- what written parameters mean
  pub params_meant : CoreTys → ParamTypes
  params_meant NoTys = NoneTaken
  params_meant (TyOf c t rest) = Taken c (meant t) (params_meant rest)

-- what a type means that may lack
abbrev pub option_meant : Option CoreTy → Option ValueType
option_meant None = None
option_meant (Some t) = Some (meant t)

-- the type of a function with these parameters and this result
abbrev pub params_of : List CoreParam → ParamTypes
params_of [] = NoneTaken
params_of (p ∷ ps) = Taken p.conv (meant p.ty) (params_of ps)

-- a function type by its parameters and its result, which may lack
abbrev pub fun_type : ParamTypes → Option ValueType → ValueType
fun_type params None = FunType params
fun_type params (Some t) = FunToType params t

-- the conventions of parameters
abbrev pub convs_of : ParamTypes → List Conv
convs_of NoneTaken = []
convs_of (Taken c t rest) = c ∷ convs_of rest

-- ---- declarations

-- the first struct with the name
abbrev pub struct_in : List CoreDecl → List ℕ → Option CoreStruct
struct_in [] text = None
struct_in (StructOf s ∷ rest) text = if bytes_eq s.name.text text then Some s else struct_in rest text
struct_in (FunOf f ∷ rest) text = struct_in rest text

-- the first function with the name
abbrev pub fun_in : List CoreDecl → List ℕ → Option CoreFun
fun_in [] text = None
fun_in (StructOf s ∷ rest) text = fun_in rest text
fun_in (FunOf f ∷ rest) text = if bytes_eq f.name.text text then Some f else fun_in rest text

-- the fields of a struct, none where there is no struct
abbrev pub fields_or_none : Option CoreStruct → List CoreField
fields_or_none None = []
fields_or_none (Some s) = s.fields

-- the type of a field
abbrev pub type_of_field : CoreField → ValueType
type_of_field f = meant f.ty

-- the types of the fields of the struct with this name
abbrev pub field_types : Core → List ℕ → List ValueType
field_types tree text = map type_of_field (fields_or_none (struct_in tree.decls text))

-- ---- fields

-- a field's number in its struct, and its type
pub record FieldAt : Type 0 where
  pub number : ℕ
  pub ty : ValueType

-- the first field with the name, its number counted from n
abbrev pub field_from : ℕ → List CoreField → List ℕ → Option FieldAt
field_from n [] text = None
field_from n (f ∷ fs) text = if bytes_eq f.name.text text then Some (record { number = n; ty = meant f.ty }) else field_from (suc n) fs text

-- the field with the name, where the type is a struct that has it
abbrev pub field_of : Core → ValueType → List ℕ → Option FieldAt
field_of tree IntType text = None
field_of tree BoolType text = None
field_of tree (StructType s) text = field_from 0 (fields_or_none (struct_in tree.decls s)) text
field_of tree (ArrayType t) text = None
field_of tree (FunType params) text = None
field_of tree (FunToType params t) text = None

-- the type of an array's elements
abbrev pub element_of : ValueType → Option ValueType
element_of IntType = None
element_of BoolType = None
element_of (StructType s) = None
element_of (ArrayType t) = Some t
element_of (FunType params) = None
element_of (FunToType params t) = None

-- ---- depth, leaves and shape

-- the greatest depth of a struct
abbrev pub most_depth : ℕ
most_depth = 100

-- the greatest number of leaves of a struct
abbrev pub most_leaves : ℕ
most_leaves = 4096

-- the depth is at most so much: 1 for Int, Bool, functions and structs without fields, else one more than that of the elements or of each field
abbrev pub within : Core → ℕ → ValueType → Bool
within tree zero t = false
within tree (suc n) IntType = true
within tree (suc n) BoolType = true
within tree (suc n) (StructType s) = list_all (within tree n) (field_types tree s)
within tree (suc n) (ArrayType t) = within tree n t
within tree (suc n) (FunType params) = true
within tree (suc n) (FunToType params t) = true

-- each list below the field with its number
abbrev pub below_fields : ℕ → List (List (List ℕ)) → List (List ℕ)
below_fields n [] = []
below_fields n (ls ∷ rest) = map (λ l. n ∷ l) ls ++ below_fields (suc n) rest

-- what has no parts is a leaf itself
abbrev pub or_itself : List (List ℕ) → List (List ℕ)
or_itself [] = [] ∷ []
or_itself (l ∷ ls) = l ∷ ls

-- the leaves of a type of at most this depth, each by the numbers of the fields that lead to it, in order
abbrev pub leaves : Core → ℕ → ValueType → List (List ℕ)
leaves tree zero t = [] ∷ []
leaves tree (suc n) IntType = [] ∷ []
leaves tree (suc n) BoolType = [] ∷ []
leaves tree (suc n) (StructType s) = or_itself (below_fields 0 (map (leaves tree n) (field_types tree s)))
leaves tree (suc n) (ArrayType t) = [] ∷ []
leaves tree (suc n) (FunType params) = [] ∷ []
leaves tree (suc n) (FunToType params t) = [] ∷ []

-- the leaves of a type
abbrev pub leaves_of : Core → ValueType → List (List ℕ)
leaves_of tree t = leaves tree most_depth t

-- structs as they lie one in another
mutual
  -- a leaf, or a struct of shapes
  pub data TypeShape : Type 0 where
    LeafShape : TypeShape
    StructShape : TypeShapes → TypeShape

  -- shapes in order
  pub data TypeShapes : Type 0 where
    NoShapes : TypeShapes
    ShapeOf : TypeShape → TypeShapes → TypeShapes

-- the shapes of a list
abbrev pub shapes_of : List TypeShape → TypeShapes
shapes_of [] = NoShapes
shapes_of (s ∷ rest) = ShapeOf s (shapes_of rest)

-- the shape of a type of at most this depth
abbrev pub shape : Core → ℕ → ValueType → TypeShape
shape tree zero t = LeafShape
shape tree (suc n) IntType = LeafShape
shape tree (suc n) BoolType = LeafShape
shape tree (suc n) (StructType s) = StructShape (shapes_of (map (shape tree n) (field_types tree s)))
shape tree (suc n) (ArrayType t) = LeafShape
shape tree (suc n) (FunType params) = LeafShape
shape tree (suc n) (FunToType params t) = LeafShape
