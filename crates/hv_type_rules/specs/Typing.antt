-- The type of each expression, from the declarations that are visible where it stands.
use Rattle.std.specs.Prelude.{List, [], ◌∷◌, map, Option, Some, None}
use Rattle.hv_tree.specs.declared.types.Name.{Name}
use Rattle.hv_tree.specs.declared.types.Conv.{Conv}
use Rattle.hv_tree.specs.declared.ast.Operator.{Operator}
use Rattle.hv_tree.specs.declared.ast.Operator.TheVariants as operator
use Rattle.hv_tree.specs.Core.{Core, CoreFun, CoreStruct, CoreField, CoreExpr, Number, Truth, Path, Calls, Awaits, Array, Filled, Count, Lambda, Prefix, Chain, CoreExprs, NoExprs, ExprOf, CoreLinks, NoLinks, LinkOf, CoreSteps, NoSteps, FieldStep, IndexStep, CoreCall, CallOf}
use Rattle.hv_decls.specs.Types.{ValueType, IntType, BoolType, StructType, ArrayType, FunType, FunToType, ParamTypes, NoneTaken, Taken, meant, option_meant, params_of, fun_type, struct_in, fun_in}
use Rattle.hv_decls.specs.Locals.{LocalKind, Captured, Passed, VarBound, LetBound, InoutBound, Handle, Local, local_in, value_by, value_of}
use Rattle.hv_decls.specs.Statics.{type_behind}

-- ---- what is known of a type

-- the type of an expression, as far as there is one
pub data Known : Type 0 where
  -- a part violates a rule, so that there is no type
  Unknown : Known
  -- the type of a call without result, which fits no declared type
  Nothing : Known
  Is : ValueType → Known

-- a type that may lack
abbrev pub known : Option ValueType → Known
known None = Unknown
known (Some t) = Is t

-- a result that may lack
abbrev pub or_nothing : Option ValueType → Known
or_nothing None = Nothing
or_nothing (Some t) = Is t

-- an array of such elements
abbrev pub array_of : Known → Known
array_of Unknown = Unknown
array_of Nothing = Unknown
array_of (Is t) = Is (ArrayType t)

-- ---- operators

-- the type that an operator asks of each operand; `==` and `!=` ask for two equal ones
abbrev pub operand_type : Operator → Option ValueType
operand_type operator.Add = Some IntType
operand_type operator.Sub = Some IntType
operand_type operator.Mul = Some IntType
operand_type operator.Div = Some IntType
operand_type operator.Rem = Some IntType
operand_type operator.Eq = None
operand_type operator.Ne = None
operand_type operator.Lt = Some IntType
operand_type operator.Le = Some IntType
operand_type operator.Gt = Some IntType
operand_type operator.Ge = Some IntType
operand_type operator.And = Some BoolType
operand_type operator.Or = Some BoolType
operand_type operator.Neg = Some IntType
operand_type operator.Not = Some BoolType

-- the type that it gives
abbrev pub given_type : Operator → ValueType
given_type operator.Add = IntType
given_type operator.Sub = IntType
given_type operator.Mul = IntType
given_type operator.Div = IntType
given_type operator.Rem = IntType
given_type operator.Eq = BoolType
given_type operator.Ne = BoolType
given_type operator.Lt = BoolType
given_type operator.Le = BoolType
given_type operator.Gt = BoolType
given_type operator.Ge = BoolType
given_type operator.And = BoolType
given_type operator.Or = BoolType
given_type operator.Neg = IntType
given_type operator.Not = BoolType

-- ---- names

-- what an await of a local of this kind gives
abbrev pub handle_by : LocalKind → Option ValueType → Known
handle_by Captured t = Unknown
handle_by (Passed c) t = Unknown
handle_by VarBound t = Unknown
handle_by LetBound t = Unknown
handle_by InoutBound t = Unknown
handle_by Handle t = or_nothing t

-- what an await gives
abbrev pub awaited_type : Option Local → Known
awaited_type None = Unknown
awaited_type (Some l) = handle_by l.kind l.ty

-- ---- what calls take and give

-- what an argument is for: a parameter with its convention, or a part of a struct
pub record Wanted : Type 0 where
  pub conv : Option Conv
  pub ty : ValueType

-- what is known of a callee
pub data Signature : Type 0 where
  -- it isn't known what the call does
  NoSignature : Signature
  -- what the call takes and gives
  Signed : List Wanted → Known → Signature

-- parameters
abbrev pub wanted_params : ParamTypes → List Wanted
wanted_params NoneTaken = []
wanted_params (Taken c t rest) = record { conv = Some c; ty = t } ∷ wanted_params rest

-- a part of a struct
abbrev pub wanted_field : CoreField → Wanted
wanted_field f = record { conv = None; ty = meant f.ty }

-- the signature of a function value
abbrev pub by_value : Option ValueType → Signature
by_value None = NoSignature
by_value (Some IntType) = NoSignature
by_value (Some BoolType) = NoSignature
by_value (Some (StructType s)) = NoSignature
by_value (Some (ArrayType t)) = NoSignature
by_value (Some (FunType params)) = Signed (wanted_params params) Nothing
by_value (Some (FunToType params t)) = Signed (wanted_params params) (Is t)

-- the signature of a struct
abbrev pub by_struct : Option CoreStruct → Signature
by_struct None = NoSignature
by_struct (Some s) = Signed (map wanted_field s.fields) (Is (StructType s.name.text))

-- the signature of a function, else the other one
abbrev pub by_fun : Option CoreFun → Signature → Signature
by_fun None other = other
by_fun (Some f) other = Signed (wanted_params (params_of f.params)) (or_nothing (option_meant f.result))

-- the signature of a top-level name
abbrev pub by_name : Core → Name → CoreSteps → Signature
by_name tree root NoSteps = by_fun (fun_in tree.decls root.text) (by_struct (struct_in tree.decls root.text))
by_name tree root (FieldStep name rest) = NoSignature
by_name tree root (IndexStep at x rest) = NoSignature

-- the signature of a callee, whose root may be a local
abbrev pub signature_by : Core → Option Local → Name → CoreSteps → Signature
signature_by tree None root steps = by_name tree root steps
signature_by tree (Some l) root steps = by_value (type_behind tree (value_by l.kind l.ty) steps)

-- the type of a call
abbrev pub gives : Signature → Known
gives NoSignature = Unknown
gives (Signed wanted t) = t

-- ---- expressions

-- the type of a function's name
abbrev pub fun_value : Option CoreFun → Known
fun_value None = Unknown
fun_value (Some f) = Is (fun_type (params_of f.params) (option_meant f.result))

-- a function's name is a value, a struct's name isn't
abbrev pub named_value : Core → Name → CoreSteps → Known
named_value tree root NoSteps = fun_value (fun_in tree.decls root.text)
named_value tree root (FieldStep name rest) = Unknown
named_value tree root (IndexStep at x rest) = Unknown

-- the type of a place, or of a top-level name
abbrev pub path_by : Core → Option Local → Name → CoreSteps → Known
path_by tree None root steps = named_value tree root steps
path_by tree (Some l) root steps = known (type_behind tree (value_by l.kind l.ty) steps)

-- the type of a chain: what its first operator gives
abbrev pub by_links : CoreLinks → Known → Known
by_links NoLinks t = t
by_links (LinkOf o at x rest) t = Is (given_type o)

module _ (tree : Core) (visible : List Local) where
  -- the signature of a callee
  abbrev pub signature_of : Name → CoreSteps → Signature
  signature_of root steps = signature_by tree (local_in visible root.text) root steps

  -- the type of a place with a local value as root
  abbrev pub place_type : Name → CoreSteps → Option ValueType
  place_type root steps = type_behind tree (value_of (local_in visible root.text)) steps

  -- the type of a call
  abbrev pub call_type : CoreCall → Known
  call_type (CallOf root steps at args) = gives (signature_of root steps)

  abbrev mutual
    -- the type of an expression
    pub type_of : CoreExpr → Known
    type_of (Number at z) = Is IntType
    type_of (Truth at b) = Is BoolType
    type_of (Path at root steps) = path_by tree (local_in visible root.text) root steps
    type_of (Calls at call) = call_type call
    type_of (Awaits at name) = awaited_type (local_in visible name.text)
    type_of (Array at xs) = array_of (first_type xs)
    type_of (Filled at len value) = array_of (type_of value)
    type_of (Count at root steps) = Is IntType
    type_of (Lambda at captures params result body) = Is (fun_type (params_of params) (option_meant result))
    type_of (Prefix at o x) = Is (given_type o)
    type_of (Chain at first links) = by_links links (type_of first)

    -- the type of the first element
    pub first_type : CoreExprs → Known
    first_type NoExprs = Unknown
    first_type (ExprOf x rest) = type_of x
