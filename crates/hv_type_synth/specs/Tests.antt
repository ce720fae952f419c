-- What the rules of types ask, as tests.
use Rattle.std.specs.Prelude.{ℕ, Bool, true, false, not, ◌&&◌, List, [], ◌∷◌, Option, Some, None, is_some}
use Rattle.std.specs.Str.{bytes_eq}
use Rattle.hv_tree.specs.declared.types.Name.{Name}
use Rattle.hv_tree.specs.declared.types.Conv.{Conv}
use Rattle.hv_tree.specs.declared.types.Conv.TheVariants as conv
use Rattle.hv_tree.specs.declared.ast.Operator.{Operator}
use Rattle.hv_tree.specs.Core.{Core, CoreSteps, NoSteps, FieldStep, IndexStep}
use Rattle.hv_decls.specs.Types.{ValueType, IntType, BoolType, StructType, ArrayType, FunType, FunToType, ParamTypes, NoneTaken, Taken, struct_in, field_of, element_of}
use Rattle.hv_decls.specs.Locals.{LocalKind, Captured, Passed, VarBound, LetBound, InoutBound, Handle, Local}
use Rattle.hv_type_rules.specs.Typing.{Known, Unknown, Nothing, Is, operand_type, Signature, NoSignature, Signed}
use Rattle.hv_symbols.specs.Texts.{has}

-- ---- equality of types

-- the conventions are the same
abbrev pub same_conv : Conv → Conv → Bool
same_conv conv.Let conv.Let = true
same_conv conv.Inout conv.Inout = true
same_conv conv.Sink conv.Sink = true
same_conv conv.Set conv.Set = true
same_conv _ _ = false

abbrev mutual
  -- the types are the same
  pub same_type : ValueType → ValueType → Bool
  same_type IntType IntType = true
  same_type BoolType BoolType = true
  same_type (StructType s) (StructType t) = bytes_eq s t
  same_type (ArrayType t) (ArrayType u) = same_type t u
  same_type (FunType ps) (FunType qs) = same_params ps qs
  same_type (FunToType ps t) (FunToType qs u) = same_params ps qs && same_type t u
  same_type _ _ = false

  -- the conventions and types of parameters are the same
  pub same_params : ParamTypes → ParamTypes → Bool
  same_params NoneTaken NoneTaken = true
  same_params (Taken c t ps) (Taken d u qs) = same_conv c d && (same_type t u && same_params ps qs)
  same_params _ _ = false

-- both lack, or both are there and the same
abbrev pub option_same : Option ValueType → Option ValueType → Bool
option_same None None = true
option_same (Some t) (Some u) = same_type t u
option_same _ _ = false

-- ---- types that don't fit

-- a position that asks for this type, or for any value, has something else
abbrev pub misfits : Option ValueType → Known → Bool
misfits asked Unknown = false
misfits asked Nothing = true
misfits None (Is t) = false
misfits (Some a) (Is t) = not (same_type t a)

-- a known type, and not this one
abbrev pub other : ValueType → Option ValueType → Bool
other a None = false
other a (Some t) = not (same_type t a)

-- both are known and differ
abbrev pub differ : Known → Known → Bool
differ Unknown b = false
differ Nothing Unknown = false
differ Nothing Nothing = false
differ Nothing (Is t) = true
differ (Is t) Unknown = false
differ (Is t) Nothing = true
differ (Is t) (Is u) = not (same_type t u)

-- what is called is known and gives something else
abbrev pub signature_differs : Known → Signature → Bool
signature_differs t NoSignature = false
signature_differs t (Signed wanted u) = differ t u

-- the operator takes two equal types
abbrev pub is_equality : Operator → Bool
is_equality o = not (is_some (operand_type o))

-- a known type that is no array
abbrev pub no_array : Option ValueType → Bool
no_array None = false
no_array (Some t) = not (is_some (element_of t))

-- a known type that has no such field
abbrev pub no_field : Core → Option ValueType → Name → Bool
no_field tree None name = false
no_field tree (Some t) name = not (is_some (field_of tree t name.text))

-- a known type that is no function type
abbrev pub no_function : Option ValueType → Bool
no_function None = false
no_function (Some (FunType params)) = false
no_function (Some (FunToType params t)) = false
no_function (Some _) = true

-- a value of this type has function values in it, where `holding` names the structs whose values have
abbrev pub holds : List (List ℕ) → ValueType → Bool
holds holding IntType = false
holds holding BoolType = false
holds holding (StructType s) = has holding s
holds holding (ArrayType t) = holds holding t
holds holding (FunType params) = true
holds holding (FunToType params t) = true

-- it is known that there are function values in it
abbrev pub known_to_hold : List (List ℕ) → Known → Bool
known_to_hold holding Unknown = false
known_to_hold holding Nothing = false
known_to_hold holding (Is t) = holds holding t

-- ---- names

abbrev pub is_handle_kind : LocalKind → Bool
is_handle_kind Captured = false
is_handle_kind (Passed c) = false
is_handle_kind VarBound = false
is_handle_kind LetBound = false
is_handle_kind InoutBound = false
is_handle_kind Handle = true

-- the name is that of a handle or of no local
abbrev pub no_value : Option Local → Bool
no_value None = true
no_value (Some l) = is_handle_kind l.kind

-- the name is that of no handle
abbrev pub no_handle : Option Local → Bool
no_handle None = true
no_handle (Some l) = not (is_handle_kind l.kind)

-- the name is that of a handle
abbrev pub is_handle : Option Local → Bool
is_handle None = false
is_handle (Some l) = is_handle_kind l.kind

abbrev pub is_read_only_kind : LocalKind → Bool
is_read_only_kind Captured = true
is_read_only_kind (Passed c) = same_conv c conv.Let
is_read_only_kind VarBound = false
is_read_only_kind LetBound = true
is_read_only_kind InoutBound = false
is_read_only_kind Handle = false

-- the name is that of a local that may only be read
abbrev pub is_read_only : Option Local → Bool
is_read_only None = false
is_read_only (Some l) = is_read_only_kind l.kind

-- a struct has the name
abbrev pub is_struct_name : Core → Name → Bool
is_struct_name tree name = is_some (struct_in tree.decls name.text)

-- a step is an index
abbrev pub has_index : CoreSteps → Bool
has_index NoSteps = false
has_index (FieldStep name rest) = has_index rest
has_index (IndexStep at x rest) = true

-- ---- conventions

-- what is passed so is changed
abbrev pub is_changed : Option Conv → Bool
is_changed None = false
is_changed (Some conv.Let) = false
is_changed (Some conv.Inout) = true
is_changed (Some conv.Sink) = false
is_changed (Some conv.Set) = true

-- what is passed so is moved
abbrev pub is_moved : Option Conv → Bool
is_moved None = false
is_moved (Some conv.Let) = false
is_moved (Some conv.Inout) = false
is_moved (Some conv.Sink) = true
is_moved (Some conv.Set) = false
