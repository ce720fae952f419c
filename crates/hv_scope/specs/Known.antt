-- Locals, structs and functions as the code knows them.
use Rattle.std.specs.Prelude.{ℕ, List, Option, Some, None, map}
use Rattle.std.specs.Borrow.{Bor}
use Rattle.std.specs.Option.{option_copied}
use Rattle.hv_tree.specs.declared.types.Ty.{Ty}
use Rattle.hv_tree.specs.declared.types.Name.{Name}
use Rattle.hv_tree.specs.declared.ast.FunDecl.{FunDecl}
use Rattle.hv_tree.specs.declared.ast.StructDecl.{StructDecl}
use Rattle.hv_tree.specs.Core.{CoreFun, CoreStruct, core_ty, core_param, core_option_ty, core_block, core_field}
use Rattle.hv_decls.specs.Types.{ValueType, FieldAt, meant}
use Rattle.hv_decls.specs.Locals.{LocalKind, Captured, Passed, VarBound, LetBound, InoutBound, Handle, Local}
use Rattle.hv_scope.specs.declared.known.Kind.{Kind}
use Rattle.hv_scope.specs.declared.known.Kind.TheVariants as kind
use Rattle.hv_scope.specs.declared.known.Known.{Known}

-- what a written type means
abbrev pub typed : Option Ty → Option ValueType
typed None = None
typed (Some t) = Some (meant (core_ty t))

-- what a local is
abbrev pub kind_of : Kind → LocalKind
kind_of kind.Captured = Captured
kind_of (kind.Passed c) = Passed c
kind_of kind.Var = VarBound
kind_of kind.Let = LetBound
kind_of kind.Inout = InoutBound
kind_of kind.Handle = Handle

-- a local
abbrev pub local_by : Known → Local
local_by k = record { name = k.name.now; kind = kind_of k.kind; ty = typed (option_copied k.ty) }

-- its name
abbrev pub text_of : Known → List ℕ
text_of k = k.name.now.text

-- a local of this kind, with this name and type
abbrev pub declared_by : Kind → Name → Option (Bor Ty) → Local
declared_by k name t = record { name = name; kind = kind_of k; ty = typed (option_copied t) }

-- a local that may lack
abbrev pub option_local : Option Known → Option Local
option_local None = None
option_local (Some k) = Some (local_by k)

-- the plain form of a function
abbrev pub core_fun : FunDecl → CoreFun
core_fun f = record { name = f.name; params = map core_param f.params; result = core_option_ty f.result; body = core_block f.body }

-- a function that may lack
abbrev pub option_function : Option FunDecl → Option CoreFun
option_function None = None
option_function (Some f) = Some (core_fun f)

-- the plain form of a struct
abbrev pub core_struct : StructDecl → CoreStruct
core_struct s = record { name = s.name; fields = map core_field s.fields }

-- a struct that may lack
abbrev pub option_struct : Option StructDecl → Option CoreStruct
option_struct None = None
option_struct (Some s) = Some (core_struct s)

-- ---- answers of the code

-- a field's number and type
abbrev pub field_found : Option (ℕ × Bor Ty) → Option FieldAt
field_found None = None
field_found (Some f) = Some (record { number = f.0; ty = meant (core_ty f.1.now) })

-- a local's number
abbrev pub found_number : Option (ℕ × Known) → Option ℕ
found_number None = None
found_number (Some f) = Some f.0

-- the local itself
abbrev pub found_local : Option (ℕ × Known) → Option Local
found_local None = None
found_local (Some f) = Some (local_by f.1)
