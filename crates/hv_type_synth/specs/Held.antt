-- Types as code holds them.
use Rattle.std.specs.Prelude.{ℕ, zero, suc, List, [], ◌∷◌, map, Option, Some, None}
use Rattle.std.specs.Borrow.{Bor}
use Rattle.std.specs.Option.{option_copied}
use Rattle.hv_tree.specs.declared.types.Ty.{Ty}
use Rattle.hv_tree.specs.declared.types.Conv.{Conv}
use Rattle.hv_tree.specs.Core.{core_ty, core_tys_of, core_param, core_option_ty, core_field}
use Rattle.hv_decls.specs.Types.{ValueType, IntType, BoolType, StructType, ArrayType, ParamTypes, NoneTaken, Taken, meant, option_meant, params_meant, params_of, fun_type}
use Rattle.hv_type_rules.specs.Typing.{Known, Unknown, Nothing, Is, Wanted, Signature, NoSignature, Signed, wanted_params, wanted_field}
use Rattle.hv_scope.specs.Known.{typed}
use Rattle.hv_type_synth.specs.declared.types.Base.{Base}
use Rattle.hv_type_synth.specs.declared.types.Base.TheVariants as base
use Rattle.hv_type_synth.specs.declared.types.HeldType.{HeldType}
use Rattle.hv_type_synth.specs.declared.types.Typed.{Typed}
use Rattle.hv_type_synth.specs.declared.types.Typed.TheVariants as known
use Rattle.hv_type_synth.specs.declared.types.Takes.{Takes}
use Rattle.hv_type_synth.specs.declared.types.Takes.TheVariants as takes
use Rattle.hv_type_synth.specs.declared.types.Wants.{Wants}
use Rattle.hv_type_synth.specs.declared.types.Wants.TheVariants as wants
use Rattle.hv_type_synth.specs.declared.types.Signature as held
use Rattle.hv_type_synth.specs.declared.types.Signature.TheVariants as signature
use Rattle.hv_type_synth.specs.declared.types.Shape.{Shape}
use Rattle.hv_type_synth.specs.declared.types.Shape.TheVariants as shape

-- what a written type means
abbrev pub ty_by : Ty → ValueType
ty_by t = meant (core_ty t)

-- the same of one that may lack
abbrev pub option_ty_by : Option (Bor Ty) → Option ValueType
option_ty_by t = typed (option_copied t)

-- so many arrays around a type
abbrev pub arrays_of : ℕ → ValueType → ValueType
arrays_of zero t = t
arrays_of (suc n) t = ArrayType (arrays_of n t)

-- the parameters of a written function type
abbrev pub pairs_by : List (Conv × Ty) → ParamTypes
pairs_by ts = params_meant (core_tys_of (map (λ (t : Conv × Ty). (t.0, core_ty t.1)) ts))

-- what a function takes
abbrev pub takes_by : Takes → ParamTypes
takes_by (takes.Params ps) = params_of (map core_param ps.now)
takes_by (takes.Types ts) = pairs_by ts.now

-- the next parameter and the others
abbrev pub taken_by : Option (Conv × Bor Ty × Takes) → ParamTypes
taken_by None = NoneTaken
taken_by (Some t) = Taken t.0 (ty_by t.1.now) (takes_by t.2)

abbrev pub base_by : Base → ValueType
base_by base.Int = IntType
base_by base.Bool = BoolType
base_by (base.Struct name) = StructType name.now.text
base_by (base.Written t) = ty_by t.now
base_by (base.Function ps result) = fun_type (params_of (map core_param ps.now)) (option_meant (core_option_ty result.now))

-- a base that may lack
abbrev pub option_base : Option Base → Option ValueType
option_base None = None
option_base (Some b) = Some (base_by b)

-- a type
abbrev pub type_by : HeldType → ValueType
type_by t = arrays_of t.arrays (base_by t.base)

-- a type that may lack
abbrev pub option_type : Option HeldType → Option ValueType
option_type None = None
option_type (Some t) = Some (type_by t)

-- what is known of a type
abbrev pub known_by : Typed → Known
known_by known.Unknown = Unknown
known_by known.Nothing = Nothing
known_by (known.Is t) = Is (type_by t)

-- a type by its outermost level
abbrev pub shape_by : Shape → ValueType
shape_by shape.Int = IntType
shape_by shape.Bool = BoolType
shape_by (shape.Struct name) = StructType name.now.text
shape_by (shape.Array t) = ArrayType (ty_by t.now)
shape_by (shape.Function ps result) = fun_type (takes_by ps) (option_ty_by result)

-- a type inside so many arrays, none where there are fewer
abbrev pub inside : ℕ → ValueType → Option ValueType
inside zero t = Some t
inside (suc n) (ArrayType t) = inside n t
inside (suc n) _ = None

-- what a call takes
abbrev pub wants_by : Wants → List Wanted
wants_by (wants.Fields fs) = map wanted_field (map core_field fs.now)
wants_by (wants.Taken ps) = wanted_params (takes_by ps)

-- what the next argument is for, and the others
abbrev pub wanted_next : Option (Option Conv × Bor Ty × Wants) → List Wanted
wanted_next None = []
wanted_next (Some w) = record { conv = w.0; ty = ty_by w.1.now } ∷ wants_by w.2

-- what is known of a callee
abbrev pub signature_by : held.Signature → Signature
signature_by signature.Unknown = NoSignature
signature_by (signature.Signed ws t) = Signed (wants_by ws) (known_by t)
