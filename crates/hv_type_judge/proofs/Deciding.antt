-- What the tests decide.
use Rattle.std.proofs.Common.{◌≡◌, ◌≢◌, ◌⊎◌, inl, inr, ◌↔◌, ℕ, Bool, true, false, not, ◌&&◌, ◌||◌, List, [], ◌∷◌, Option, Some, None, is_some, Contains, Decides, refl, sym, ap, ◌∙◌}
use Rattle.std.specs.Str.{bytes_eq}
use Rattle.std.proofs.lemmas.Slice.Eq.{bytes_eq-Decides}
use Rattle.std.proofs.lemmas.Bool.Decides.{Decides-not, Decides-and}
use Rattle.hv_tree.specs.declared.types.Name.{Name}
use Rattle.hv_tree.specs.declared.types.Conv.{Conv}
use Rattle.hv_tree.specs.declared.types.Conv.TheVariants as conv
use Rattle.hv_tree.specs.declared.ast.Operator.{Operator}
use Rattle.hv_tree.specs.declared.place.Place.{Place}
use Rattle.hv_tree.specs.Core.{Core, CoreSteps, NoSteps, FieldStep, IndexStep}
use Rattle.hv_decls.specs.Types.{ValueType, IntType, BoolType, StructType, ArrayType, FunType, FunToType, ParamTypes, NoneTaken, Taken, struct_in, field_of, element_of}
use Rattle.hv_decls.specs.Locals.{LocalKind, Captured, Passed, VarBound, LetBound, InoutBound, Handle, Local}
use Rattle.hv_decls.specs.Sites.{Scope}
use Rattle.hv_type_rules.specs.Typing.{Known, Unknown, Nothing, Is, operand_type, Signature, NoSignature, Signed}
use Rattle.hv_type_rules.specs.TypeRules as rules
use Rattle.hv_symbols.specs.Texts.{has}
use Rattle.hv_type_synth.specs.Tests.{same_conv, same_type, same_params, misfits, other, differ, signature_differs, is_equality, no_array, no_field, no_function, holds, known_to_hold, is_handle_kind, no_value, no_handle, is_handle, is_read_only_kind, is_read_only, is_struct_name, has_index, is_changed, is_moved}

-- ---- tests in general

pub never : (A : Type 0) → (A → ⊥) → Decides false A
never A n = (λ e. cc, λ a. absurd (n a))

pub always : (A : Type 0) → A → Decides true A
always A a = (λ e. a, λ b. refl)

pub either : (b c : Bool) (A B : Type 0) → Decides b A → Decides c B → Decides (b || c) (A ⊎ B)
either true c A B d f = (λ e. inl (d.0 refl), λ v. refl)
either false c A B d f = (λ e. inr (f.0 e), λ v. by v)
  where
    by : A ⊎ B → c ≡ true
    by (inl a) = let e : false ≡ true = d.1 a in cc
    by (inr b) = f.1 b

pub lacking : {A : Type 0} (o : Option A) → Decides (not (is_some o)) (o ≡ None)
lacking None = always (None ≡ None) refl
lacking (Some a) = never (Some a ≡ None) (λ e. cc)

pub there : {A : Type 0} (o : Option A) → Decides (is_some o) (o ≢ None)
there None = never (None ≢ None) (λ n. n refl)
there (Some a) = always (Some a ≢ None) (λ e. cc)

-- ---- equality of types

pub conv_decides : (c d : Conv) → Decides (same_conv c d) (c ≡ d)
conv_decides conv.Let conv.Let = always (conv.Let ≡ conv.Let) refl
conv_decides conv.Let conv.Inout = never (conv.Let ≡ conv.Inout) (λ e. cc)
conv_decides conv.Let conv.Sink = never (conv.Let ≡ conv.Sink) (λ e. cc)
conv_decides conv.Let conv.Set = never (conv.Let ≡ conv.Set) (λ e. cc)
conv_decides conv.Inout conv.Let = never (conv.Inout ≡ conv.Let) (λ e. cc)
conv_decides conv.Inout conv.Inout = always (conv.Inout ≡ conv.Inout) refl
conv_decides conv.Inout conv.Sink = never (conv.Inout ≡ conv.Sink) (λ e. cc)
conv_decides conv.Inout conv.Set = never (conv.Inout ≡ conv.Set) (λ e. cc)
conv_decides conv.Sink conv.Let = never (conv.Sink ≡ conv.Let) (λ e. cc)
conv_decides conv.Sink conv.Inout = never (conv.Sink ≡ conv.Inout) (λ e. cc)
conv_decides conv.Sink conv.Sink = always (conv.Sink ≡ conv.Sink) refl
conv_decides conv.Sink conv.Set = never (conv.Sink ≡ conv.Set) (λ e. cc)
conv_decides conv.Set conv.Let = never (conv.Set ≡ conv.Let) (λ e. cc)
conv_decides conv.Set conv.Inout = never (conv.Set ≡ conv.Inout) (λ e. cc)
conv_decides conv.Set conv.Sink = never (conv.Set ≡ conv.Sink) (λ e. cc)
conv_decides conv.Set conv.Set = always (conv.Set ≡ conv.Set) refl

-- equality goes down a constructor of one, two or three parts
by_struct : (s t : List ℕ) → Decides (bytes_eq s t) (StructType s ≡ StructType t)
by_struct s t = let d = bytes_eq-Decides s t in (λ e. ap StructType (d.0 e), λ e. d.1 cc)

by_array : (t u : ValueType) → Decides (same_type t u) (t ≡ u) → Decides (same_type t u) (ArrayType t ≡ ArrayType u)
by_array t u d = (λ e. ap ArrayType (d.0 e), λ e. d.1 cc)

by_fun : (ps qs : ParamTypes) → Decides (same_params ps qs) (ps ≡ qs) → Decides (same_params ps qs) (FunType ps ≡ FunType qs)
by_fun ps qs d = (λ e. ap FunType (d.0 e), λ e. d.1 cc)

pair_to : (ps qs : ParamTypes) (t u : ValueType) → (ps ≡ qs) × (t ≡ u) → FunToType ps t ≡ FunToType qs u
pair_to ps qs t u (e, f) = ap (λ p. FunToType p t) e ∙ ap (FunToType qs) f

by_fun_to : (ps qs : ParamTypes) (t u : ValueType) → Decides (same_params ps qs) (ps ≡ qs) → Decides (same_type t u) (t ≡ u) → Decides (same_params ps qs && same_type t u) (FunToType ps t ≡ FunToType qs u)
by_fun_to ps qs t u d f = let a = Decides-and (same_params ps qs) (same_type t u) d f in (λ e. pair_to ps qs t u (a.0 e), λ e. a.1 (cc, cc))

triple_to : (c d : Conv) (t u : ValueType) (ps qs : ParamTypes) → (c ≡ d) × ((t ≡ u) × (ps ≡ qs)) → Taken c t ps ≡ Taken d u qs
triple_to c d t u ps qs (e, (f, g)) = ap (λ x. Taken x t ps) e ∙ ap (λ x. Taken d x ps) f ∙ ap (Taken d u) g

by_taken : (c d : Conv) (t u : ValueType) (ps qs : ParamTypes) → Decides (same_type t u) (t ≡ u) → Decides (same_params ps qs) (ps ≡ qs) →
    Decides (same_conv c d && (same_type t u && same_params ps qs)) (Taken c t ps ≡ Taken d u qs)
by_taken c d t u ps qs f g =
    let a = Decides-and (same_conv c d) (same_type t u && same_params ps qs) (conv_decides c d) (Decides-and (same_type t u) (same_params ps qs) f g) in
    (λ e. triple_to c d t u ps qs (a.0 e), λ e. a.1 (cc, (cc, cc)))

mutual
  pub type_decides : (t u : ValueType) → Decides (same_type t u) (t ≡ u)
  type_decides IntType IntType = always (IntType ≡ IntType) refl
  type_decides IntType BoolType = never (IntType ≡ BoolType) (λ e. cc)
  type_decides IntType (StructType s) = never (IntType ≡ StructType s) (λ e. cc)
  type_decides IntType (ArrayType u) = never (IntType ≡ ArrayType u) (λ e. cc)
  type_decides IntType (FunType qs) = never (IntType ≡ FunType qs) (λ e. cc)
  type_decides IntType (FunToType qs u) = never (IntType ≡ FunToType qs u) (λ e. cc)
  type_decides BoolType IntType = never (BoolType ≡ IntType) (λ e. cc)
  type_decides BoolType BoolType = always (BoolType ≡ BoolType) refl
  type_decides BoolType (StructType s) = never (BoolType ≡ StructType s) (λ e. cc)
  type_decides BoolType (ArrayType u) = never (BoolType ≡ ArrayType u) (λ e. cc)
  type_decides BoolType (FunType qs) = never (BoolType ≡ FunType qs) (λ e. cc)
  type_decides BoolType (FunToType qs u) = never (BoolType ≡ FunToType qs u) (λ e. cc)
  type_decides (StructType s) IntType = never (StructType s ≡ IntType) (λ e. cc)
  type_decides (StructType s) BoolType = never (StructType s ≡ BoolType) (λ e. cc)
  type_decides (StructType s) (StructType t) = by_struct s t
  type_decides (StructType s) (ArrayType u) = never (StructType s ≡ ArrayType u) (λ e. cc)
  type_decides (StructType s) (FunType qs) = never (StructType s ≡ FunType qs) (λ e. cc)
  type_decides (StructType s) (FunToType qs u) = never (StructType s ≡ FunToType qs u) (λ e. cc)
  type_decides (ArrayType t) IntType = never (ArrayType t ≡ IntType) (λ e. cc)
  type_decides (ArrayType t) BoolType = never (ArrayType t ≡ BoolType) (λ e. cc)
  type_decides (ArrayType t) (StructType s) = never (ArrayType t ≡ StructType s) (λ e. cc)
  type_decides (ArrayType t) (ArrayType u) = by_array t u (type_decides t u)
  type_decides (ArrayType t) (FunType qs) = never (ArrayType t ≡ FunType qs) (λ e. cc)
  type_decides (ArrayType t) (FunToType qs u) = never (ArrayType t ≡ FunToType qs u) (λ e. cc)
  type_decides (FunType ps) IntType = never (FunType ps ≡ IntType) (λ e. cc)
  type_decides (FunType ps) BoolType = never (FunType ps ≡ BoolType) (λ e. cc)
  type_decides (FunType ps) (StructType s) = never (FunType ps ≡ StructType s) (λ e. cc)
  type_decides (FunType ps) (ArrayType u) = never (FunType ps ≡ ArrayType u) (λ e. cc)
  type_decides (FunType ps) (FunType qs) = by_fun ps qs (params_decide ps qs)
  type_decides (FunType ps) (FunToType qs u) = never (FunType ps ≡ FunToType qs u) (λ e. cc)
  type_decides (FunToType ps t) IntType = never (FunToType ps t ≡ IntType) (λ e. cc)
  type_decides (FunToType ps t) BoolType = never (FunToType ps t ≡ BoolType) (λ e. cc)
  type_decides (FunToType ps t) (StructType s) = never (FunToType ps t ≡ StructType s) (λ e. cc)
  type_decides (FunToType ps t) (ArrayType u) = never (FunToType ps t ≡ ArrayType u) (λ e. cc)
  type_decides (FunToType ps t) (FunType qs) = never (FunToType ps t ≡ FunType qs) (λ e. cc)
  type_decides (FunToType ps t) (FunToType qs u) = by_fun_to ps qs t u (params_decide ps qs) (type_decides t u)

  params_decide : (ps qs : ParamTypes) → Decides (same_params ps qs) (ps ≡ qs)
  params_decide NoneTaken NoneTaken = always (NoneTaken ≡ NoneTaken) refl
  params_decide NoneTaken (Taken d u qs) = never (NoneTaken ≡ Taken d u qs) (λ e. cc)
  params_decide (Taken c t ps) NoneTaken = never (Taken c t ps ≡ NoneTaken) (λ e. cc)
  params_decide (Taken c t ps) (Taken d u qs) = by_taken c d t u ps qs (type_decides t u) (params_decide ps qs)

pub unlike : (t u : ValueType) → Decides (not (same_type t u)) (t ≢ u)
unlike t u = Decides-not (same_type t u) (type_decides t u)

-- ---- types that don't fit

pub misfits_decides : (asked : Option ValueType) (t : Known) → Decides (misfits asked t) (rules.Misfits asked t)
misfits_decides asked Unknown = never ⊥ (λ v. v)
misfits_decides asked Nothing = always (Unit {0}) tt
misfits_decides None (Is t) = never ⊥ (λ v. v)
misfits_decides (Some a) (Is t) = unlike t a

pub other_decides : (a : ValueType) (t : Option ValueType) → Decides (other a t) (rules.Other a t)
other_decides a None = never ⊥ (λ v. v)
other_decides a (Some t) = unlike t a

pub differ_decides : (a b : Known) → Decides (differ a b) (rules.Differ a b)
differ_decides Unknown Unknown = never ⊥ (λ v. v)
differ_decides Unknown Nothing = never ⊥ (λ v. v)
differ_decides Unknown (Is u) = never ⊥ (λ v. v)
differ_decides Nothing Unknown = never ⊥ (λ v. v)
differ_decides Nothing Nothing = never ⊥ (λ v. v)
differ_decides Nothing (Is u) = always (Unit {0}) tt
differ_decides (Is t) Unknown = never ⊥ (λ v. v)
differ_decides (Is t) Nothing = always (Unit {0}) tt
differ_decides (Is t) (Is u) = unlike t u

pub equality_decides : (o : Operator) → Decides (is_equality o) (rules.IsEquality o)
equality_decides o = lacking (operand_type o)

-- ---- names

pub handle_kind_decides : (k : LocalKind) → Decides (is_handle_kind k) (rules.IsHandleKind k)
handle_kind_decides Captured = never (Captured ≡ Handle) (λ e. cc)
handle_kind_decides (Passed c) = never (Passed c ≡ Handle) (λ e. cc)
handle_kind_decides VarBound = never (VarBound ≡ Handle) (λ e. cc)
handle_kind_decides LetBound = never (LetBound ≡ Handle) (λ e. cc)
handle_kind_decides InoutBound = never (InoutBound ≡ Handle) (λ e. cc)
handle_kind_decides Handle = always (Handle ≡ Handle) refl

pub no_value_decides : (l : Option Local) → Decides (no_value l) (rules.NoValue l)
no_value_decides None = always (Unit {0}) tt
no_value_decides (Some l) = handle_kind_decides l.kind

pub no_handle_decides : (l : Option Local) → Decides (no_handle l) (rules.NoHandle l)
no_handle_decides None = always (Unit {0}) tt
no_handle_decides (Some l) = Decides-not (is_handle_kind l.kind) (handle_kind_decides l.kind)

pub is_handle_decides : (l : Option Local) → Decides (is_handle l) (rules.IsHandle l)
is_handle_decides None = never ⊥ (λ v. v)
is_handle_decides (Some l) = handle_kind_decides l.kind

pub read_only_kind_decides : (k : LocalKind) → Decides (is_read_only_kind k) (rules.IsReadOnlyKind k)
read_only_kind_decides Captured = always (Unit {0}) tt
read_only_kind_decides (Passed c) = conv_decides c conv.Let
read_only_kind_decides VarBound = never ⊥ (λ v. v)
read_only_kind_decides LetBound = always (Unit {0}) tt
read_only_kind_decides InoutBound = never ⊥ (λ v. v)
read_only_kind_decides Handle = never ⊥ (λ v. v)

pub read_only_decides : (l : Option Local) → Decides (is_read_only l) (rules.IsReadOnly l)
read_only_decides None = never ⊥ (λ v. v)
read_only_decides (Some l) = read_only_kind_decides l.kind

pub has_index_decides : (steps : CoreSteps) → Decides (has_index steps) (rules.HasIndex steps)
has_index_decides NoSteps = never ⊥ (λ v. v)
has_index_decides (FieldStep name rest) = has_index_decides rest
has_index_decides (IndexStep at x rest) = always (Unit {0}) tt

pub struct_name_decides : (tree : Core) (name : Name) → Decides (is_struct_name tree name) (rules.IsStructName tree name)
struct_name_decides tree name = there (struct_in tree.decls name.text)

-- ---- in a scope

module _ (tree : Core) (scope : Scope) (place : Place) where
  pub no_array_decides : (t : Option ValueType) → Decides (no_array t) (rules.NoArray tree scope place t)
  no_array_decides None = never ⊥ (λ v. v)
  no_array_decides (Some t) = lacking (element_of t)

  pub no_field_decides : (t : Option ValueType) (name : Name) → Decides (no_field tree t name) (rules.NoField tree scope place t name)
  no_field_decides None name = never ⊥ (λ v. v)
  no_field_decides (Some t) name = lacking (field_of tree t name.text)

  pub no_function_decides : (t : Option ValueType) → Decides (no_function t) (rules.NoFunction tree scope place t)
  no_function_decides None = never ⊥ (λ v. v)
  no_function_decides (Some IntType) = always (Unit {0}) tt
  no_function_decides (Some BoolType) = always (Unit {0}) tt
  no_function_decides (Some (StructType s)) = always (Unit {0}) tt
  no_function_decides (Some (ArrayType t)) = always (Unit {0}) tt
  no_function_decides (Some (FunType params)) = never ⊥ (λ v. v)
  no_function_decides (Some (FunToType params t)) = never ⊥ (λ v. v)

  pub signature_decides : (t : Known) (s : Signature) → Decides (signature_differs t s) (rules.SignatureDiffers tree scope place t s)
  signature_decides t NoSignature = never ⊥ (λ v. v)
  signature_decides t (Signed wanted u) = differ_decides t u

  pub changed_decides : (c : Option Conv) → Decides (is_changed c) (rules.LacksMark tree scope place c)
  changed_decides None = never ⊥ (λ v. v)
  changed_decides (Some conv.Let) = never ((conv.Let ≡ conv.Inout) ⊎ (conv.Let ≡ conv.Set)) (λ v. no v)
    where
      no : (conv.Let ≡ conv.Inout) ⊎ (conv.Let ≡ conv.Set) → ⊥
      no (inl e) = cc
      no (inr e) = cc
  changed_decides (Some conv.Inout) = always ((conv.Inout ≡ conv.Inout) ⊎ (conv.Inout ≡ conv.Set)) (inl refl)
  changed_decides (Some conv.Sink) = never ((conv.Sink ≡ conv.Inout) ⊎ (conv.Sink ≡ conv.Set)) (λ v. no v)
    where
      no : (conv.Sink ≡ conv.Inout) ⊎ (conv.Sink ≡ conv.Set) → ⊥
      no (inl e) = cc
      no (inr e) = cc
  changed_decides (Some conv.Set) = always ((conv.Set ≡ conv.Inout) ⊎ (conv.Set ≡ conv.Set)) (inr refl)

  pub kept_decides : (c : Option Conv) → Decides (not (is_changed c)) (rules.HasMark tree scope place c)
  kept_decides None = always (Unit {0}) tt
  kept_decides (Some conv.Let) = always ((conv.Let ≡ conv.Let) ⊎ (conv.Let ≡ conv.Sink)) (inl refl)
  kept_decides (Some conv.Inout) = never ((conv.Inout ≡ conv.Let) ⊎ (conv.Inout ≡ conv.Sink)) (λ v. no v)
    where
      no : (conv.Inout ≡ conv.Let) ⊎ (conv.Inout ≡ conv.Sink) → ⊥
      no (inl e) = cc
      no (inr e) = cc
  kept_decides (Some conv.Sink) = always ((conv.Sink ≡ conv.Let) ⊎ (conv.Sink ≡ conv.Sink)) (inr refl)
  kept_decides (Some conv.Set) = never ((conv.Set ≡ conv.Let) ⊎ (conv.Set ≡ conv.Sink)) (λ v. no v)
    where
      no : (conv.Set ≡ conv.Let) ⊎ (conv.Set ≡ conv.Sink) → ⊥
      no (inl e) = cc
      no (inr e) = cc

-- ---- function values

-- the list names exactly the structs whose values have function values in them
abbrev pub Holding : Core → List (List ℕ) → Type 0
Holding tree holding = (s : List ℕ) → Decides (has holding s) (rules.HoldsFunction tree (StructType s))

module _ (tree : Core) where
  no_scalar : (t : ValueType) → ((params : ParamTypes) → t ≡ FunType params → ⊥) → ((params : ParamTypes) (result : ValueType) → t ≡ FunToType params result → ⊥) →
      ((e : ValueType) → t ≡ ArrayType e → ⊥) → ((s : List ℕ) → t ≡ StructType s → ⊥) → rules.HoldsFunction tree t → ⊥
  no_scalar t a b c d (rules.is_fun params e) = a params e
  no_scalar t a b c d (rules.is_fun_to params result e) = b params result e
  no_scalar t a b c d (rules.in_element element e more) = c element e
  no_scalar t a b c d (rules.in_field s field e in_it more) = d s e

  element_holds : (t u : ValueType) → t ≡ ArrayType u → rules.HoldsFunction tree t → rules.HoldsFunction tree u
  element_holds t u e (rules.is_fun params f) = let g : ArrayType u ≡ FunType params = sym e ∙ f in cc
  element_holds t u e (rules.is_fun_to params result f) = let g : ArrayType u ≡ FunToType params result = sym e ∙ f in cc
  element_holds t u e (rules.in_element element f more) = let g : element ≡ u = cc in rw (← g) more
  element_holds t u e (rules.in_field s field f in_it more) = let g : ArrayType u ≡ StructType s = sym e ∙ f in cc

  pub holds_decides : (holding : List (List ℕ)) → Holding tree holding → (t : ValueType) → Decides (holds holding t) (rules.HoldsFunction tree t)
  holds_decides holding exact IntType = never (rules.HoldsFunction tree IntType) (no_scalar IntType (λ p e. cc) (λ p r e. cc) (λ t e. cc) (λ s e. cc))
  holds_decides holding exact BoolType = never (rules.HoldsFunction tree BoolType) (no_scalar BoolType (λ p e. cc) (λ p r e. cc) (λ t e. cc) (λ s e. cc))
  holds_decides holding exact (StructType s) = exact s
  holds_decides holding exact (ArrayType t) = let d = holds_decides holding exact t in (λ e. rules.in_element t refl (d.0 e), λ h. d.1 (element_holds (ArrayType t) t refl h))
  holds_decides holding exact (FunType params) = always (rules.HoldsFunction tree (FunType params)) (rules.is_fun params refl)
  holds_decides holding exact (FunToType params t) = always (rules.HoldsFunction tree (FunToType params t)) (rules.is_fun_to params t refl)

  pub known_to_hold_decides : (holding : List (List ℕ)) → Holding tree holding → (t : Known) → Decides (known_to_hold holding t) (rules.KnownToHold tree t)
  known_to_hold_decides holding exact Unknown = never ⊥ (λ v. v)
  known_to_hold_decides holding exact Nothing = never ⊥ (λ v. v)
  known_to_hold_decides holding exact (Is t) = holds_decides holding exact t
