-- Names in types that name no struct.
use Rattle.std.proofs.Common.{◌≡◌, ◌⊎◌, inl, inr, ℕ, Bool, true, false, if◌then◌else◌, not, List, [], ◌∷◌, ◌++◌, map, Option, Some, None, refl, sym, ap, ◌∙◌, append_assoc, append-nil}
use Rattle.std.specs.Str.{bytes_eq}
use Rattle.std.specs.Cmp.Lexicographic.{bytes_decides}
use Rattle.hv_tree.specs.declared.types.Name.{Name}
use Rattle.hv_tree.specs.declared.refusal.Rule.TheVariants as rule
use Rattle.hv_tree.specs.declared.refusal.Refusal.{Refusal}
use Rattle.hv_tree.specs.Core.{CoreDecl, StructOf, FunOf, CoreStruct, CoreField, CoreParam, CoreTy, IntTy, BoolTy, NamedTy, ArrayTy, FunTy, FunToTy, CoreTys, NoTys, TyOf}
use Rattle.hv_decls.specs.Types.{struct_in}
use Rattle.hv_decls.specs.Locals.{listed}
use Rattle.hv_type_rules.specs.Names.{names_in, names_of, names_in_all, param_type, field_type}
use Rattle.hv_type_names.specs.declared.program.Program.{Program}
use Rattle.hv_symbols.specs.Texts.{has}
use Rattle.hv_type_names.specs.Found as spec
use Rattle.hv_lemmas.proofs.Members.{Among, in_left, in_right, either_in}
use Rattle.hv_type_names.proofs.Repeated.{Has, is_there, there_is, out_only, into_only}

-- ---- structs

struct_by : (b : Bool) (s : CoreStruct) (ds : List CoreDecl) (text : List ℕ) → bytes_eq s.name.text text ≡ b → (Has (spec.struct_texts ds) text → struct_in ds text ≡ None → ⊥) → Has (spec.struct_texts (StructOf s ∷ ds)) text → (if b then Some s else struct_in ds text) ≡ None → ⊥
struct_by true s ds text e f h k = cc
struct_by false s ds text e f (inl g) k = let c : true ≡ false = sym ((bytes_decides s.name.text text).1 g) ∙ e in cc
struct_by false s ds text e f (inr h) k = f h k

-- a struct that is there is found
struct_there : (ds : List CoreDecl) (text : List ℕ) → Has (spec.struct_texts ds) text → struct_in ds text ≡ None → ⊥
struct_there [] text h e = h
struct_there (StructOf s ∷ ds) text h e = struct_by (bytes_eq s.name.text text) s ds text refl (struct_there ds text) h e
struct_there (FunOf f ∷ ds) text h e = struct_there ds text h e

none_by : (b : Bool) (s : CoreStruct) (ds : List CoreDecl) (text : List ℕ) → bytes_eq s.name.text text ≡ b → ((Has (spec.struct_texts ds) text → ⊥) → struct_in ds text ≡ None) → (Has (spec.struct_texts (StructOf s ∷ ds)) text → ⊥) → (if b then Some s else struct_in ds text) ≡ None
none_by true s ds text e f h = absurd (h (inl ((bytes_decides s.name.text text).0 e)))
none_by false s ds text e f h = f (λ k. h (inr k))

struct_none : (ds : List CoreDecl) (text : List ℕ) → (Has (spec.struct_texts ds) text → ⊥) → struct_in ds text ≡ None
struct_none [] text h = refl
struct_none (StructOf s ∷ ds) text h = none_by (bytes_eq s.name.text text) s ds text refl (struct_none ds text) h
struct_none (FunOf f ∷ ds) text h = struct_none ds text h

pub not_there : (ts : List (List ℕ)) (text : List ℕ) → not (has ts text) ≡ true → Has ts text → ⊥
not_there ts text e h = let f : not true ≡ true = ap not (sym (there_is ts text h)) ∙ e in cc

not_by : (b : Bool) → (b ≡ true → ⊥) → not b ≡ true
not_by true h = absurd (h refl)
not_by false h = refl

pub there_not : (ts : List (List ℕ)) (text : List ℕ) → (Has ts text → ⊥) → not (has ts text) ≡ true
there_not ts text h = not_by (has ts text) (λ e. h (is_there ts text e))

pub no_struct : (ds : List CoreDecl) (text : List ℕ) → not (has (spec.struct_texts ds) text) ≡ true → struct_in ds text ≡ None
no_struct ds text e = struct_none ds text (not_there (spec.struct_texts ds) text e)

pub struct_no : (ds : List CoreDecl) (text : List ℕ) → struct_in ds text ≡ None → not (has (spec.struct_texts ds) text) ≡ true
struct_no ds text e = there_not (spec.struct_texts ds) text (λ h. struct_there ds text h e)

-- ---- types

module _ (p : Program) where
  -- the names that name no struct
  abbrev pub unknown : List Name → List Refusal
  unknown [] = []
  unknown (n ∷ ns) = spec.named_found p n ++ unknown ns

  pub unknown_append : (a b : List Name) → unknown (a ++ b) ≡ unknown a ++ unknown b
  unknown_append [] b = refl
  unknown_append (n ∷ a) b = ap (λ l. spec.named_found p n ++ l) (unknown_append a b) ∙ sym (append_assoc (spec.named_found p n) (unknown a) (unknown b))

  mutual
    pub ty_unknown : (t : CoreTy) → spec.ty_found p t ≡ unknown (names_in t)
    ty_unknown (IntTy at) = refl
    ty_unknown (BoolTy at) = refl
    ty_unknown (NamedTy name) = sym (append-nil (spec.named_found p name))
    ty_unknown (ArrayTy at element) = ty_unknown element
    ty_unknown (FunTy at params) = tys_unknown params
    ty_unknown (FunToTy at params result) =
        ap (λ l. l ++ spec.ty_found p result) (tys_unknown params) ∙ ap (λ l. unknown (names_of params) ++ l) (ty_unknown result) ∙ sym (unknown_append (names_of params) (names_in result))

    tys_unknown : (ts : CoreTys) → spec.tys_found p ts ≡ unknown (names_of ts)
    tys_unknown NoTys = refl
    tys_unknown (TyOf c t rest) = ap (λ l. l ++ spec.tys_found p rest) (ty_unknown t) ∙ ap (λ l. unknown (names_in t) ++ l) (tys_unknown rest) ∙ sym (unknown_append (names_in t) (names_of rest))

  pub one_unknown : (t : CoreTy) → spec.ty_found p t ≡ unknown (names_in_all (t ∷ []))
  one_unknown t = ty_unknown t ∙ ap unknown (sym (append-nil (names_in t)))

  pub option_unknown : (t : Option CoreTy) → spec.option_ty_found p t ≡ unknown (names_in_all (listed t))
  option_unknown None = refl
  option_unknown (Some t) = one_unknown t

  pub params_unknown : (params : List CoreParam) → spec.params_found p params ≡ unknown (names_in_all (map param_type params))
  params_unknown [] = refl
  params_unknown (x ∷ xs) =
      ap (λ l. l ++ spec.params_found p xs) (ty_unknown x.ty) ∙ ap (λ l. unknown (names_in x.ty) ++ l) (params_unknown xs) ∙ sym (unknown_append (names_in x.ty) (names_in_all (map param_type xs)))

  pub fields_unknown : (fields : List CoreField) → spec.fields_found p fields ≡ unknown (names_in_all (map field_type fields))
  fields_unknown [] = refl
  fields_unknown (x ∷ xs) =
      ap (λ l. l ++ spec.fields_found p xs) (ty_unknown x.ty) ∙ ap (λ l. unknown (names_in x.ty) ++ l) (fields_unknown xs) ∙ sym (unknown_append (names_in x.ty) (names_in_all (map field_type xs)))

  names_append : (a b : List CoreTy) → names_in_all (a ++ b) ≡ names_in_all a ++ names_in_all b
  names_append [] b = refl
  names_append (t ∷ a) b = ap (λ l. names_in t ++ l) (names_append a b) ∙ sym (append_assoc (names_in t) (names_in_all a) (names_in_all b))

  -- the types of a function or a lambda
  pub header_unknown : (params : List CoreParam) (result : Option CoreTy) → spec.params_found p params ++ spec.option_ty_found p result ≡ unknown (names_in_all (map param_type params ++ listed result))
  header_unknown params result =
      ap (λ l. l ++ spec.option_ty_found p result) (params_unknown params)
      ∙ ap (λ l. unknown (names_in_all (map param_type params)) ++ l) (option_unknown result)
      ∙ sym (unknown_append (names_in_all (map param_type params)) (names_in_all (listed result)))
      ∙ ap unknown (sym (names_append (map param_type params) (listed result)))

  pub unknown_sound : (names : List Name) (r : Refusal) → Among (unknown names) r → (n : Name) × Among names n × (not (has p.structs n.text) ≡ true) × (spec.refusal rule.N2 n.place ≡ r)
  unknown_sound [] r h = absurd h
  unknown_sound (n ∷ ns) r h = by (either_in (spec.named_found p n) (unknown ns) r h) (unknown_sound ns r)
    where
      by : Among (spec.named_found p n) r ⊎ Among (unknown ns) r → (Among (unknown ns) r → (m : Name) × Among ns m × (not (has p.structs m.text) ≡ true) × (spec.refusal rule.N2 m.place ≡ r)) →
          (m : Name) × Among (n ∷ ns) m × (not (has p.structs m.text) ≡ true) × (spec.refusal rule.N2 m.place ≡ r)
      by (inl i) f = let o = out_only (not (has p.structs n.text)) (spec.refusal rule.N2 n.place) r i in (n, inl refl, o.0, o.1)
      by (inr i) f = let o = f i in (o.0, inr o.1, o.2, o.3)

  pub unknown_whole : (names : List Name) (n : Name) → Among names n → not (has p.structs n.text) ≡ true → Among (unknown names) (spec.refusal rule.N2 n.place)
  unknown_whole [] n h e = absurd h
  unknown_whole (m ∷ ns) n (inl f) e =
      in_left (spec.named_found p m) (unknown ns) (spec.refusal rule.N2 n.place)
      (into_only (not (has p.structs m.text)) (spec.refusal rule.N2 m.place) (spec.refusal rule.N2 n.place) (rw f e) (ap (λ (x : Name). spec.refusal rule.N2 x.place) f))
  unknown_whole (m ∷ ns) n (inr h) e = in_right (spec.named_found p m) (unknown ns) (spec.refusal rule.N2 n.place) (unknown_whole ns n h e)
