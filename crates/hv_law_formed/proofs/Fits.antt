-- Values by their types.
use Rattle.std.proofs.Common.{◌≡◌, ℕ, zero, suc, ℤ, Bool, true, List, [], ◌∷◌, Option, Some, None, refl, sym, subst}
use Rattle.std.specs.List.{slice_get}
use Rattle.hv_tree.specs.Core.{Core}
use Rattle.hv_decls.specs.Types.{ValueType, IntType, BoolType, StructType, ArrayType, FunType, FunToType, ParamTypes, option_meant, params_of, fun_type, field_types}
use Rattle.hv_decls.specs.Locals.{Local, CoreBody}
use Rattle.hv_value.specs.ValueTree.{ValueTree, Number, Truth, Fields, Elements, Closure, Parts, Nil, Cons}
use Rattle.hv_value.specs.Places.{nth, change_nth}
use Rattle.hv_value.specs.Holes.{is_whole, all_whole}
use Rattle.hv_value.specs.Operators.{copies}
use Rattle.hv_law_formed.specs.Formed.{IsBody}
use Rattle.hv_law_formed.proofs.Inside.{Good}

abbrev pub IsTruth : ValueTree → Type 0
IsTruth v = (b : Bool) × (v ≡ Truth b)

-- the type of the function values that a body makes
abbrev pub body_type : CoreBody → ValueType
body_type body = fun_type (params_of body.params) (option_meant body.result)

mutual
  -- the value has the type
  pub data Fits (tree : Core) : ValueType → ValueTree → Type 0 where
    f_number : {z : ℤ} → Fits tree IntType (Number z)
    f_truth : {b : Bool} → Fits tree BoolType (Truth b)
    f_fields : {s : List ℕ} {vs : Parts} → FitAll tree (field_types tree s) vs → Fits tree (StructType s) (Fields vs)
    f_elements : {t : ValueType} {vs : Parts} → FitEach tree t vs → Fits tree (ArrayType t) (Elements vs)
    f_closure : {t : ValueType} {f : ℕ} {vs : Parts} (body : CoreBody) → IsBody tree f body → Good tree body → t ≡ body_type body → FitLocals tree body.captures vs → Fits tree t (Closure f vs)

  -- each value has its type
  pub data FitAll (tree : Core) : List ValueType → Parts → Type 0 where
    all_none : FitAll tree [] Nil
    all_more : {t : ValueType} {ts : List ValueType} {v : ValueTree} {vs : Parts} → Fits tree t v → FitAll tree ts vs → FitAll tree (t ∷ ts) (Cons v vs)

  -- each value has the one type
  pub data FitEach (tree : Core) : ValueType → Parts → Type 0 where
    each_none : {t : ValueType} → FitEach tree t Nil
    each_more : {t : ValueType} {v : ValueTree} {vs : Parts} → Fits tree t v → FitEach tree t vs → FitEach tree t (Cons v vs)

  -- each value has the type of its local
  pub data FitLocals (tree : Core) : List Local → Parts → Type 0 where
    locals_none : FitLocals tree [] Nil
    locals_more : {l : Local} {ls : List Local} {v : ValueTree} {vs : Parts} (t : ValueType) → l.ty ≡ Some t → Fits tree t v → FitLocals tree ls vs → FitLocals tree (l ∷ ls) (Cons v vs)

-- ---- no holes

mutual
  pub no_hole : {tree : Core} {t : ValueType} {v : ValueTree} → Fits tree t v → is_whole v ≡ true
  no_hole f_number = refl
  no_hole f_truth = refl
  no_hole (f_fields h) = whole_all h
  no_hole (f_elements h) = whole_each h
  no_hole (f_closure body i g e h) = whole_locals h

  whole_all : {tree : Core} {ts : List ValueType} {vs : Parts} → FitAll tree ts vs → all_whole vs ≡ true
  whole_all all_none = refl
  whole_all (all_more h k) = rw (no_hole h) (whole_all k)

  whole_each : {tree : Core} {t : ValueType} {vs : Parts} → FitEach tree t vs → all_whole vs ≡ true
  whole_each each_none = refl
  whole_each (each_more h k) = rw (no_hole h) (whole_each k)

  whole_locals : {tree : Core} {ls : List Local} {vs : Parts} → FitLocals tree ls vs → all_whole vs ≡ true
  whole_locals locals_none = refl
  whole_locals (locals_more t e h k) = rw (no_hole h) (whole_locals k)

-- ---- what a value of a type is

abbrev pub IsFunction : ValueType → Type 0
IsFunction IntType = ⊥
IsFunction BoolType = ⊥
IsFunction (StructType s) = ⊥
IsFunction (ArrayType t) = ⊥
IsFunction (FunType params) = Unit {0}
IsFunction (FunToType params t) = Unit {0}

pub fun_is : (params : ParamTypes) (t : Option ValueType) → IsFunction (fun_type params t)
fun_is params None = tt
fun_is params (Some t) = tt

body_is : {t : ValueType} (body : CoreBody) → t ≡ body_type body → IsFunction t
body_is body e = subst IsFunction (sym e) (fun_is (params_of body.params) (option_meant body.result))

pub is_number : {tree : Core} {v : ValueTree} → Fits tree IntType v → (z : ℤ) × (v ≡ Number z)
is_number (f_number {z = z}) = (z, refl)
is_number (f_closure body i g e h) = absurd (body_is body e)

pub is_truth : {tree : Core} {v : ValueTree} → Fits tree BoolType v → IsTruth v
is_truth (f_truth {b = b}) = (b, refl)
is_truth (f_closure body i g e h) = absurd (body_is body e)

pub is_fields : {tree : Core} {s : List ℕ} {v : ValueTree} → Fits tree (StructType s) v → (vs : Parts) × (v ≡ Fields vs) × FitAll tree (field_types tree s) vs
is_fields (f_fields {vs = vs} h) = (vs, refl, h)
is_fields (f_closure body i g e h) = absurd (body_is body e)

pub is_elements : {tree : Core} {t : ValueType} {v : ValueTree} → Fits tree (ArrayType t) v → (vs : Parts) × (v ≡ Elements vs) × FitEach tree t vs
is_elements (f_elements {vs = vs} h) = (vs, refl, h)
is_elements (f_closure body i g e h) = absurd (body_is body e)

-- a function value, with its body
pub record Made (tree : Core) (t : ValueType) (v : ValueTree) : Type 0 where
  pub number : ℕ
  pub captures : Parts
  pub body : CoreBody
  pub is : v ≡ Closure number captures
  pub numbered : IsBody tree number body
  pub good : Good tree body
  pub typed : t ≡ body_type body
  pub captured : FitLocals tree body.captures captures

pub is_closure : {tree : Core} {t : ValueType} {v : ValueTree} → Fits tree t v → IsFunction t → Made tree t v
is_closure f_number k = absurd k
is_closure f_truth k = absurd k
is_closure (f_fields h) k = absurd k
is_closure (f_elements h) k = absurd k
is_closure (f_closure {f = f} {vs = vs} body i g e h) k = record { number = f; captures = vs; body = body; is = refl; numbered = i; good = g; typed = e; captured = h }

-- ---- parts

pub nth_all : {tree : Core} {ts : List ValueType} {vs : Parts} (k : ℕ) (t : ValueType) → FitAll tree ts vs → slice_get ts k ≡ Some t → (v : ValueTree) × (nth vs k ≡ Some v) × Fits tree t v
nth_all k t all_none e = cc
nth_all {tree = tree} zero t (all_more {t = u} {v = v} h k) e = let same : u ≡ t = cc in (v, refl, subst (λ u. Fits tree u v) same h)
nth_all (suc k) t (all_more h more) e = nth_all k t more e

pub change_all : {tree : Core} {ts : List ValueType} {vs : Parts} (k : ℕ) (t : ValueType) (f : ValueTree → ValueTree) → FitAll tree ts vs → slice_get ts k ≡ Some t → ((v : ValueTree) → nth vs k ≡ Some v → Fits tree t (f v)) → FitAll tree ts (change_nth vs k f)
change_all k t f all_none e c = all_none
change_all {tree = tree} zero t f (all_more {t = u} {v = v} h k) e c = let same : t ≡ u = cc in all_more (subst (λ u. Fits tree u (f v)) same (c v refl)) k
change_all (suc k) t f (all_more h more) e c = all_more h (change_all k t f more e c)

pub nth_each : {tree : Core} {t : ValueType} {vs : Parts} (k : ℕ) (v : ValueTree) → FitEach tree t vs → nth vs k ≡ Some v → Fits tree t v
nth_each k v each_none e = cc
nth_each {tree = tree} {t = t} zero v (each_more {v = w} h k) e = let same : w ≡ v = cc in subst (Fits tree t) same h
nth_each (suc k) v (each_more h more) e = nth_each k v more e

pub change_each : {tree : Core} {t : ValueType} {vs : Parts} (k : ℕ) (f : ValueTree → ValueTree) → FitEach tree t vs → ((v : ValueTree) → nth vs k ≡ Some v → Fits tree t (f v)) → FitEach tree t (change_nth vs k f)
change_each k f each_none c = each_none
change_each zero f (each_more {v = v} h k) c = each_more (c v refl) k
change_each (suc k) f (each_more h more) c = each_more h (change_each k f more c)

pub copies_fit : {tree : Core} {t : ValueType} {v : ValueTree} (n : ℕ) → Fits tree t v → FitEach tree t (copies n v)
copies_fit zero h = each_none
copies_fit (suc n) h = each_more h (copies_fit n h)
