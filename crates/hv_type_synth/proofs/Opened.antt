-- Types by their variant, as code meets them.
use Rattle.std.proofs.lemmas.List.{drop_all}
use Rattle.std.proofs.Common.{arith, zero, suc, ◌+◌, ◌-◌, ◌<◌, ◌≡◌, ◌≤◌, length, drop, nat_eq, sym, ℕ, Bool, true, false, ◌&&◌, List, [], ◌∷◌, map, Option, Some, None, refl, ap, ◌∙◌}
use Rattle.hv_tree.specs.declared.types.Conv.{Conv}
use Rattle.hv_tree.specs.declared.types.Ty.{Ty, out-Ty}
use Rattle.hv_tree.specs.declared.types.Ty.TheOpen.{Ty-F}
use Rattle.hv_tree.specs.declared.ast.Param.{Param}
use Rattle.hv_tree.specs.Core.{core_param, core_option_ty}
use Rattle.hv_tree.proofs.CoreLemmas as lemmas
use Rattle.hv_decls.specs.Types.{ValueType, IntType, BoolType, StructType, ArrayType, ParamTypes, Taken, FunType, FunToType, NoneTaken, meant, option_meant, params_of, fun_type}
use Rattle.hv_type_synth.specs.declared.types.Shape.{Shape}
use Rattle.hv_type_synth.specs.declared.types.Shape.TheVariants as shape
use Rattle.hv_type_synth.specs.declared.types.Takes.{Takes}
use Rattle.hv_scope.specs.Known.{typed}
use Rattle.hv_type_synth.specs.Held.{shape_by, arrays_of, inside, taken_by, ty_by, pairs_by, takes_by, option_ty_by}
use Rattle.hv_symbols.specs.Texts.{has}
use Rattle.hv_type_synth.specs.Tests.{same_type, same_params, option_same, holds, no_function}
use Rattle.std.specs.Str.{bytes_eq}

pub params_none : (ps : List Param) → ps ≡ [] → params_of (map core_param ps) ≡ NoneTaken
params_none ps e = rw e refl

pub pairs_none : (ts : List (Conv × Ty)) → ts ≡ [] → pairs_by ts ≡ NoneTaken
pairs_none ts e = rw e refl

-- a type by its outermost level
unfoldable pub shape_of : Ty-F Ty → ValueType
shape_of (Ty-F.Int at) = IntType
shape_of (Ty-F.Bool at) = BoolType
shape_of (Ty-F.Named name) = StructType name.text
shape_of (Ty-F.Array at t) = ArrayType (ty_by t)
shape_of (Ty-F.Fun at params result) = fun_type (pairs_by params) (typed result)

shape_ty : (t : Ty) (u : Ty-F Ty) → out-Ty t ≡ u → ty_by t ≡ shape_of u
unfolding shape_of
shape_ty t (Ty-F.Int at) e = ap meant (lemmas.written_int t at e)
shape_ty t (Ty-F.Bool at) e = ap meant (lemmas.written_bool t at e)
shape_ty t (Ty-F.Named name) e = ap meant (lemmas.written_named t name e)
shape_ty t (Ty-F.Array at element) e = ap meant (lemmas.written_array t at element e)
shape_ty t (Ty-F.Fun at params None) e = ap meant (lemmas.written_fun t at params e)
shape_ty t (Ty-F.Fun at params (Some r)) e = ap meant (lemmas.written_fun_to t at params r e)

pub shape_opened : (t : Ty) → ty_by t ≡ shape_of (out-Ty t)
shape_opened t = shape_ty t (out-Ty t) refl

-- a result that may lack
pub typed_meant : (t : Option Ty) → typed t ≡ option_meant (core_option_ty t)
typed_meant None = refl
typed_meant (Some t) = refl

-- ---- two types

unfoldable pub same_by : Ty-F Ty → Ty-F Ty → Bool
same_by (Ty-F.Int at) (Ty-F.Int to) = true
same_by (Ty-F.Bool at) (Ty-F.Bool to) = true
same_by (Ty-F.Named x) (Ty-F.Named y) = bytes_eq x.text y.text
same_by (Ty-F.Array at t) (Ty-F.Array to u) = same_type (ty_by t) (ty_by u)
same_by (Ty-F.Fun at ps t) (Ty-F.Fun to qs u) = same_params (pairs_by ps) (pairs_by qs) && option_same (typed t) (typed u)
same_by _ _ = false

and_true : (b : Bool) → b ≡ (b && true)
and_true true = refl
and_true false = refl

and_false : (b : Bool) → false ≡ (b && false)
and_false true = refl
and_false false = refl

-- function types, by their parameters and their results
pub same_functions : (ps qs : ParamTypes) (t u : Option ValueType) → same_type (fun_type ps t) (fun_type qs u) ≡ (same_params ps qs && option_same t u)
same_functions ps qs None None = and_true (same_params ps qs)
same_functions ps qs None (Some u) = and_false (same_params ps qs)
same_functions ps qs (Some t) None = and_false (same_params ps qs)
same_functions ps qs (Some t) (Some u) = refl

-- another type than a function type
abbrev pub Plain : ValueType → Type 0
Plain IntType = Unit {0}
Plain BoolType = Unit {0}
Plain (StructType s) = Unit {0}
Plain (ArrayType t) = Unit {0}
Plain _ = ⊥

pub function_first : (ps : ParamTypes) (t : Option ValueType) (u : ValueType) → Plain u → same_type (fun_type ps t) u ≡ false
function_first ps None IntType p = refl
function_first ps None BoolType p = refl
function_first ps None (StructType s) p = refl
function_first ps None (ArrayType u) p = refl
function_first ps None (FunType qs) p = absurd p
function_first ps None (FunToType qs u) p = absurd p
function_first ps (Some t) IntType p = refl
function_first ps (Some t) BoolType p = refl
function_first ps (Some t) (StructType s) p = refl
function_first ps (Some t) (ArrayType u) p = refl
function_first ps (Some t) (FunType qs) p = absurd p
function_first ps (Some t) (FunToType qs u) p = absurd p

pub function_second : (ps : ParamTypes) (t : Option ValueType) (u : ValueType) → Plain u → same_type u (fun_type ps t) ≡ false
function_second ps None IntType p = refl
function_second ps None BoolType p = refl
function_second ps None (StructType s) p = refl
function_second ps None (ArrayType u) p = refl
function_second ps None (FunType qs) p = absurd p
function_second ps None (FunToType qs u) p = absurd p
function_second ps (Some t) IntType p = refl
function_second ps (Some t) BoolType p = refl
function_second ps (Some t) (StructType s) p = refl
function_second ps (Some t) (ArrayType u) p = refl
function_second ps (Some t) (FunType qs) p = absurd p
function_second ps (Some t) (FunToType qs u) p = absurd p

same_shapes : (u v : Ty-F Ty) → same_type (shape_of u) (shape_of v) ≡ same_by u v
unfolding shape_of same_by
same_shapes (Ty-F.Fun at ps t) (Ty-F.Fun to qs u) = same_functions (pairs_by ps) (pairs_by qs) (typed t) (typed u)
same_shapes (Ty-F.Fun at ps t) (Ty-F.Int to) = function_first (pairs_by ps) (typed t) IntType tt
same_shapes (Ty-F.Fun at ps t) (Ty-F.Bool to) = function_first (pairs_by ps) (typed t) BoolType tt
same_shapes (Ty-F.Fun at ps t) (Ty-F.Named name) = function_first (pairs_by ps) (typed t) (StructType name.text) tt
same_shapes (Ty-F.Fun at ps t) (Ty-F.Array to u) = function_first (pairs_by ps) (typed t) (ArrayType (ty_by u)) tt
same_shapes (Ty-F.Int to) (Ty-F.Fun at ps t) = function_second (pairs_by ps) (typed t) IntType tt
same_shapes (Ty-F.Bool to) (Ty-F.Fun at ps t) = function_second (pairs_by ps) (typed t) BoolType tt
same_shapes (Ty-F.Named name) (Ty-F.Fun at ps t) = function_second (pairs_by ps) (typed t) (StructType name.text) tt
same_shapes (Ty-F.Array to u) (Ty-F.Fun at ps t) = function_second (pairs_by ps) (typed t) (ArrayType (ty_by u)) tt
same_shapes _ _ = refl

pub same_opened : (a b : Ty) → same_type (ty_by a) (ty_by b) ≡ same_by (out-Ty a) (out-Ty b)
same_opened a b =
    ap (λ t. same_type t (ty_by b)) (shape_opened a)
    ∙ ap (same_type (shape_of (out-Ty a))) (shape_opened b)
    ∙ same_shapes (out-Ty a) (out-Ty b)

-- at the end of both lists, or of the first alone
same_end : (right : List (Conv × Ty)) → same_params NoneTaken (pairs_by right) ≡ nat_eq (length right) 0
same_end [] = refl
same_end (t ∷ right) = grind arith

pub ended : (a right : List (Conv × Ty)) (i : ℕ) (whole : Bool) → length a ≤ i → whole ≡ same_params (pairs_by (drop i a)) (pairs_by right) → nat_eq (length right) 0 ≡ whole
ended a right i whole h e = sym (e ∙ ap (λ l. same_params (pairs_by l) (pairs_by right)) (drop_all i a h) ∙ same_end right)

-- ---- two shapes

unfoldable pub shapes_same : Shape → Shape → Bool
shapes_same shape.Int shape.Int = true
shapes_same shape.Bool shape.Bool = true
shapes_same (shape.Struct x) (shape.Struct y) = bytes_eq x.now.text y.now.text
shapes_same (shape.Array t) (shape.Array u) = same_type (ty_by t.now) (ty_by u.now)
shapes_same (shape.Function ps t) (shape.Function qs u) = same_params (takes_by ps) (takes_by qs) && option_same (option_ty_by t) (option_ty_by u)
shapes_same _ _ = false

pub shapes_opened : (a b : Shape) → same_type (shape_by a) (shape_by b) ≡ shapes_same a b
unfolding shapes_same
shapes_opened (shape.Function ps t) (shape.Function qs u) = same_functions (takes_by ps) (takes_by qs) (option_ty_by t) (option_ty_by u)
shapes_opened (shape.Function ps t) shape.Int = function_first (takes_by ps) (option_ty_by t) IntType tt
shapes_opened (shape.Function ps t) shape.Bool = function_first (takes_by ps) (option_ty_by t) BoolType tt
shapes_opened (shape.Function ps t) (shape.Struct name) = function_first (takes_by ps) (option_ty_by t) (StructType name.now.text) tt
shapes_opened (shape.Function ps t) (shape.Array u) = function_first (takes_by ps) (option_ty_by t) (ArrayType (ty_by u.now)) tt
shapes_opened shape.Int (shape.Function ps t) = function_second (takes_by ps) (option_ty_by t) IntType tt
shapes_opened shape.Bool (shape.Function ps t) = function_second (takes_by ps) (option_ty_by t) BoolType tt
shapes_opened (shape.Struct name) (shape.Function ps t) = function_second (takes_by ps) (option_ty_by t) (StructType name.now.text) tt
shapes_opened (shape.Array u) (shape.Function ps t) = function_second (takes_by ps) (option_ty_by t) (ArrayType (ty_by u.now)) tt
shapes_opened _ _ = refl

-- ---- parameters one after the other

abbrev pub count_taken : ParamTypes → ℕ
count_taken NoneTaken = 0
count_taken (Taken c t rest) = suc (count_taken rest)

-- ---- types inside arrays

-- two types of which the first may lack
abbrev pub same_first : Option ValueType → ValueType → Bool
same_first None u = false
same_first (Some t) u = same_type t u

abbrev pub same_second : ValueType → Option ValueType → Bool
same_second t None = false
same_second t (Some u) = same_type t u

first_inside : (k : ℕ) (t u : ValueType) → same_type t (arrays_of k u) ≡ same_first (inside k t) u
first_inside zero t u = refl
first_inside (suc k) (ArrayType t) u = first_inside k t u
first_inside (suc k) IntType u = refl
first_inside (suc k) BoolType u = refl
first_inside (suc k) (StructType s) u = refl
first_inside (suc k) (FunType ps) u = refl
first_inside (suc k) (FunToType ps t) u = refl

second_inside : (k : ℕ) (t u : ValueType) → same_type (arrays_of k t) u ≡ same_second t (inside k u)
second_inside zero t u = refl
second_inside (suc k) t (ArrayType u) = second_inside k t u
second_inside (suc k) t IntType = refl
second_inside (suc k) t BoolType = refl
second_inside (suc k) t (StructType s) = refl
second_inside (suc k) t (FunType ps) = refl
second_inside (suc k) t (FunToType ps u) = refl

pub fewer_first : (m n : ℕ) (t u : ValueType) → m ≤ n → same_type (arrays_of m t) (arrays_of n u) ≡ same_first (inside (n - m) t) u
fewer_first zero n t u h = let e : n - 0 ≡ n = omega arith in rw e (first_inside n t u)
fewer_first (suc m) zero t u h = absurd (omega (arith, h))
fewer_first (suc m) (suc n) t u h = let e : suc n - suc m ≡ n - m = omega arith in rw e (fewer_first m n t u (omega (arith, h)))

pub fewer_second : (m n : ℕ) (t u : ValueType) → n ≤ m → same_type (arrays_of m t) (arrays_of n u) ≡ same_second t (inside (m - n) u)
fewer_second m zero t u h = let e : m - 0 ≡ m = omega arith in rw e (second_inside m t u)
fewer_second zero (suc n) t u h = absurd (omega (arith, h))
fewer_second (suc m) (suc n) t u h = let e : suc m - suc n ≡ m - n = omega arith in rw e (fewer_second m n t u (omega (arith, h)))

pub one_less : (n i : ℕ) (t u : ValueType) → i < n → t ≡ ArrayType u → inside (n - i) t ≡ inside (n - (i + 1)) u
one_less n i t u h e = let f : n - i ≡ suc (n - (i + 1)) = omega (arith, h) in rw f (rw e refl)

-- ---- function values

arrays_hold : (holding : List (List ℕ)) (n : ℕ) (t : ValueType) → holds holding (arrays_of n t) ≡ holds holding t
arrays_hold holding zero t = refl
arrays_hold holding (suc n) t = arrays_hold holding n t

pub type_holds : (holding : List (List ℕ)) (n : ℕ) (t : ValueType) (b : Bool) → b ≡ holds holding t → b ≡ holds holding (arrays_of n t)
type_holds holding n t b e = e ∙ sym (arrays_hold holding n t)

pub function_holds : (holding : List (List ℕ)) (ps : ParamTypes) (t : Option ValueType) → holds holding (fun_type ps t) ≡ true
function_holds holding ps None = refl
function_holds holding ps (Some t) = refl

unfoldable pub ty_holds : List (List ℕ) → Ty-F Ty → Bool
ty_holds holding (Ty-F.Int at) = false
ty_holds holding (Ty-F.Bool at) = false
ty_holds holding (Ty-F.Named name) = has holding name.text
ty_holds holding (Ty-F.Array at t) = holds holding (ty_by t)
ty_holds holding (Ty-F.Fun at params result) = true

holds_by : (holding : List (List ℕ)) (u : Ty-F Ty) → holds holding (shape_of u) ≡ ty_holds holding u
unfolding shape_of ty_holds
holds_by holding (Ty-F.Int at) = refl
holds_by holding (Ty-F.Bool at) = refl
holds_by holding (Ty-F.Named name) = refl
holds_by holding (Ty-F.Array at t) = refl
holds_by holding (Ty-F.Fun at params result) = function_holds holding (pairs_by params) (typed result)

pub holds_opened : (holding : List (List ℕ)) (t : Ty) → holds holding (ty_by t) ≡ ty_holds holding (out-Ty t)
holds_opened holding t = ap (holds holding) (shape_opened t) ∙ holds_by holding (out-Ty t)

-- ---- written types that are no function and no array

unfoldable pub calls_nothing : Ty-F Ty → Bool
calls_nothing (Ty-F.Int at) = true
calls_nothing (Ty-F.Bool at) = true
calls_nothing (Ty-F.Named name) = true
calls_nothing (Ty-F.Array at t) = true
calls_nothing (Ty-F.Fun at params result) = false

called_by : (u : Ty-F Ty) → no_function (Some (shape_of u)) ≡ calls_nothing u
unfolding shape_of calls_nothing
called_by (Ty-F.Int at) = refl
called_by (Ty-F.Bool at) = refl
called_by (Ty-F.Named name) = refl
called_by (Ty-F.Array at t) = refl
called_by (Ty-F.Fun at params None) = refl
called_by (Ty-F.Fun at params (Some r)) = refl

pub called_opened : (t : Ty) → no_function (Some (ty_by t)) ≡ calls_nothing (out-Ty t)
called_opened t = ap (λ s. no_function (Some s)) (shape_opened t) ∙ called_by (out-Ty t)
