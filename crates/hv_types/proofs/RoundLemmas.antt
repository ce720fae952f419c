-- The rounds over the table give the depths that the rounds over types give.
use Rattle.std.proofs.Common.{◌≡◌, ◌≤◌, ◌<◌, ◌+◌, ◌-◌, ℕ, zero, suc, Bool, true, false, if◌then◌else◌, ◌&&◌, nat_lt, List, [], ◌∷◌, map, get_or, Option, Some, None, refl, sym, ap, ◌∙◌, arith}
use Rattle.std.specs.List.{list_all}
use Rattle.std.proofs.lemmas.Bool.{ltb-false, le-ltb}
use Rattle.std.proofs.lemmas.Bool.Decides.{Decides-ltb}
use Rattle.hv_tree.specs.Core.{Core, CoreStruct}
use Rattle.hv_decls.specs.Types.{ValueType, IntType, BoolType, StructType, ArrayType, FunType, FunToType, type_of_field, most_depth, within}
use Rattle.hv_scope.specs.Tops.{structs_in, struct_number}
use Rattle.hv_types.specs.declared.fields.FieldType.{FieldType}
use Rattle.hv_types.specs.declared.fields.FieldBase.{FieldBase}
use Rattle.hv_types.specs.declared.fields.FieldBase.TheVariants as base
use Rattle.hv_types.specs.Table as table
use Rattle.hv_types.specs.Depths as spec
use Rattle.hv_types.specs.Rounds as rounds
use Rattle.hv_types.proofs.Depths.{Aligned, depths_aligned, types_fit}

-- both lists have the same depths
abbrev Same : List ℕ → List ℕ → Type 0
Same ds es = (i : ℕ) → get_or ds i 0 ≡ spec.depth_at es i

-- ---- a type

less_by : (m n : ℕ) (b : Bool) → nat_lt m n ≡ b → nat_lt (suc m) (suc n) ≡ b
less_by m n true e = (Decides-ltb (suc m) (suc n)).1 (let h : m < n = (Decides-ltb m n).0 e in omega (arith, h))
less_by m n false e = le-ltb (suc m) (suc n) (let h : n ≤ m = ltb-false m n e in omega (arith, h))

taken_off : (m n : ℕ) → suc n - suc m ≡ n - m
taken_off m n = omega arith

-- one more array takes one off the depth
array_by : (ds : List ℕ) (n : ℕ) (t : FieldType) (b : Bool) → nat_lt t.arrays most_depth ≡ b → n < most_depth →
    (nat_lt (if b then suc t.arrays else t.arrays) (suc n) && rounds.base_fits ds (suc n - (if b then suc t.arrays else t.arrays)) t.base) ≡ rounds.fits ds n t
array_by ds n t true e h =
    ap (λ c. c && rounds.base_fits ds (suc n - suc t.arrays) t.base) (less_by t.arrays n (nat_lt t.arrays n) refl)
    ∙ ap (λ k. nat_lt t.arrays n && rounds.base_fits ds k t.base) (taken_off t.arrays n)
array_by ds n t false e h =
    let many : most_depth ≤ t.arrays = ltb-false t.arrays most_depth e in
    ap (λ c. c && rounds.base_fits ds (suc n - t.arrays) t.base) (le-ltb t.arrays (suc n) (omega (arith, many, h)))
    ∙ sym (ap (λ c. c && rounds.base_fits ds (n - t.arrays) t.base) (le-ltb t.arrays n (omega (arith, many, h))))

positive : (n : ℕ) → nat_lt 0 (suc n) ≡ true
positive n = (Decides-ltb 0 (suc n)).1 (omega arith)

alone_fits : (ds : List ℕ) (n : ℕ) (b : FieldBase) → rounds.fits ds (suc n) (table.alone b) ≡ rounds.base_fits ds (suc n) b
alone_fits ds n b = ap (λ c. c && rounds.base_fits ds (suc n - 0) b) (positive n) ∙ ap (λ k. rounds.base_fits ds k b) (let e : suc n - 0 ≡ suc n = omega arith in e)

by_number : (ds es : List ℕ) → Same ds es → (n : ℕ) (o : Option ℕ) → rounds.fits ds (suc n) (table.by_number o) ≡ spec.fits_number es (suc n) o
by_number ds es same n None = alone_fits ds n base.Plain
by_number ds es same n (Some i) = alone_fits ds n (base.Struct i) ∙ ap (spec.settled (suc n)) (same i)

nothing_fits : (ds : List ℕ) (t : FieldType) → rounds.fits ds 0 t ≡ false
nothing_fits ds t = ap (λ c. c && rounds.base_fits ds (0 - t.arrays) t.base) (le-ltb t.arrays 0 (omega arith))

type_fits : (tree : Core) (ds es : List ℕ) → Same ds es → (n : ℕ) (t : ValueType) → n ≤ most_depth → rounds.fits ds n (table.entry_of tree t) ≡ spec.fits tree es n t
type_fits tree ds es same zero t h = nothing_fits ds (table.entry_of tree t)
type_fits tree ds es same (suc n) IntType h = alone_fits ds n base.Plain
type_fits tree ds es same (suc n) BoolType h = alone_fits ds n base.Plain
type_fits tree ds es same (suc n) (StructType s) h = by_number ds es same n (struct_number tree.decls s)
type_fits tree ds es same (suc n) (ArrayType t) h =
    array_by ds n (table.entry_of tree t) (nat_lt (table.entry_of tree t).arrays most_depth) refl (omega (arith, h))
    ∙ type_fits tree ds es same n t (omega (arith, h))
type_fits tree ds es same (suc n) (FunType params) h = alone_fits ds n base.Function
type_fits tree ds es same (suc n) (FunToType params t) h = alone_fits ds n base.Function

-- ---- a round

all_fit : (tree : Core) (ds es : List ℕ) → Same ds es → (n : ℕ) → n ≤ most_depth → (ts : List ValueType) → list_all (rounds.fits ds n) (map (table.entry_of tree) ts) ≡ list_all (spec.fits tree es n) ts
all_fit tree ds es same n h [] = refl
all_fit tree ds es same n h (t ∷ ts) =
    ap (λ b. b && list_all (rounds.fits ds n) (map (table.entry_of tree) ts)) (type_fits tree ds es same n t h)
    ∙ ap (λ b. spec.fits tree es n t && b) (all_fit tree ds es same n h ts)

next_same : (tree : Core) (ds es : List ℕ) → Same ds es → (n : ℕ) → n ≤ most_depth → (s : CoreStruct) (d : ℕ) → rounds.next_depth ds n (table.row_of tree s) d ≡ spec.next_depth tree es n s d
next_same tree ds es same n h s zero = ap (λ b. if b then suc n else 0) (all_fit tree ds es same n h (map type_of_field s.fields))
next_same tree ds es same n h s (suc d) = refl

module _ (tree : Core) (ds es : List ℕ) (same : Same ds es) (n : ℕ) (h : n ≤ most_depth) where
  round_same : (ss : List CoreStruct) (k : ℕ) (old : List ℕ) → Aligned ss old → ((i : ℕ) → get_or ds (k + i) 0 ≡ spec.depth_at old i) →
      Same (rounds.round ds n k (map (table.row_of tree) ss)) (spec.round tree es n ss old)
  round_same [] k old a e i = refl
  round_same (s ∷ ss) k [] a e i = absurd a
  round_same (s ∷ ss) k (d ∷ old) a e zero =
      let here : get_or ds k 0 ≡ d = ap (λ j. get_or ds j 0) (let f : k ≡ k + 0 = omega arith in f) ∙ e 0 in
      ap (rounds.next_depth ds n (table.row_of tree s)) here ∙ next_same tree ds es same n h s d
  round_same (s ∷ ss) k (d ∷ old) a e (suc i) =
      round_same ss (suc k) old a (λ j. ap (λ m. get_or ds m 0) (let f : suc k + j ≡ k + suc j = omega arith in f) ∙ e (suc j)) i

none_known : (ss : List CoreStruct) → Same [] (spec.unknown ss)
none_known [] i = refl
none_known (s ∷ ss) zero = refl
none_known (s ∷ ss) (suc i) = none_known ss i

rounds_same : (tree : Core) (n : ℕ) → n ≤ suc most_depth → Same (rounds.depths_after (table.table_of tree) n) (spec.depths tree n)
rounds_same tree zero h = none_known (structs_in tree.decls)
rounds_same tree (suc n) h =
    let before = rounds_same tree n (omega (arith, h)) in
    round_same tree (rounds.depths_after (table.table_of tree) n) (spec.depths tree n) before n (omega (arith, h)) (structs_in tree.decls) 0 (spec.depths tree n) (depths_aligned tree n)
    (λ i. ap (λ k. get_or (rounds.depths_after (table.table_of tree) n) k 0) (let e : 0 + i ≡ i = omega arith in e) ∙ before i)

-- the greatest depth that is accepted
pub depth_known : (tree : Core) (text : List ℕ) → within tree most_depth (StructType text) ≡ rounds.fits (rounds.depths_after (table.table_of tree) most_depth) most_depth (table.by_number (struct_number tree.decls text))
depth_known tree text =
    types_fit tree most_depth (StructType text)
    ∙ sym (type_fits tree (rounds.depths_after (table.table_of tree) most_depth) (spec.depths tree most_depth) (rounds_same tree most_depth (omega arith)) most_depth (StructType text) (omega arith))
