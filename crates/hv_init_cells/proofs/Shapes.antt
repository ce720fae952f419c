-- The leaves of a shape stand side by side under each field.
use Rattle.std.specs.Prelude.{⊤}
use Rattle.std.proofs.Common.{◌≡◌, ◌⊎◌, inl, inr, ◌==◌, ◌+◌, ◌<◌, ◌≤◌, ◌&&◌, nat_le, nat_lt, ℕ, zero, suc, Bool, true, false, List, [], ◌∷◌, refl, sym, ap, ◌∙◌, arith}
use Rattle.std.proofs.lemmas.Bool.{eq-eqb}
use Rattle.std.proofs.lemmas.Bool.Decides.{nat_tests}
use Rattle.hv_decls.specs.Types.{TypeShape, LeafShape, StructShape, TypeShapes, NoShapes, ShapeOf}
use Rattle.hv_rules.specs.States.{is_front}
use Rattle.hv_flow_pass.specs.Refused.{covers}
use Rattle.hv_init_cells.specs.Plain.{or_one, size, sizes, span, spans}

-- ---- ranges

abbrev pub within : ℕ → ℕ → ℕ → Bool
within a c i = nat_le a i && nat_lt i (a + c)

pub covers_of : (a c i : ℕ) → within a c i ≡ true → (a ≤ i) × (i < a + c)
covers_of a c i h = (grind (arith, nat_tests), grind (arith, nat_tests))

pub covers_to : (a c i : ℕ) → a ≤ i → i < a + c → within a c i ≡ true
covers_to a c i h g = grind (arith, nat_tests)

pub not_so : (b : Bool) → (b ≡ true → ⊥) → b ≡ false
not_so true h = absurd (h refl)
not_so false h = refl

pub same_tests : (x y : Bool) → (x ≡ true → y ≡ true) → (y ≡ true → x ≡ true) → x ≡ y
same_tests true true f g = refl
same_tests true false f g = sym (f refl)
same_tests false true f g = g refl
same_tests false false f g = refl

pub not_before : (a c i : ℕ) → i < a → within a c i ≡ false
not_before a c i h = not_so (within a c i) (λ e. let t = covers_of a c i e in omega (arith, h, t.0))

pub not_behind : (a c i : ℕ) → a + c ≤ i → within a c i ≡ false
not_behind a c i h = not_so (within a c i) (λ e. let t = covers_of a c i e in omega (arith, h, t.1))

pub moved : (n a c i : ℕ) → within (n + a) c (n + i) ≡ within a c i
moved n a c i =
    same_tests (within (n + a) c (n + i)) (within a c i) (λ e. let t = covers_of (n + a) c (n + i) e in covers_to a c i (omega (arith, t.0)) (omega (arith, t.1)))
    (λ e. let t = covers_of a c i e in covers_to (n + a) c (n + i) (omega (arith, t.0)) (omega (arith, t.1)))

-- a number is below another, or so much above it
pub split : (n i : ℕ) → (i < n) ⊎ ((j : ℕ) × (i ≡ n + j))
split zero i = inr (i, omega arith)
split (suc n) zero = inl (omega arith)
split (suc n) (suc i) = by (split n i)
  where
    by : (i < n) ⊎ ((j : ℕ) × (i ≡ n + j)) → (suc i < suc n) ⊎ ((j : ℕ) × (suc i ≡ suc n + j))
    by (inl h) = inl (omega (arith, h))
    by (inr (j, e)) = inr (j, omega (arith, e))

-- ---- tests of numbers

zero_other : (g : ℕ) → (0 == suc g) ≡ false
zero_other g = grind (arith, nat_tests)

other_zero : (f : ℕ) → (suc f == 0) ≡ false
other_zero f = grind (arith, nat_tests)

suc_same : (f g : ℕ) → (f == g) ≡ (suc f == suc g)
suc_same f g = same_tests (f == g) (suc f == suc g) (λ e. grind (arith, nat_tests)) (λ e. grind (arith, nat_tests))

both_true : (a b : Bool) → a ≡ true → b ≡ true → (a && b) ≡ true
both_true true b e f = f
both_true false b e f = e

-- ---- the leaves of a shape

abbrev HasNone : TypeShapes → Type 0
HasNone NoShapes = ⊤
HasNone (ShapeOf s ss) = ⊥

abbrev mutual
  -- the fields lead to a leaf
  pub LeafOf : TypeShape → List ℕ → Type 0
  LeafOf LeafShape [] = ⊤
  LeafOf LeafShape (f ∷ fs) = ⊥
  LeafOf (StructShape ss) [] = HasNone ss
  LeafOf (StructShape ss) (f ∷ fs) = LeafAt ss f fs

  pub LeafAt : TypeShapes → ℕ → List ℕ → Type 0
  LeafAt NoShapes f fs = ⊥
  LeafAt (ShapeOf s ss) zero fs = LeafOf s fs
  LeafAt (ShapeOf s ss) (suc f) fs = LeafAt ss f fs

-- ---- a span ends in its shape

own_least : (ss : TypeShapes) → sizes ss ≤ or_one ss (sizes ss)
own_least NoShapes = omega arith
own_least (ShapeOf s ss) = omega arith

none_has_one : (ss : TypeShapes) → HasNone ss → 0 < or_one ss (sizes ss)
none_has_one NoShapes h = omega arith
none_has_one (ShapeOf s ss) h = absurd h

mutual
  pub ends : (s : TypeShape) (fs : List ℕ) → (span s fs).from + (span s fs).count ≤ size s
  ends LeafShape [] = omega arith
  ends LeafShape (f ∷ fs) = omega arith
  ends (StructShape ss) [] = omega arith
  ends (StructShape ss) (f ∷ fs) = let h = all_end ss f fs in let g = own_least ss in omega (arith, h, g)

  all_end : (ss : TypeShapes) (f : ℕ) (fs : List ℕ) → (spans ss f fs).from + (spans ss f fs).count ≤ sizes ss
  all_end NoShapes f fs = omega arith
  all_end (ShapeOf s ss) zero fs = let h = ends s fs in omega (arith, h)
  all_end (ShapeOf s ss) (suc f) fs = let h = all_end ss f fs in omega (arith, h)

mutual
  pub begins : (s : TypeShape) (leaf : List ℕ) → LeafOf s leaf → (span s leaf).from < size s
  begins LeafShape [] h = omega arith
  begins LeafShape (f ∷ fs) h = absurd h
  begins (StructShape ss) [] h = none_has_one ss h
  begins (StructShape ss) (f ∷ fs) h = let g = all_begin ss f fs h in let k = own_least ss in omega (arith, g, k)

  all_begin : (ss : TypeShapes) (f : ℕ) (fs : List ℕ) → LeafAt ss f fs → (spans ss f fs).from < sizes ss
  all_begin NoShapes f fs h = absurd h
  all_begin (ShapeOf s ss) zero fs h = let g = begins s fs h in omega (arith, g)
  all_begin (ShapeOf s ss) (suc f) fs h = let g = all_begin ss f fs h in omega (arith, g)

-- ---- a leaf begins in a span exactly where it is one of the leaves under these fields

none_covers : (ss : TypeShapes) (f : ℕ) (fs : List ℕ) → HasNone ss → covers (spans ss f fs) 0 ≡ false
none_covers NoShapes f fs h = refl
none_covers (ShapeOf s ss) f fs h = absurd h

mutual
  pub told : (s : TypeShape) (fs leaf : List ℕ) → LeafOf s leaf → covers (span s fs) (span s leaf).from ≡ is_front fs leaf
  told LeafShape [] [] h = refl
  told LeafShape [] (g ∷ gs) h = absurd h
  told LeafShape (f ∷ fs) [] h = refl
  told LeafShape (f ∷ fs) (g ∷ gs) h = absurd h
  told (StructShape ss) [] leaf h =
      let b = begins (StructShape ss) leaf h in covers_to 0 (or_one ss (sizes ss)) (span (StructShape ss) leaf).from (omega arith) (omega (arith, b))
  told (StructShape ss) (f ∷ fs) [] h = none_covers ss f fs h
  told (StructShape ss) (f ∷ fs) (g ∷ gs) h = all_told ss f g fs gs h

  all_told : (ss : TypeShapes) (f g : ℕ) (fs gs : List ℕ) → LeafAt ss g gs → covers (spans ss f fs) (spans ss g gs).from ≡ ((f == g) && is_front fs gs)
  all_told NoShapes f g fs gs h = absurd h
  all_told (ShapeOf s ss) zero zero fs gs h = told s fs gs h
  all_told (ShapeOf s ss) zero (suc g) fs gs h =
      let e = ends s fs in
      not_behind (span s fs).from (span s fs).count (size s + (spans ss g gs).from) (omega (arith, e)) ∙ sym (ap (λ b. b && is_front fs gs) (zero_other g))
  all_told (ShapeOf s ss) (suc f) zero fs gs h =
      let b = begins s gs h in
      not_before (size s + (spans ss f fs).from) (spans ss f fs).count (span s gs).from (omega (arith, b)) ∙ sym (ap (λ b. b && is_front fs gs) (other_zero f))
  all_told (ShapeOf s ss) (suc f) (suc g) fs gs h =
      moved (size s) (spans ss f fs).from (spans ss f fs).count (spans ss g gs).from ∙ all_told ss f g fs gs h ∙ ap (λ b. b && is_front fs gs) (suc_same f g)

-- ---- at each number below the size a leaf begins

abbrev Begins : TypeShape → ℕ → Type 0
Begins s i = (leaf : List ℕ) × LeafOf s leaf × ((span s leaf).from ≡ i)

abbrev BeginsAt : TypeShapes → ℕ → Type 0
BeginsAt ss i = (f : ℕ) × (fs : List ℕ) × LeafAt ss f fs × ((spans ss f fs).from ≡ i)

own_begins : (ss : TypeShapes) (i : ℕ) → i < or_one ss (sizes ss) → (i < sizes ss → BeginsAt ss i) → Begins (StructShape ss) i
own_begins NoShapes i h more = ([], tt, omega (arith, h))
own_begins (ShapeOf s ss) i h more = let t = more h in (t.0 ∷ t.1, t.2, t.3)

mutual
  somewhere : (s : TypeShape) (i : ℕ) → i < size s → Begins s i
  somewhere LeafShape i h = ([], tt, omega (arith, h))
  somewhere (StructShape ss) i h = own_begins ss i h (all_somewhere ss i)

  all_somewhere : (ss : TypeShapes) (i : ℕ) → i < sizes ss → BeginsAt ss i
  all_somewhere NoShapes i h = absurd (omega (arith, h))
  all_somewhere (ShapeOf s ss) i h = by (split (size s) i) (somewhere s i) (λ j e. all_somewhere ss j (omega (arith, h, e)))
    where
      by : (i < size s) ⊎ ((j : ℕ) × (i ≡ size s + j)) → (i < size s → Begins s i) → ((j : ℕ) → i ≡ size s + j → BeginsAt ss j) → BeginsAt (ShapeOf s ss) i
      by (inl l) here more = let t = here l in (0, t.0, t.1, t.2)
      by (inr (j, e)) here more = let t = more j e in let k = t.3 in (suc t.0, t.1, t.2, omega (arith, k, e))

-- ---- at each number of a span a leaf begins that is under these fields

abbrev UnderAt : TypeShapes → ℕ → List ℕ → ℕ → Type 0
UnderAt ss f fs i = (leaf : List ℕ) × LeafAt ss f leaf × (is_front fs leaf ≡ true) × ((spans ss f leaf).from ≡ i)

mutual
  pub under : (s : TypeShape) (fs : List ℕ) (i : ℕ) → covers (span s fs) i ≡ true → (leaf : List ℕ) × LeafOf s leaf × (is_front fs leaf ≡ true) × ((span s leaf).from ≡ i)
  under LeafShape [] i h = let t = covers_of 0 1 i h in ([], tt, refl, omega (arith, t.1))
  under LeafShape (f ∷ fs) i h = let t = covers_of 0 0 i h in absurd (omega (arith, t.1))
  under (StructShape ss) [] i h =
      let t = covers_of 0 (or_one ss (sizes ss)) i h in let b = somewhere (StructShape ss) i (omega (arith, t.1)) in (b.0, b.1, refl, b.2)
  under (StructShape ss) (f ∷ fs) i h =
      let t = all_under ss f fs i h in (f ∷ t.0, t.1, both_true (f == f) (is_front fs t.0) (eq-eqb f f refl) t.2, t.3)

  all_under : (ss : TypeShapes) (f : ℕ) (fs : List ℕ) (i : ℕ) → covers (spans ss f fs) i ≡ true → UnderAt ss f fs i
  all_under NoShapes f fs i h = let t = covers_of 0 0 i h in absurd (omega (arith, t.1))
  all_under (ShapeOf s ss) zero fs i h = under s fs i h
  all_under (ShapeOf s ss) (suc f) fs i h = by (split (size s) i) (all_under ss f fs)
    where
      by : (i < size s) ⊎ ((j : ℕ) × (i ≡ size s + j)) → ((j : ℕ) → covers (spans ss f fs) j ≡ true → UnderAt ss f fs j) →
          (leaf : List ℕ) × LeafAt ss f leaf × (is_front fs leaf ≡ true) × (size s + (spans ss f leaf).from ≡ i)
      by (inl l) more = let t = covers_of (size s + (spans ss f fs).from) (spans ss f fs).count i h in absurd (omega (arith, l, t.0))
      by (inr (j, e)) more =
          let c = covers_of (size s + (spans ss f fs).from) (spans ss f fs).count i h in
          let t = more j (covers_to (spans ss f fs).from (spans ss f fs).count j (omega (arith, c.0, e)) (omega (arith, c.1, e))) in
          let k = t.3 in (t.0, t.1, t.2, omega (arith, k, e))
