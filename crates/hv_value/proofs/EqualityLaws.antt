-- The test of equality, and which parts hold no function.
use Rattle.std.proofs.Common.{◌≡◌, ◌≢◌, ℕ, zero, suc, ℤ, pos, negsuc, List, [], ◌∷◌, length, Bool, true, false, ◌==◌, ◌&&◌, ◌||◌, Option, Some, None, option_and_then, ◌⊎◌, inl, inr, arith, refl, sym, ap, ◌∙◌, true≢false}
use Rattle.std.proofs.lemmas.Bool.Decides.{eqb_tells}
use Rattle.hv_value.specs.declared.value.Value.{Value}
use Rattle.hv_value.specs.declared.value.PathStep.{PathStep}
use Rattle.hv_value.specs.declared.value.PathStep.TheVariants.{Field, At}
use Rattle.hv_value.specs.ValueTree.{ValueTree, Hole, Number, Truth, Fields, Elements, Closure, Parts, Nil, Cons, tree_of, trees_of}
use Rattle.hv_value.specs.Places.{Path, nth, part, get}
use Rattle.hv_value.specs.Equality.{same_number, same_truth, same, all_same, has_function, some_function}
use Rattle.hv_value.proofs.ValueLaws.{tree_of-injective}
use Rattle.hv_lemmas.proofs.Bools.{and_first, and_second}

pub eqb-same : (m n : ℕ) → (m == n) ≡ true → m ≡ n
eqb-same m n h = go (eqb_tells m n)
  where
    go : ((m == n) ≡ true) × (m ≡ n) ⊎ ((m == n) ≡ false) × (m ≢ n) → m ≡ n
    go (inl e) = e.1
    go (inr e) = absurd (true≢false (sym h ∙ e.0))

eqb-refl : (n : ℕ) → (n == n) ≡ true
eqb-refl n = go (eqb_tells n n)
  where
    go : ((n == n) ≡ true) × (n ≡ n) ⊎ ((n == n) ≡ false) × (n ≢ n) → (n == n) ≡ true
    go (inl e) = e.0
    go (inr e) = absurd (e.1 refl)

pub or_left : (a b : Bool) → (a || b) ≡ false → a ≡ false
or_left true b h = h
or_left false b h = refl

pub or_right : (a b : Bool) → (a || b) ≡ false → b ≡ false
or_right true b h = absurd (true≢false h)
or_right false b h = h

same_number_tells : (x y : ℤ) → same_number x y ≡ true → x ≡ y
same_number_tells (pos m) (pos n) h = ap pos (eqb-same m n h)
same_number_tells (negsuc m) (negsuc n) h = ap negsuc (eqb-same m n h)
same_number_tells _ _ h = absurd (true≢false (sym h))

same_truth_tells : (a b : Bool) → same_truth a b ≡ true → a ≡ b
same_truth_tells true b h = sym h
same_truth_tells false true h = h
same_truth_tells false false h = refl

mutual
  pub same_tells : (t u : ValueTree) → same t u ≡ true → t ≡ u
  same_tells Hole Hole h = refl
  same_tells (Number x) (Number y) h = ap Number (same_number_tells x y h)
  same_tells (Truth a) (Truth b) h = ap Truth (same_truth_tells a b h)
  same_tells (Fields ts) (Fields us) h = ap Fields (all_same_tells ts us h)
  same_tells (Elements ts) (Elements us) h = ap Elements (all_same_tells ts us h)
  same_tells (Closure f ts) (Closure g us) h =
      ap (λ k. Closure k ts) (eqb-same f g (and_first (f == g) (all_same ts us) h))
      ∙ ap (Closure g) (all_same_tells ts us (and_second (f == g) (all_same ts us) h))
  same_tells _ _ h = absurd (true≢false (sym h))

  pub all_same_tells : (ts us : Parts) → all_same ts us ≡ true → ts ≡ us
  all_same_tells Nil Nil h = refl
  all_same_tells (Cons t ts) (Cons u us) h =
      ap (λ x. Cons x ts) (same_tells t u (and_first (same t u) (all_same ts us) h))
      ∙ ap (Cons u) (all_same_tells ts us (and_second (same t u) (all_same ts us) h))
  all_same_tells _ _ h = absurd (true≢false (sym h))

same_number-refl : (x : ℤ) → same_number x x ≡ true
same_number-refl (pos n) = eqb-refl n
same_number-refl (negsuc n) = eqb-refl n

same_truth-refl : (a : Bool) → same_truth a a ≡ true
same_truth-refl true = refl
same_truth-refl false = refl

mutual
  pub same-refl : (t : ValueTree) → same t t ≡ true
  same-refl Hole = refl
  same-refl (Number x) = same_number-refl x
  same-refl (Truth a) = same_truth-refl a
  same-refl (Fields ts) = all_same-refl ts
  same-refl (Elements ts) = all_same-refl ts
  same-refl (Closure f ts) = rw (eqb-refl f) (all_same-refl ts)

  pub all_same-refl : (ts : Parts) → all_same ts ts ≡ true
  all_same-refl Nil = refl
  all_same-refl (Cons t ts) = rw (same-refl t) (all_same-refl ts)

-- the test of two values' trees says whether the values are equal
pub same_values_tell : (v w : Value) → same (tree_of v) (tree_of w) ≡ true → v ≡ w
same_values_tell v w h = tree_of-injective v w (same_tells (tree_of v) (tree_of w) h)

pub same_values : (v w : Value) → v ≡ w → same (tree_of v) (tree_of w) ≡ true
same_values v w h = ap (λ x. same (tree_of v) (tree_of x)) (sym h) ∙ same-refl (tree_of v)

-- ---- parts without functions

no_function-nth : (ts : Parts) (k : ℕ) (c : ValueTree) → nth ts k ≡ Some c → some_function ts ≡ false → has_function c ≡ false
no_function-nth Nil k c e h = cc
no_function-nth (Cons t ts) zero c e h = let same : t ≡ c = grind (arith, e) in ap has_function (sym same) ∙ or_left (has_function t) (some_function ts) h
no_function-nth (Cons t ts) (suc k) c e h = no_function-nth ts k c e (or_right (has_function t) (some_function ts) h)

no_function-part : (t : ValueTree) (s : PathStep) (c : ValueTree) → part t s ≡ Some c → has_function t ≡ false → has_function c ≡ false
no_function-part (Fields ts) (Field k) c e h = no_function-nth ts k c e h
no_function-part (Elements ts) (At k) c e h = no_function-nth ts k c e h
no_function-part _ _ c e h = cc

-- a part of a tree without functions has none
pub no_function-get : (p : Path) (t u : ValueTree) → get t p ≡ Some u → has_function t ≡ false → has_function u ≡ false
no_function-get [] t u e h = let same : t ≡ u = grind (arith, e) in ap has_function (sym same) ∙ h
no_function-get (s ∷ p) t u e h = go (no_function-get p) (part t s) refl e
  where
    go : ((t u : ValueTree) → get t p ≡ Some u → has_function t ≡ false → has_function u ≡ false) → (o : Option ValueTree) → part t s ≡ o → option_and_then (λ c. get c p) o ≡ Some u → has_function u ≡ false
    go ih None i k = cc
    go ih (Some c) i k = ih c u k (no_function-part t s c i h)

-- rows of different lengths differ
pub all_same_lengths : (vs ws : List Value) → length vs ≢ length ws → all_same (trees_of vs) (trees_of ws) ≡ false
all_same_lengths [] [] h = absurd (h refl)
all_same_lengths [] (w ∷ ws) h = refl
all_same_lengths (v ∷ vs) [] h = refl
all_same_lengths (v ∷ vs) (w ∷ ws) h = rw (all_same_lengths vs ws (λ e. h (ap suc e))) (none (same (tree_of v) (tree_of w)))
  where
    none : (b : Bool) → (b && false) ≡ false
    none true = refl
    none false = refl
