-- Positions in ascending order, how many there are up to one, and which are kept.
use Rattle.std.proofs.Common.{◌≡◌, inl, inr, ◌↔◌, ◌==◌, ◌||◌, ◌<◌, ◌≤◌, nat_le, nat_lt, nat_cmp, is_lt, ℕ, zero, suc, Bool, true, false, if◌then◌else◌, List, [], ◌∷◌, length, get_or, Contains, refl, sym, ap, ◌∙◌, arith}
use Rattle.std.specs.Prelude.{⊤}
use Rattle.std.proofs.lemmas.Bool.{eq-eqb}
use Rattle.std.proofs.lemmas.Bool.Decides.{nat_tests}
use Rattle.std.proofs.lemmas.List.Sorted.{IsNonDecreasingBy-from_sort, IsNonDecreasingBy-from_default, IsPartitionedBy-leb, Contains-permutation, IsPermutation-sym}
use Rattle.std.specs.List.Sorted.{IsPermutation, IsSortedBy, IsNonDecreasingBy, IsPartitionPoint, IsPartitionedBy}
use Rattle.hv_lemmas.proofs.Members.{Among, listed, contained}
use Rattle.hv_init_cells.specs.Ranked.{rank}
use Rattle.hv_init_layout.specs.Cuts.{stands, Ascends, rising, count_up_to}

-- ---- the positions that are kept

pub ascends : (low : ℕ) (ns : List ℕ) → Ascends low (rising low ns)
ascends low [] = tt
ascends low (n ∷ ns) = by (nat_lt low n) refl (ascends n ns) (ascends low ns)
  where
    by : (b : Bool) → nat_lt low n ≡ b → Ascends n (rising n ns) → Ascends low (rising low ns) → Ascends low (if b then n ∷ rising n ns else rising low ns)
    by true e above same = (grind (arith, nat_tests), above)
    by false e above same = same

-- each is at least as the one before it, the first one as this
abbrev Rises : ℕ → List ℕ → Type 0
Rises low [] = ⊤
Rises low (n ∷ ns) = (low ≤ n) × Rises n ns

rises_of : (n : ℕ) (ns : List ℕ) → IsNonDecreasingBy (λ (k : ℕ). k) (n ∷ ns) → Rises n ns
rises_of n [] h = tt
rises_of n (m ∷ ms) h = (h 0 1 0 (omega arith) (omega arith), rises_of m ms (λ i j d l g. h (suc i) (suc j) d (omega (arith, l)) (omega (arith, g))))

starts : (ns : List ℕ) → IsNonDecreasingBy (λ (k : ℕ). k) ns → Rises 0 ns
starts [] h = tt
starts (n ∷ ns) h = (omega arith, rises_of n ns h)

least : (low n : ℕ) (ns : List ℕ) → Rises low ns → Among ns n → low ≤ n
least low n [] h g = absurd g
least low n (m ∷ ms) h (inl e) = omega (arith, h.0, e)
least low n (m ∷ ms) h (inr g) = let l = least m n ms h.1 g in omega (arith, h.0, l)

or_here : (a b : Bool) → a ≡ true → (a || b) ≡ true
or_here true b e = refl
or_here false b e = cc

kept : (low from n : ℕ) (ns : List ℕ) → Rises from ns → low < n → Among ns n → stands (rising low ns) n ≡ true
kept low from n [] h l g = absurd g
kept low from n (m ∷ ms) h l g = by (nat_lt low m) refl g (kept m m n ms h.1) (kept low m n ms h.1 l)
  where
    by : (b : Bool) → nat_lt low m ≡ b → Among (m ∷ ms) n → (m < n → Among ms n → stands (rising m ms) n ≡ true) → (Among ms n → stands (rising low ms) n ≡ true) →
        stands (if b then m ∷ rising m ms else rising low ms) n ≡ true
    by true e (inl d) above same = or_here (m == n) (stands (rising m ms) n) (eq-eqb m n d)
    by true e (inr k) above same = at (m == n) refl
      where
        at : (c : Bool) → (m == n) ≡ c → (c || stands (rising m ms) n) ≡ true
        at true d = refl
        at false d = let a = least m n ms h.1 k in above (grind (arith, nat_tests)) k
    by false e (inl d) above same = absurd (grind (arith, nat_tests))
    by false e (inr k) above same = same k

-- and no other one is
came : (low n : ℕ) (ns : List ℕ) → stands (rising low ns) n ≡ true → (low < n) × Among ns n
came low n [] h = cc
came low n (m ∷ ms) h = by (nat_lt low m) refl (came m n ms) (came low n ms) h
  where
    by : (b : Bool) → nat_lt low m ≡ b → (stands (rising m ms) n ≡ true → (m < n) × Among ms n) → (stands (rising low ms) n ≡ true → (low < n) × Among ms n) →
        stands (if b then m ∷ rising m ms else rising low ms) n ≡ true → (low < n) × Among (m ∷ ms) n
    by false e above same g = let t = same g in (t.0, inr t.1)
    by true e above same g = at (m == n) refl g
      where
        at : (c : Bool) → (m == n) ≡ c → (c || stands (rising m ms) n) ≡ true → (low < n) × Among (m ∷ ms) n
        at true d k = let i : m ≡ n = grind (arith, nat_tests) in (grind (arith, nat_tests), inl i)
        at false d k = let t = above k in let l = t.0 in (grind (arith, nat_tests), inr t.1)

-- what is kept of sorted positions
pub kept_of : (ns ms : List ℕ) → IsPermutation ns ms → IsSortedBy (λ x y. is_lt (nat_cmp x y)) ms → (n : ℕ) → (stands (rising 0 ms) n ≡ true) ↔ ((0 < n) × Contains ns n)
kept_of ns ms p s n = (to, back)
  where
    to : stands (rising 0 ms) n ≡ true → (0 < n) × Contains ns n
    to h = let t = came 0 n ms h in (t.0, Contains-permutation ms ns n (IsPermutation-sym ns ms p) (contained ms n t.1))

    back : (0 < n) × Contains ns n → stands (rising 0 ms) n ≡ true
    back h = kept 0 0 n ms (starts ms (IsNonDecreasingBy-from_sort (λ (k : ℕ). k) ms s)) h.0 (listed ms n (Contains-permutation ns ms n p h.1))

-- ---- how many there are

none_up_to : (low i : ℕ) (cs : List ℕ) → Ascends low cs → i ≤ low → count_up_to cs i ≡ 0
none_up_to low i [] h l = refl
none_up_to low i (c ∷ cs) h l = by (nat_le c i) refl
  where
    by : (b : Bool) → nat_le c i ≡ b → (if b then suc (count_up_to cs i) else 0) ≡ 0
    by true e = let k = h.0 in absurd (grind (arith, nat_tests))
    by false e = refl

none_stands : (low i : ℕ) (cs : List ℕ) → Ascends low cs → i ≤ low → stands cs i ≡ false
none_stands low i [] h l = refl
none_stands low i (c ∷ cs) h l = let k = h.0 in by (c == i) refl (none_stands c i cs h.1 (omega (arith, l, k)))
  where
    by : (b : Bool) → (c == i) ≡ b → stands cs i ≡ false → (b || stands cs i) ≡ false
    by true e f = let k = h.0 in absurd (grind (arith, nat_tests))
    by false e f = f

one_more : (low i : ℕ) (cs : List ℕ) → Ascends low cs → count_up_to cs (suc i) ≡ (if stands cs (suc i) then suc (count_up_to cs i) else count_up_to cs i)
one_more low i [] h = refl
one_more low i (c ∷ cs) h = by (nat_le c (suc i)) (nat_le c i) (c == suc i) refl refl refl (one_more c i cs h.1)
  where
    inside : (t : Bool) → suc (if t then suc (count_up_to cs i) else count_up_to cs i) ≡ (if t then suc (suc (count_up_to cs i)) else suc (count_up_to cs i))
    inside true = refl
    inside false = refl

    by : (a b d : Bool) → nat_le c (suc i) ≡ a → nat_le c i ≡ b → (c == suc i) ≡ d → count_up_to cs (suc i) ≡ (if stands cs (suc i) then suc (count_up_to cs i) else count_up_to cs i) →
        (if a then suc (count_up_to cs (suc i)) else 0) ≡ (if d || stands cs (suc i) then suc (if b then suc (count_up_to cs i) else 0) else (if b then suc (count_up_to cs i) else 0))
    by true true true e f g next = absurd (grind (arith, nat_tests))
    by true true false e f g next = ap suc next ∙ inside (stands cs (suc i))
    by true false true e f g next = ap suc (none_up_to c (suc i) cs h.1 (grind (arith, nat_tests)))
    by true false false e f g next = absurd (grind (arith, nat_tests))
    by false true d e f g next = absurd (grind (arith, nat_tests))
    by false false true e f g next = absurd (grind (arith, nat_tests))
    by false false false e f g next = sym (ap (λ t. if t then 1 else 0) (none_stands c (suc i) cs h.1 (grind (arith, nat_tests))))

ranked_by : (i : ℕ) (cs : List ℕ) → Ascends 0 cs → rank (stands cs) i ≡ count_up_to cs i
ranked_by zero cs h = sym (none_up_to 0 0 cs h (omega arith))
ranked_by (suc i) cs h = ap (λ n. if stands cs (suc i) then suc n else n) (ranked_by i cs h) ∙ sym (one_more 0 i cs h)

counted : (k i : ℕ) (cs : List ℕ) → k ≤ length cs → ((j : ℕ) → j < k → get_or cs j 0 ≤ i) → ((j : ℕ) → k ≤ j → j < length cs → i < get_or cs j 0) → count_up_to cs i ≡ k
counted k i [] l below above = omega (arith, l)
counted zero i (c ∷ cs) l below above = by (nat_le c i) refl
  where
    by : (b : Bool) → nat_le c i ≡ b → (if b then suc (count_up_to cs i) else 0) ≡ 0
    by true e = let g = above 0 (omega arith) (omega arith) in absurd (grind (arith, nat_tests))
    by false e = refl
counted (suc k) i (c ∷ cs) l below above =
    by (nat_le c i) refl (counted k i cs (omega (arith, l)) (λ j h. below (suc j) (omega (arith, h))) (λ j h g. above (suc j) (omega (arith, h)) (omega (arith, g))))
  where
    by : (b : Bool) → nat_le c i ≡ b → count_up_to cs i ≡ k → (if b then suc (count_up_to cs i) else 0) ≡ suc k
    by true e next = ap suc next
    by false e next = let g = below 0 (omega arith) in absurd (grind (arith, nat_tests))

-- as many as there are up to the first one above i
ends_at : (k i : ℕ) (cs : List ℕ) → Ascends 0 cs → k ≤ length cs → ((j : ℕ) → j < k → get_or cs j 0 ≤ i) → ((j : ℕ) → k ≤ j → j < length cs → i < get_or cs j 0) → k ≡ rank (stands cs) i
ends_at k i cs h l below above = sym (counted k i cs l below above) ∙ sym (ranked_by i cs h)

-- where a search for the first one above i ends
pub rank_at : (k i : ℕ) (cs : List ℕ) → Ascends 0 cs → k ≤ length cs → IsPartitionPoint (λ c. nat_le c i ≡ true) (λ c. nat_le c i ≡ false) cs k → k ≡ rank (stands cs) i
rank_at k i cs h l p = ends_at k i cs h l (λ j g. let e = p.0 j 0 (omega arith) g in grind (arith, nat_tests)) (λ j g f. let e = p.1 j 0 g f in grind (arith, nat_tests))

above_low : (low j : ℕ) (cs : List ℕ) → Ascends low cs → j < length cs → low < get_or cs j 0
above_low low j [] h l = absurd (omega (arith, l))
above_low low zero (c ∷ cs) h l = h.0
above_low low (suc j) (c ∷ cs) h l = let g = above_low c j cs h.1 (omega (arith, l)) in let k = h.0 in omega (arith, g, k)

goes_up : (low : ℕ) (cs : List ℕ) → Ascends low cs → (i j : ℕ) → i ≤ j → j < length cs → get_or cs i 0 ≤ get_or cs j 0
goes_up low [] h i j l g = absurd (omega (arith, g))
goes_up low (c ∷ cs) h zero zero l g = omega arith
goes_up low (c ∷ cs) h zero (suc j) l g = let k = above_low c j cs h.1 (omega (arith, g)) in omega (arith, k)
goes_up low (c ∷ cs) h (suc i) zero l g = absurd (omega (arith, l))
goes_up low (c ∷ cs) h (suc i) (suc j) l g = goes_up c cs h.1 i j (omega (arith, l)) (omega (arith, g))

pub parted : (i : ℕ) (cs : List ℕ) → Ascends 0 cs → IsPartitionedBy (λ c. nat_le c i) cs
parted i cs h = IsPartitionedBy-leb (λ (c : ℕ). c) cs i (IsNonDecreasingBy-from_default (λ (c : ℕ). c) cs 0 (goes_up 0 cs h))
