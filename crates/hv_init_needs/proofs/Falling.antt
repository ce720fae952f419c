-- The locals in sight, in order, and a search among them.
use Rattle.std.proofs.Common.{◌≡◌, ◌<◌, ◌≤◌, ◌-◌, ◌==◌, nat_lt, ℕ, zero, suc, Bool, true, false, if◌then◌else◌, List, [], ◌∷◌, ◌++◌, length, reverse, get_or, slice_get, Option, Some, None, refl, sym, ap, subst, ◌∙◌, arith}
use Rattle.std.specs.List.{list_any}
use Rattle.std.specs.List.Sorted.{IsPartitionPoint, IsPartitionedBy}
use Rattle.std.proofs.lemmas.Bool.Decides.{nat_tests}
use Rattle.std.proofs.lemmas.List.{reverse-append, reverse-reverse, length-reverse, get_or-reverse, get_or_default}
use Rattle.std.proofs.lemmas.List.Folds.{list_any_at, list_any_none}
use Rattle.std.proofs.lemmas.List.Sorted.{IsPermutation-reverse, list_any-IsPermutation, IsNonDecreasingBy-from_default, IsPartitionedBy-ltb}
use Rattle.std.proofs.lemmas.Option.{get_or_from_slice_get, slice_get-get_or, slice_get_within}
use Rattle.hv_init_needs.specs.Sight.{declared_before}
use Rattle.hv_init_needs.specs.Needs.{is_in}
use Rattle.hv_init_needs.specs.Ordered.{Below, Falls, is_that}
use Rattle.hv_init_needs.proofs.SightLevels.{below_up, kept}

-- ---- the newest comes first

pub newest_last : (list : List ℕ) (n : ℕ) → reverse (list ++ n ∷ []) ≡ n ∷ reverse list
newest_last list n = reverse-append list (n ∷ [])

kept_before : (m n : ℕ) (ks : List ℕ) → Below m ks → Below m (declared_before n ks)
kept_before m n [] h = tt
kept_before m n (k ∷ ks) h = by (nat_lt k n) (kept_before m n ks h.1)
  where
    by : (b : Bool) → Below m (declared_before n ks) → Below m (if b then k ∷ declared_before n ks else declared_before n ks)
    by true rest = (h.0, rest)
    by false rest = rest

all_before : (n : ℕ) (ks : List ℕ) → Below n (declared_before n ks)
all_before n [] = tt
all_before n (k ∷ ks) = by (nat_lt k n) refl (all_before n ks)
  where
    by : (b : Bool) → nat_lt k n ≡ b → Below n (declared_before n ks) → Below n (if b then k ∷ declared_before n ks else declared_before n ks)
    by true e rest = (grind (arith, nat_tests), rest)
    by false e rest = rest

pub rest_falls : (n : ℕ) (ks : List ℕ) → Falls ks → Falls (declared_before n ks)
rest_falls n [] h = tt
rest_falls n (k ∷ ks) h = by (nat_lt k n) (rest_falls n ks h.1)
  where
    by : (b : Bool) → Falls (declared_before n ks) → Falls (if b then k ∷ declared_before n ks else declared_before n ks)
    by true rest = (kept_before k n ks h.0, rest)
    by false rest = rest

pub more_fall : (n : ℕ) (ks : List ℕ) → Falls ks → Falls (n ∷ declared_before n ks)
more_fall n ks h = (all_before n ks, rest_falls n ks h)

-- where the newest stays, all do
first_stays : (n k : ℕ) (ks : List ℕ) → k < n → Falls (k ∷ ks) → declared_before n (k ∷ ks) ≡ k ∷ ks
first_stays n k ks l h = kept n (k ∷ ks) (l, below_up k n ks (omega (arith, l)) h.0)

-- ---- with the newest last

-- the newest
last_is : (list : List ℕ) (k : ℕ) → slice_get list (length list - 1) ≡ Some k → get_or (reverse list) 0 0 ≡ k
last_is list k e =
    let l : length list - 1 < length list = slice_get_within list (length list - 1) k e in
    let same : length list - 1 - 0 ≡ length list - 1 = omega arith in
    get_or-reverse list 0 0 (omega (arith, l)) ∙ ap (λ (n : ℕ). get_or list n 0) same ∙ get_or_from_slice_get list (length list - 1) k 0 e

pub last_stays : (n : ℕ) (list : List ℕ) (k : ℕ) → slice_get list (length list - 1) ≡ Some k → k < n → Falls (reverse list) → reverse list ≡ declared_before n (reverse list)
last_stays n list k e l h = by (reverse list) (last_is list k e) h
  where
    by : (ks : List ℕ) → get_or ks 0 0 ≡ k → Falls ks → ks ≡ declared_before n ks
    by [] d g = refl
    by (m ∷ ks) d g = sym (first_stays n m ks (omega (arith, l, d)) g)

pub last_goes : (n : ℕ) (list rest : List ℕ) (k m : ℕ) → slice_get list (length list - 1) ≡ Some k → nat_lt k n ≡ false → list ≡ rest ++ m ∷ [] → declared_before n (reverse rest) ≡ declared_before n (reverse list)
last_goes n list rest k m e l same = by (nat_lt m n) refl
  where
    turned : reverse list ≡ m ∷ reverse rest
    turned = ap reverse same ∙ newest_last rest m

    is : m ≡ k
    is = ap (λ (ks : List ℕ). get_or ks 0 0) (sym turned) ∙ last_is list k e

    by : (b : Bool) → nat_lt m n ≡ b → declared_before n (reverse rest) ≡ declared_before n (reverse list)
    by true d = absurd (let i = is in grind (arith, nat_tests))
    by false d = ap (λ (b : Bool). if b then m ∷ declared_before n (reverse rest) else declared_before n (reverse rest)) (sym d) ∙ ap (declared_before n) (sym turned)

pub others_fall : (list rest : List ℕ) (m : ℕ) → list ≡ rest ++ m ∷ [] → Falls (reverse list) → Falls (reverse rest)
others_fall list rest m same h = (subst Falls (ap reverse same ∙ newest_last rest m) h).1

-- ---- a search

below_first : (k j : ℕ) (ks : List ℕ) → Below k ks → j < length ks → get_or ks j 0 < k
below_first k j [] h l = absurd (omega (arith, l))
below_first k zero (m ∷ ks) h l = h.0
below_first k (suc j) (m ∷ ks) h l = below_first k j ks h.1 (omega (arith, l))

goes_down : (ks : List ℕ) → Falls ks → (i j : ℕ) → i ≤ j → j < length ks → get_or ks j 0 ≤ get_or ks i 0
goes_down [] h i j l g = absurd (omega (arith, g))
goes_down (k ∷ ks) h zero zero l g = omega arith
goes_down (k ∷ ks) h zero (suc j) l g = let d = below_first k j ks h.0 (omega (arith, g)) in omega (arith, d)
goes_down (k ∷ ks) h (suc i) zero l g = absurd (omega (arith, l))
goes_down (k ∷ ks) h (suc i) (suc j) l g = goes_down ks h.1 i j (omega (arith, l)) (omega (arith, g))

-- a place from the other end
turned_at : (list : List ℕ) (i : ℕ) → i < length list → get_or list i 0 ≡ get_or (reverse list) (length list - 1 - i) 0
turned_at list i l =
    let same : length (reverse list) ≡ length list = length-reverse list in
    ap (λ (ks : List ℕ). get_or ks i 0) (sym (reverse-reverse list))
    ∙ get_or-reverse (reverse list) i 0 (omega (arith, l, same))
    ∙ ap (λ (n : ℕ). get_or (reverse list) (n - 1 - i) 0) same

goes_up : (list : List ℕ) → Falls (reverse list) → (i j : ℕ) → i ≤ j → j < length list → get_or list i 0 ≤ get_or list j 0
goes_up list h i j l g =
    let same : length (reverse list) ≡ length list = length-reverse list in
    let d = goes_down (reverse list) h (length list - 1 - j) (length list - 1 - i) (omega (arith, l, g)) (omega (arith, l, g, same)) in
    let a = turned_at list i (omega (arith, l, g)) in
    let b = turned_at list j g in
    omega (arith, a, b, d)

pub parted : (k : ℕ) (list : List ℕ) → Falls (reverse list) → IsPartitionedBy (λ n. nat_lt n k) list
parted k list h = IsPartitionedBy-ltb (λ (n : ℕ). n) list k (IsNonDecreasingBy-from_default (λ (n : ℕ). n) list 0 (goes_up list h))

turned_in : (list : List ℕ) (k : ℕ) → is_in list k ≡ is_in (reverse list) k
turned_in list k = list_any-IsPermutation (λ (n : ℕ). n == k) list (reverse list) (IsPermutation-reverse list)

none_found : (list : List ℕ) (k c : ℕ) → IsPartitionPoint (λ n. nat_lt n k ≡ true) (λ n. nat_lt n k ≡ false) list c → ((j : ℕ) → c ≤ j → j < length list → k < get_or list j 0) → list_any (λ n. n == k) list ≡ false
none_found list k c p above = list_any_none (λ (n : ℕ). n == k) list each
  where
    each : (j : ℕ) (d : ℕ) → j < length list → (get_or list j d == k) ≡ false
    each j d l = by (nat_lt j c) refl
      where
        by : (b : Bool) → nat_lt j c ≡ b → (get_or list j d == k) ≡ false
        by true e = let g = p.0 j d (omega arith) (grind (arith, nat_tests)) in grind (arith, nat_tests)
        by false e = let g = above j (grind (arith, nat_tests)) l in let same = get_or_default list j d 0 l in grind (arith, nat_tests)

pub found : (list : List ℕ) (k c : ℕ) (o : Option ℕ) → Falls (reverse list) → c ≤ length list → IsPartitionPoint (λ n. nat_lt n k ≡ true) (λ n. nat_lt n k ≡ false) list c → slice_get list c ≡ o →
    is_that o k ≡ is_in (reverse list) k
found list k c None h l p e = sym (none_found list k c p (λ j g i. absurd (nothing j g i))) ∙ turned_in list k
  where
    nothing : (j : ℕ) → c ≤ j → j < length list → ⊥
    nothing j g i = let s = slice_get-get_or list c 0 (omega (arith, g, i)) in cc
found list k c (Some n) h l p e = by (n == k) refl ∙ turned_in list k
  where
    within : c < length list
    within = slice_get_within list c n e

    here : get_or list c 0 ≡ n
    here = get_or_from_slice_get list c n 0 e

    by : (b : Bool) → (n == k) ≡ b → b ≡ is_in list k
    by true d = sym (list_any_at (λ (m : ℕ). m == k) list c 0 within (ap (λ (m : ℕ). m == k) here ∙ d))
    by false d = sym (none_found list k c p above)
      where
        above : (j : ℕ) → c ≤ j → j < length list → k < get_or list j 0
        above j g i =
            let up = goes_up list h c j g i in
            let low = p.1 c 0 (omega arith) within in
            let at = here in
            grind (arith, nat_tests)
