-- One cell is changed, by its number.
use Rattle.std.proofs.Common.{◌≡◌, ℕ, zero, suc, ◌+◌, ◌<◌, ◌≤◌, inl, inr, Bool, true, false, not, nat_eq, List, [], ◌∷◌, length, map, get_or, slice_get, Some, None, refl, sym, ◌∙◌, ap, arith}
use Rattle.std.proofs.Math.ListN.{set}
use Rattle.std.proofs.lemmas.Bool.{eq-eqb}
use Rattle.std.proofs.lemmas.Bool.Decides.{eqb_tells}
use Rattle.hv_flow_versions.specs.declared.history.History.{History}
use Rattle.hv_flow_versions.specs.Histories.{changed_at, is_new, kept_at}

pub differs : (a b : ℕ) → (a ≡ b → ⊥) → nat_eq a b ≡ false
differs a b h = elim (eqb_tells a b) [ inl t ↦ absurd (h t.1) | inr f ↦ f.0 ]

pub same_number : (a : ℕ) → nat_eq a a ≡ true
same_number a = eq-eqb a a refl

changed_before : {A : Type 0} (f : A → A) (i k : ℕ) (xs : List A) → i < k → changed_at f i k xs ≡ xs
changed_before f i k [] h = refl
changed_before f i k (x ∷ xs) h = rw (differs k i (λ e. omega (arith, h, e))) (ap (λ w. x ∷ w) (changed_before f i (suc k) xs (omega (arith, h))))

changed_in_at : {A : Type 0} (f : A → A) (i k j : ℕ) (xs : List A) (d : A) → i ≡ k + j → j < length xs → changed_at f i k xs ≡ set xs j (f (get_or xs j d))
changed_in_at f i k j [] d e h = absurd (omega (arith, h))
changed_in_at f i k zero (x ∷ xs) d e h =
    let s : k ≡ i = omega (arith, e) in
    rw (eq-eqb k i s) (ap (λ w. f x ∷ w) (changed_before f i (suc k) xs (omega (arith, e))))
changed_in_at f i k (suc j) (x ∷ xs) d e h =
    rw (differs k i (λ s. omega (arith, s, e))) (ap (λ w. x ∷ w) (changed_in_at f i (suc k) j xs d (omega (arith, e)) (omega (arith, h))))

pub changed_in : {A : Type 0} (f : A → A) (i : ℕ) (xs : List A) (d : A) → i < length xs → changed_at f i 0 xs ≡ set xs i (f (get_or xs i d))
changed_in f i xs d h = changed_in_at f i 0 i xs d (omega arith) h

pub changed_by : {A : Type 0} (f : A → A) (i : ℕ) (xs : List A) (x y : A) → x ≡ get_or xs i x → y ≡ f x → i < length xs → set xs i y ≡ changed_at f i 0 xs
changed_by f i xs x y p q h = sym (changed_in f i xs x h ∙ ap (λ w. set xs i w) (ap f (sym p) ∙ sym q))

changed_past_at : {A : Type 0} (f : A → A) (i k : ℕ) (xs : List A) → k + length xs ≤ i → changed_at f i k xs ≡ xs
changed_past_at f i k [] h = refl
changed_past_at f i k (x ∷ xs) h = rw (differs k i (λ s. omega (arith, s, h))) (ap (λ w. x ∷ w) (changed_past_at f i (suc k) xs (omega (arith, h))))

pub changed_past : {A : Type 0} (f : A → A) (i : ℕ) (xs : List A) → length xs ≤ i → changed_at f i 0 xs ≡ xs
changed_past f i xs h = changed_past_at f i 0 xs (omega (arith, h))

pub set_same : {A : Type 0} (xs : List A) (i : ℕ) (d : A) → set xs i (get_or xs i d) ≡ xs
set_same [] i d = refl
set_same (x ∷ xs) zero d = refl
set_same (x ∷ xs) (suc i) d = ap (λ w. x ∷ w) (set_same xs i d)

pub map_in : {A B : Type 0} (f : A → B) (i : ℕ) (xs : List A) (d : A) → i < length xs → slice_get (map f xs) i ≡ Some (f (get_or xs i d))
map_in f i [] d h = absurd (omega (arith, h))
map_in f zero (x ∷ xs) d h = refl
map_in f (suc i) (x ∷ xs) d h = map_in f i xs d (omega (arith, h))

pub map_past : {A B : Type 0} (f : A → B) (i : ℕ) (xs : List A) → length xs ≤ i → slice_get (map f xs) i ≡ None
map_past f i [] h = refl
map_past f zero (x ∷ xs) h = absurd (omega (arith, h))
map_past f (suc i) (x ∷ xs) h = map_past f i xs (omega (arith, h))

is_new_in_at : (d i k j : ℕ) (hs : List History) (e : History) → i ≡ k + j → j < length hs → is_new d i k hs ≡ not (nat_eq (get_or hs j e).newest.depth d)
is_new_in_at d i k j [] e s h = absurd (omega (arith, h))
is_new_in_at d i k zero (x ∷ hs) e s h = let t : k ≡ i = omega (arith, s) in rw (eq-eqb k i t)
is_new_in_at d i k (suc j) (x ∷ hs) e s h = rw (differs k i (λ t. omega (arith, s, t))) (is_new_in_at d i (suc k) j hs e (omega (arith, s)) (omega (arith, h)))

pub is_new_in : (d i : ℕ) (hs : List History) (e : History) → i < length hs → is_new d i 0 hs ≡ not (nat_eq (get_or hs i e).newest.depth d)
is_new_in d i hs e h = is_new_in_at d i 0 i hs e (omega arith) h

is_new_past_at : (d i k : ℕ) (hs : List History) → k + length hs ≤ i → is_new d i k hs ≡ false
is_new_past_at d i k [] h = refl
is_new_past_at d i k (x ∷ hs) h = rw (differs k i (λ t. omega (arith, h, t))) (is_new_past_at d i (suc k) hs (omega (arith, h)))

pub is_new_past : (d i : ℕ) (hs : List History) → length hs ≤ i → is_new d i 0 hs ≡ false
is_new_past d i hs h = is_new_past_at d i 0 hs (omega (arith, h))

kept_in_at : (t : History → Bool) (i k j : ℕ) (hs : List History) (e : History) → i ≡ k + j → j < length hs → kept_at t i k hs ≡ t (get_or hs j e)
kept_in_at t i k j [] e s h = absurd (omega (arith, h))
kept_in_at t i k zero (x ∷ hs) e s h = let n : k ≡ i = omega (arith, s) in rw (eq-eqb k i n)
kept_in_at t i k (suc j) (x ∷ hs) e s h = rw (differs k i (λ n. omega (arith, s, n))) (kept_in_at t i (suc k) j hs e (omega (arith, s)) (omega (arith, h)))

pub kept_in : (t : History → Bool) (i : ℕ) (hs : List History) (e : History) → i < length hs → kept_at t i 0 hs ≡ t (get_or hs i e)
kept_in t i hs e h = kept_in_at t i 0 i hs e (omega arith) h

kept_past_at : (t : History → Bool) (i k : ℕ) (hs : List History) → k + length hs ≤ i → kept_at t i k hs ≡ false
kept_past_at t i k [] h = refl
kept_past_at t i k (x ∷ hs) h = rw (differs k i (λ n. omega (arith, h, n))) (kept_past_at t i (suc k) hs (omega (arith, h)))

pub kept_past : (t : History → Bool) (i : ℕ) (hs : List History) → length hs ≤ i → kept_at t i 0 hs ≡ false
kept_past t i hs h = kept_past_at t i 0 hs (omega (arith, h))
