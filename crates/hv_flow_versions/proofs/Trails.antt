-- The trail, and what it has from a number on.
use Rattle.std.proofs.Common.{◌≡◌, inl, inr, ℕ, zero, suc, ◌≤◌, Bool, true, false, ◌||◌, nat_eq, if◌then◌else◌, List, [], ◌∷◌, ◌++◌, length, drop, take, refl, sym, subst, arith, length-append}
use Rattle.std.proofs.lemmas.List.{take-append-le, length-take-le}
use Rattle.hv_flow_versions.specs.declared.history.History.{History}
use Rattle.hv_flow_versions.specs.declared.part.Part.{Part}
use Rattle.hv_flow_versions.specs.Histories.{stripped}
use Rattle.hv_flow_versions.specs.States.{has, from_of, Stands}
use Rattle.hv_flow_versions.proofs.Changes.{same_number}
use Rattle.hv_flow_versions.proofs.OneCell.{bool_cases, IsListed}

or_true : (a b : Bool) → b ≡ true → (a || b) ≡ true
or_true true b h = refl
or_true false b h = h

has_append : (i : ℕ) (ys xs : List ℕ) → has i xs ≡ true → has i (xs ++ ys) ≡ true
has_append i ys [] h = cc
has_append i ys (x ∷ xs) h = elim (bool_cases (nat_eq i x)) [ inl t ↦ rw t | inr f ↦ rw f (has_append i ys xs (rw f at h)) ]

has_later : (i : ℕ) (xs ys : List ℕ) → has i ys ≡ true → has i (xs ++ ys) ≡ true
has_later i [] ys h = h
has_later i (x ∷ xs) ys h = or_true (nat_eq i x) (has i (xs ++ ys)) (has_later i xs ys h)

-- what is behind the number is behind it still
has_more : (n i : ℕ) (ys xs : List ℕ) → has i (drop n xs) ≡ true → has i (drop n (xs ++ ys)) ≡ true
has_more zero i ys xs h = has_append i ys xs h
has_more (suc n) i ys [] h = cc
has_more (suc n) i ys (x ∷ xs) h = has_more n i ys xs h

has_second : (n i : ℕ) (xs ys : List ℕ) → n ≤ length xs → has i ys ≡ true → has i (drop n (xs ++ ys)) ≡ true
has_second zero i xs ys l h = has_later i xs ys h
has_second (suc n) i [] ys l h = absurd (omega (arith, l))
has_second (suc n) i (x ∷ xs) ys l h = has_second n i xs ys (omega (arith, l)) h

pub stands_append : (xs ys : List ℕ) (i : ℕ) (ps : List Part) (h : History) → from_of ps ≤ length xs → Stands xs i ps h → Stands (xs ++ ys) i ps h
stands_append xs ys i [] h l s = s
stands_append xs ys i (p ∷ ps) h l s = (
  λ t. record { seen = (s.0 t).seen; reached = (s.0 t).reached; listed = has_more p.from i ys xs (s.0 t).listed },
  subst (λ (w : List ℕ). Stands w i ps (stripped (suc (length ps)) h)) (sym (take-append-le p.from xs ys l)) s.1,
)

-- ---- with one number more

abbrev pub with_more : Bool → ℕ → List ℕ → List ℕ
with_more b k trail = if b then trail ++ k ∷ [] else trail

pub length_more : (b : Bool) (m k : ℕ) (trail : List ℕ) → m ≤ length trail → m ≤ length (with_more b k trail)
length_more true m k trail h = omega (arith, h, length-append trail (k ∷ []))
length_more false m k trail h = h

pub stands_more : (b : Bool) (k : ℕ) (trail : List ℕ) (i : ℕ) (ps : List Part) (h : History) → from_of ps ≤ length trail → Stands trail i ps h → Stands (with_more b k trail) i ps h
stands_more true k trail i ps h l s = stands_append trail (k ∷ []) i ps h l s
stands_more false k trail i ps h l s = s

has_it : (i : ℕ) → has i (i ∷ []) ≡ true
has_it i = rw (same_number i)

pub listed_new : (b : Bool) (i : ℕ) (trail : List ℕ) (ps : List Part) → from_of ps ≤ length trail → b ≡ true → IsListed (with_more b i trail) i ps
listed_new true i trail [] l e = tt
listed_new true i trail (p ∷ ps) l e = has_second p.from i trail (i ∷ []) l (has_it i)
listed_new false i trail ps l e = cc

-- ---- a part ends, and some of its numbers are kept

pub from_outside : (n from : ℕ) (trail : List ℕ) → n ≤ from → from ≤ length trail → n ≤ length (take from trail)
from_outside n from trail l m = omega (arith, l, m, length-take-le from trail m)

pub within_kept : (n : ℕ) (xs kept : List ℕ) → n ≤ length xs → n ≤ length (xs ++ kept)
within_kept n xs kept l = omega (arith, l, length-append xs kept)

pub listed_outside : (xs kept : List ℕ) (j : ℕ) (ps : List Part) (h : History) → from_of ps ≤ length xs → Stands xs j ps h → (nat_eq h.newest.depth (length ps) ≡ false → has j kept ≡ true) → IsListed (xs ++ kept) j ps
listed_outside xs kept j [] h l s e = tt
listed_outside xs kept j (p ∷ ps) h l s e = elim (bool_cases (nat_eq h.newest.depth (suc (length ps)))) [
  | inl t ↦ has_more p.from j kept xs (s.0 t).listed
  | inr f ↦ has_second p.from j xs kept l (e f)
]
