-- Lists read by `get_elem?`.
use Rattle.std.proofs.Common.{◌≡◌, ℕ, zero, suc, ◌<◌, ◌⊎◌, inl, inr, List, [], ◌∷◌, ◌++◌, map, length, get_or, set, sym, refl, ap, ◌∙◌, arith}
use mathlib.Core.Option.{some, some-injective, some-ne-none}
use lib.ListN.{get_elem?}

pub below : {A : Type 0} (l : List A) (i : ℕ) (a : A) → get_elem? l i ≡ some a → i < length l
below [] i a e = absurd (some-ne-none a (sym e))
below (x ∷ xs) zero a e = omega arith
below (x ∷ xs) (suc i) a e = let h = below xs i a e in omega arith

-- a list of one has one element
pub alone : {A : Type 0} (l : List A) (i j : ℕ) (a b : A) → length l ≡ 1 → get_elem? l i ≡ some a → get_elem? l j ≡ some b → a ≡ b
alone l i j a b one x y = let p = below l i a x in let q = below l j b y in let i' : i ≡ 0 = omega arith in let j' : j ≡ 0 = omega arith in
    some-injective a b (sym x ∙ (ap (get_elem? l) (i' ∙ sym j') ∙ y))

pub at_end : {A : Type 0} (l : List A) (a b : A) (j : ℕ) → get_elem? (l ++ a ∷ []) j ≡ some b → (get_elem? l j ≡ some b) ⊎ ((j ≡ length l) × (a ≡ b))
at_end [] a b zero e = inr (refl, some-injective a b e)
at_end [] a b (suc j) e = absurd (some-ne-none b (sym e))
at_end (x ∷ xs) a b zero e = inl e
at_end (x ∷ xs) a b (suc j) e = elim (at_end xs a b j e) [ inl h ↦ inl h | inr t ↦ inr (ap suc t.0, t.1) ]

-- a word that is read stays
pub read_only : (l : List ℕ) → set l 0 (get_or l 0 0) ≡ l
read_only [] = refl
read_only (x ∷ xs) = refl

-- one value more at the end of a list of values
pub map_snoc : {A : Type 0} (f : A → ℕ) (xs : List A) (x : A) (ns : List ℕ) → map f xs ≡ ns → map f (xs ++ x ∷ []) ≡ ns ++ f x ∷ []
map_snoc f [] x ns e = ap (λ l. l ++ f x ∷ []) e
map_snoc f (y ∷ ys) x ns e = sym (ap (λ l. f y ∷ l) (sym (map_snoc f ys x (map f ys) refl))) ∙ ap (λ l. l ++ f x ∷ []) e
