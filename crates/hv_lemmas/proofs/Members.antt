-- What stands in a list, by cases.
use Rattle.std.proofs.Common.{◌≡◌, ◌⊎◌, inl, inr, zero, suc, List, [], ◌∷◌, ◌++◌, Contains, arith}

abbrev pub Among : {A : Type 0} → List A → A → Type 0
Among [] a = ⊥
Among (x ∷ xs) a = (x ≡ a) ⊎ Among xs a

pub in_left : {A : Type 0} (xs ys : List A) (a : A) → Among xs a → Among (xs ++ ys) a
in_left [] ys a h = absurd h
in_left (x ∷ xs) ys a (inl e) = inl e
in_left (x ∷ xs) ys a (inr h) = inr (in_left xs ys a h)

pub in_right : {A : Type 0} (xs ys : List A) (a : A) → Among ys a → Among (xs ++ ys) a
in_right [] ys a h = h
in_right (x ∷ xs) ys a h = inr (in_right xs ys a h)

pub either_in : {A : Type 0} (xs ys : List A) (a : A) → Among (xs ++ ys) a → Among xs a ⊎ Among ys a
either_in [] ys a h = inr h
either_in (x ∷ xs) ys a (inl e) = inl (inl e)
either_in {A} (x ∷ xs) ys a (inr h) = by (either_in xs ys a h)
  where
    by : Among xs a ⊎ Among ys a → Among (x ∷ xs) a ⊎ Among ys a
    by (inl i) = inl (inr i)
    by (inr i) = inr i

pub listed : {A : Type 0} (xs : List A) (a : A) → Contains xs a → Among xs a
listed [] a (k, l, e) = omega arith
listed (x ∷ xs) a (zero, l, e) = inl e
listed (x ∷ xs) a (suc k, l, e) = inr (listed xs a (k, omega (arith, l), e))

pub contained : {A : Type 0} (xs : List A) (a : A) → Among xs a → Contains xs a
contained [] a h = absurd h
contained (x ∷ xs) a (inl e) = (0, omega arith, e)
contained (x ∷ xs) a (inr h) = let c = contained xs a h in (suc c.0, omega (arith, c.1), c.2)
