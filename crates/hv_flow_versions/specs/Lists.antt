-- Changes of some items of a list, and of a list by another.
use Rattle.std.specs.Prelude.{ℕ, zero, suc, List, [], ◌∷◌}

-- the items from a number on, so many of them, are changed, each by its number
abbrev pub over : {A : Type 0} → (ℕ → A → A) → ℕ → ℕ → List A → List A
over change from count [] = []
over change (suc from) count (x ∷ xs) = x ∷ over (λ k. change (suc k)) from count xs
over change zero (suc count) (x ∷ xs) = change zero x ∷ over (λ k. change (suc k)) zero count xs
over change zero zero (x ∷ xs) = x ∷ xs

-- each item is changed by the other list's, as far as there is one
abbrev pub merge : {A B : Type 0} → (A → B → A) → List A → List B → List A
merge change [] ys = []
merge change (x ∷ xs) [] = x ∷ xs
merge change (x ∷ xs) (y ∷ ys) = change x y ∷ merge change xs ys
