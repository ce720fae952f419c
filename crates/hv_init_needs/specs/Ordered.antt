-- The locals in sight, in order.
use Rattle.std.specs.Prelude.{ℕ, ◌==◌, ◌<◌, Bool, false, List, [], ◌∷◌, Option, Some, None, ⊤}

-- all of these were declared before local n
abbrev pub Below : ℕ → List ℕ → Type 0
Below n [] = ⊤
Below n (k ∷ ks) = (k < n) × Below n ks

-- each was declared behind those that follow
abbrev pub Falls : List ℕ → Type 0
Falls [] = ⊤
Falls (k ∷ ks) = Below k ks × Falls ks

-- what a search finds is this local
abbrev pub is_that : Option ℕ → ℕ → Bool
is_that None k = false
is_that (Some n) k = n == k
