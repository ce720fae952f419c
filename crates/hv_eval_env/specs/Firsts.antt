-- The first places of numbers in lists.
use Rattle.std.specs.Prelude.{ℕ, suc, ◌==◌, if◌then◌else◌, List, [], ◌∷◌, Option, Some, None}

-- counted from n
abbrev pub place_from : ℕ → List ℕ → ℕ → Option ℕ
place_from n [] number = None
place_from n (x ∷ xs) number = if x == number then Some n else place_from (suc n) xs number

unfoldable pub first_place : List ℕ → ℕ → Option ℕ
first_place xs number = place_from 0 xs number
