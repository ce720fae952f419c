-- Which locals have cells, and how many of those come before each.
use Rattle.std.specs.Prelude.{ℕ, suc, Bool, false, if◌then◌else◌, List, [], ◌∷◌, get_or}

-- whether the local with this number has cells
abbrev pub flag_at : List Bool → ℕ → Bool
flag_at flags k = get_or flags k false

-- how many that have cells come before each local and behind all of them, where there are so many more before
abbrev pub counts_from : ℕ → List Bool → List ℕ
counts_from n [] = n ∷ []
counts_from n (b ∷ bs) = n ∷ counts_from (if b then suc n else n) bs
