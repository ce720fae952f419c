-- Positions in ascending order, each once.
use Rattle.std.specs.Prelude.{ℕ, suc, ◌==◌, ◌<◌, nat_le, nat_lt, Bool, false, ◌||◌, if◌then◌else◌, List, [], ◌∷◌, ⊤}

-- whether the position stands in the list
abbrev pub stands : List ℕ → ℕ → Bool
stands [] n = false
stands (c ∷ cs) n = (c == n) || stands cs n

-- each position is above the one before it, and the first one above this
abbrev pub Ascends : ℕ → List ℕ → Type 0
Ascends low [] = ⊤
Ascends low (c ∷ cs) = (low < c) × Ascends c cs

-- the positions that are above this one and all before them
abbrev pub rising : ℕ → List ℕ → List ℕ
rising low [] = []
rising low (n ∷ ns) = if nat_lt low n then n ∷ rising n ns else rising low ns

-- how many positions there are up to the first one that is above this
abbrev pub count_up_to : List ℕ → ℕ → ℕ
count_up_to [] n = 0
count_up_to (c ∷ cs) n = if nat_le c n then suc (count_up_to cs n) else 0
