-- Lists that have the newest item first.
use Rattle.std.specs.Prelude.{ℕ, ◌-◌, List, length, drop}

-- the n oldest items
unfoldable pub oldest : {A : Type 0} → ℕ → List A → List A
oldest n xs = drop (length xs - n) xs
