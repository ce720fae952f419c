-- Parts that stand one after the other: the fields of a struct, or the locals of a body.
use Rattle.std.specs.Prelude.{ℕ, ◌+◌, List, [], ◌∷◌, get_or, Option, Some, None}
use Rattle.std.specs.List.{slice_get}
use Rattle.hv_init_leaves.specs.declared.row.Part.{Part}
use Rattle.hv_init_leaves.specs.declared.row.Row.{Row}
use Rattle.hv_init_leaves.specs.declared.sizes.Sizes.{Sizes}

-- how many leaves a part has that is this struct, or none
abbrev pub size_at : List ℕ → Option ℕ → ℕ
size_at sizes None = 1
size_at sizes (Some i) = get_or sizes i 1

-- parts, where so many leaves come before
abbrev pub parts_from : List ℕ → ℕ → List (Option ℕ) → List Part
parts_from sizes n [] = []
parts_from sizes n (number ∷ numbers) = record { begin = n; number = number } ∷ parts_from sizes (n + size_at sizes number) numbers

-- where their leaves end
abbrev pub end_from : List ℕ → ℕ → List (Option ℕ) → ℕ
end_from sizes n [] = n
end_from sizes n (number ∷ numbers) = end_from sizes (n + size_at sizes number) numbers

abbrev pub row_from : List ℕ → ℕ → List (Option ℕ) → Row
row_from sizes n numbers = record { parts = parts_from sizes n numbers; end = end_from sizes n numbers }

-- the fields of the struct with this number
abbrev pub row_by : Sizes → Option ℕ → Option Row
row_by s None = None
row_by s (Some i) = slice_get s.rows i
