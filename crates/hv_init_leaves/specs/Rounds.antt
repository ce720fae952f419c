-- How many leaves structs have, in rounds: after the n-th one that is known of structs of at most n levels.
use Rattle.std.specs.Prelude.{ℕ, zero, suc, ◌+◌, List, [], ◌∷◌, map, get_or, Option, Some, None}
use Rattle.hv_decls.specs.Types.{most_depth}

abbrev pub known_at : List (Option ℕ) → Option ℕ → Option ℕ
known_at known None = Some 1
known_at known (Some i) = get_or known i None

abbrev pub add_known : Option ℕ → Option ℕ → Option ℕ
add_known None size = None
add_known (Some sum) None = None
add_known (Some sum) (Some size) = Some (sum + size)

-- the leaves of the fields and so many more
abbrev pub sum_from : List (Option ℕ) → Option ℕ → List (Option ℕ) → Option ℕ
sum_from known sum [] = sum
sum_from known sum (number ∷ row) = sum_from known (add_known sum (known_at known number)) row

-- a struct without fields is a leaf
abbrev pub row_size : List (Option ℕ) → List (Option ℕ) → Option ℕ
row_size known [] = Some 1
row_size known (number ∷ row) = sum_from known (Some 0) (number ∷ row)

abbrev pub known_after : List (List (Option ℕ)) → ℕ → List (Option ℕ)
known_after table zero = []
known_after table (suc n) = map (row_size (known_after table n)) table

-- what is known of all structs that aren't too deep
unfoldable pub known_last : List (List (Option ℕ)) → List (Option ℕ)
known_last table = known_after table most_depth
