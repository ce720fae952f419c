-- How many leaves structs have over the table, in rounds: after the n-th one the leaves of types of at most n levels are counted, as far as structs may have so many.
use Rattle.std.specs.Prelude.{ℕ, zero, suc, ◌+◌, if◌then◌else◌, nat_eq, nat_lt, List, [], ◌∷◌, map, get_or}
use Rattle.hv_decls.specs.Types.{most_depth, most_leaves}
use Rattle.hv_types.specs.declared.fields.FieldType.{FieldType}
use Rattle.hv_types.specs.declared.fields.FieldBase.{FieldBase}
use Rattle.hv_types.specs.declared.fields.FieldBase.TheVariants as base

-- one too many stands for each greater number
abbrev pub capped : ℕ → ℕ
capped n = if nat_lt most_leaves n then suc most_leaves else n

-- the leaves of what arrays may be around
abbrev pub base_count : List ℕ → FieldBase → ℕ
base_count cs base.Plain = 1
base_count cs base.Function = 1
base_count cs (base.Struct i) = get_or cs i 1

-- an array is one leaf
abbrev pub field_count : List ℕ → FieldType → ℕ
field_count cs t = if nat_eq t.arrays 0 then base_count cs t.base else 1

-- the leaves of the fields and so many more
abbrev pub sum_from : List ℕ → ℕ → List FieldType → ℕ
sum_from cs sum [] = sum
sum_from cs sum (t ∷ ts) = sum_from cs (capped (sum + field_count cs t)) ts

-- a struct without fields is a leaf
abbrev pub or_one : ℕ → ℕ
or_one zero = 1
or_one (suc n) = suc n

-- the leaves of a struct
abbrev pub row_count : List ℕ → List FieldType → ℕ
row_count cs row = or_one (sum_from cs 0 row)

-- those of all structs after so many rounds
abbrev pub counts_after : List (List FieldType) → ℕ → List ℕ
counts_after rows zero = []
counts_after rows (suc n) = map (row_count (counts_after rows n)) rows

-- those of all structs that aren't too deep
unfoldable pub all_counts : List (List FieldType) → List ℕ
all_counts rows = counts_after rows most_depth
