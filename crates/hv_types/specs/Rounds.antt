-- The depths of structs over the table, in rounds: after the n-th one those of depth at most n are known, and 0 stands for each other.
use Rattle.std.specs.Prelude.{ℕ, zero, suc, Bool, true, if◌then◌else◌, ◌&&◌, ◌-◌, nat_lt, List, [], ◌∷◌, get_or}
use Rattle.std.specs.List.{list_all}
use Rattle.hv_decls.specs.Types.{most_depth}
use Rattle.hv_types.specs.Depths as depths
use Rattle.hv_types.specs.declared.fields.FieldType.{FieldType}
use Rattle.hv_types.specs.declared.fields.FieldBase.{FieldBase}
use Rattle.hv_types.specs.declared.fields.FieldBase.TheVariants as base

-- a depth that is known and at most this
abbrev pub settled : ℕ → ℕ → Bool
settled n d = depths.settled n d

-- the depth is at most n
abbrev pub base_fits : List ℕ → ℕ → FieldBase → Bool
base_fits ds n base.Plain = true
base_fits ds n base.Function = true
base_fits ds n (base.Struct i) = settled n (get_or ds i 0)

-- the same with the arrays around it
abbrev pub fits : List ℕ → ℕ → FieldType → Bool
fits ds n t = nat_lt t.arrays n && base_fits ds (n - t.arrays) t.base

-- all fields have a depth of at most n
abbrev pub row_fits : List ℕ → ℕ → List FieldType → Bool
row_fits ds n row = list_all (fits ds n) row

-- the depth of a struct behind a round, given the depth before it
abbrev pub next_depth : List ℕ → ℕ → List FieldType → ℕ → ℕ
next_depth ds n row zero = if row_fits ds n row then suc n else 0
next_depth ds n row (suc d) = suc d

-- a round over structs, the first of which has the number k
abbrev pub round : List ℕ → ℕ → ℕ → List (List FieldType) → List ℕ
round ds n k [] = []
round ds n k (row ∷ rows) = next_depth ds n row (get_or ds k 0) ∷ round ds n (suc k) rows

-- the depths that are known after so many rounds
abbrev pub depths_after : List (List FieldType) → ℕ → List ℕ
depths_after rows zero = []
depths_after rows (suc n) = round (depths_after rows n) n 0 rows

-- those of all structs that aren't too deep
unfoldable pub all_depths : List (List FieldType) → List ℕ
all_depths rows = depths_after rows most_depth
