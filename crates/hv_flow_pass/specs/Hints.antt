-- Where the last that is asked of each cell may stand.
use Rattle.std.specs.Prelude.{ℕ, Bool, if◌then◌else◌, List, slice_get, slice_set, Option, Some, None}
use Rattle.hv_flow_pass.specs.declared.hints.Hint.{Hint}

abbrev pub no_hint : Hint
no_hint = record { no = 0; yes = 0 }

abbrev pub index_of : Bool → Hint → ℕ
index_of value h = if value then h.yes else h.no

abbrev pub with_index : Bool → ℕ → Hint → Hint
with_index value index h = if value then record { no = h.no; yes = index } else record { no = index; yes = h.yes }

abbrev pub index_in : Bool → Option Hint → ℕ
index_in value None = 0
index_in value (Some h) = index_of value h

abbrev pub hint_at : List Hint → ℕ → Bool → ℕ
hint_at hints cell value = index_in value (slice_get hints cell)

abbrev pub put_over : Option Hint → ℕ → Bool → ℕ → List Hint → List Hint
put_over None cell value index hints = hints
put_over (Some h) cell value index hints = slice_set hints cell (with_index value index h)

-- a cell without a hint gets none
abbrev pub hint_put : ℕ → Bool → ℕ → List Hint → List Hint
hint_put cell value index hints = put_over (slice_get hints cell) cell value index hints
