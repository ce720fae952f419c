-- What is refused and asked of cells, as the pass computes it.
use Rattle.std.specs.Prelude.{ℕ, zero, suc, ◌+◌, nat_lt, nat_eq, Bool, false, ◌&&◌, ◌||◌, not, if◌then◌else◌, List, [], ◌∷◌, ◌++◌, length, slice_get, Option, Some, None}
use Rattle.hv_tree.specs.declared.refusal.Refusal.{Refusal}
use Rattle.hv_tree.specs.Earlier.{number_of}
use Rattle.hv_flow_versions.specs.declared.cell.Cell.{Cell}
use Rattle.hv_flow_versions.specs.Cells.{cell_may}
use Rattle.hv_flow_pass.specs.declared.asked.Asked.{Asked}
use Rattle.hv_flow_pass.specs.declared.asked.Entry.{Entry}
use Rattle.hv_flow_pass.specs.declared.asked.Asks.{Asks}
use Rattle.hv_flow_pass.specs.Hints.{hint_at, hint_put}

-- ---- a look at the cells

abbrev pub kept_of : Option Cell → Bool
kept_of None = false
kept_of (Some c) = c.kept

abbrev pub may_of : Option Cell → Bool → Bool
may_of None value = false
may_of (Some c) value = cell_may c value

-- whether it may be as it was
abbrev pub kept_at : List Cell → ℕ → Bool
kept_at cs i = kept_of (slice_get cs i)

-- whether it may have the value
abbrev pub may_at : List Cell → ℕ → Bool → Bool
may_at cs i value = may_of (slice_get cs i) value

-- whether one of these cells may have the value
abbrev pub may_in : Bool → ℕ → ℕ → List Cell → Bool
may_in value from zero cs = false
may_in value from (suc count) cs = may_in value from count cs || may_at cs (from + count) value

-- ---- refusals

-- whether x comes before y
abbrev pub is_before : Refusal → Refusal → Bool
is_before x y = nat_lt x.place.start y.place.start || (nat_eq x.place.start y.place.start && nat_lt (number_of x.rule) (number_of y.rule))

abbrev pub earlier : Option Refusal → Option Refusal → Option Refusal
earlier None w = w
earlier (Some x) None = Some x
earlier (Some x) (Some y) = if is_before y x then Some y else Some x

-- the refusal, if it holds
abbrev pub when : Bool → Option Refusal → Option Refusal
when b r = if b then r else None

-- ---- what is asked of the cells as the turn began

abbrev pub is_same : Bool → Bool → Bool
is_same value other = if value then other else not other

-- of the same cell and value
abbrev pub is_beside : Asked → Asked → Bool
is_beside a other = nat_eq a.cell other.cell && is_same a.value other.value

-- the other is superfluous beside this one
abbrev pub suffices : Asked → Asked → Bool
suffices a other = is_beside a other && not (is_before other.refusal a.refusal)

abbrev pub suffices_if : Option Entry → Asked → Bool
suffices_if None other = false
suffices_if (Some e) other = suffices e.asked other

-- the hint shows that it is superfluous
abbrev pub is_asked : Asks → Asked → Bool
is_asked asks a = suffices_if (slice_get asks.list (hint_at asks.hints a.cell a.value)) a

-- the hint as the turn began, which the first entry of the cell and value keeps
abbrev pub around_by : Option Entry → Asked → ℕ → ℕ
around_by None a hint = hint
around_by (Some e) a hint = if is_beside e.asked a then e.around else hint

abbrev pub hint_around : Asks → Asked → ℕ
hint_around asks a = around_by (slice_get asks.list (hint_at asks.hints a.cell a.value)) a (hint_at asks.hints a.cell a.value)

abbrev pub appended : Asked → Asks → Asks
appended a asks = record {
  list = asks.list ++ record { asked = a; around = hint_around asks a } ∷ [];
  hints = hint_put a.cell a.value (length asks.list) asks.hints;
}

abbrev pub added : Asked → Asks → Asks
added a asks = if is_asked asks a then asks else appended a asks

abbrev pub asked_if : Bool → Asked → Asks → Asks
asked_if b a asks = if b then added a asks else asks

-- one more is asked of each of these cells that may be as it was
abbrev pub asked_in : Bool → Refusal → List Cell → ℕ → ℕ → Asks → Asks
asked_in value r cs from zero asks = asks
asked_in value r cs from (suc count) asks =
    asked_if (kept_at cs (from + count)) (record { cell = from + count; value = value; refusal = r }) (asked_in value r cs from count asks)

-- what was asked is refused where the cell may have the value
abbrev pub found_in : List Cell → List Entry → Option Refusal → Option Refusal
found_in cs [] found = found
found_in cs (e ∷ es) found = found_in cs es (earlier found (when (may_at cs e.asked.cell e.asked.value) (Some e.asked.refusal)))

-- the hint is as the turn began
abbrev pub hinted_as : Entry → Asks → Asks
hinted_as e asks = record { list = asks.list; hints = hint_put e.asked.cell e.asked.value e.around asks.hints }

-- and it is asked further out where the cell may be as it was there
abbrev pub passed_on : List Cell → List Entry → Asks → Asks
passed_on cs [] outer = outer
passed_on cs (e ∷ es) outer = passed_on cs es (asked_if (kept_at cs e.asked.cell) e.asked (hinted_as e outer))
