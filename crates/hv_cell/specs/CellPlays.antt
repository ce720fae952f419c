-- What each step on the cell table tells: of the seat before, the number found and the seat after.
use Rattle.std.specs.Prelude.{◌≡◌, ◌≢◌, ℕ, ◌+◌, Bool, true, false, not, List, [], ◌∷◌, Some}
use Rattle.atomic_table.specs.Table.{Me, rest}
use Rattle.atomic_table.specs.Seated.{TableId}
use Rattle.hv_cell.specs.declared.cell_view.Role.TheVariants.{Maker, Free, Party, Claim}
use Rattle.hv_cell.specs.declared.cell_view.View.{View}
use Rattle.hv_cell.specs.Tokens.{naming}
use Rattle.hv_cell.specs.CellRule.{slot_of, bit_of, spent}

module _ {K : Type 0} where
  -- Make: the maker has made one cell more, and the new seat has it
  abbrev pub maker_left : View K → View K
  maker_left v = record v { cell = v.cell + 1 }

  abbrev pub maker_right : View K → View K
  maker_right v = record v { role = Free }

  -- Pair: a party of the cell, for this task
  abbrev pub party_of : Bool → List ℕ → View K → View K
  party_of s i v = record v { role = Party s false; id = i }

  -- Unpair and Reset
  abbrev pub freed : View K → View K
  freed v = record v { role = Free; id = [] }

module _ {X K : Type 0} where
  -- Make without a split: the maker's first load, by which it knows its table
  abbrev pub named : TableId → Me X (View K) → Me X (View K) → Type 0
  named z m n = n ≡ (record m.0 { role = Maker; of = naming z }, m.1)

  -- Hold: the party has its slot in hand, empty
  abbrev pub took : Bool → X → Me X (View K) → Me X (View K) → Type 0
  took s nothing m n = n ≡ (record m.0 { role = Party s true }, (slot_of m.0.cell s, nothing) ∷ m.1)

  -- the other party came first, and its slot is in hand too
  abbrev pub Later : (Bool → List ℕ → K → TableId → X → Type 0) → Bool → Me X (View K) → Me X (View K) → Type 0
  Later Put s m n = (y : X) × (k : K) × (m.0.kin ≡ Some k) × (n ≡ (record m.0 { role = Claim }, (slot_of m.0.cell (not s), y) ∷ m.1)) × Put (not s) m.0.id k m.0.of.table_id y

  -- Fin and Awt: later where the word had the other party's bit (its own it can't have), else the view is spent and the slot given back
  abbrev pub came : (Bool → List ℕ → K → TableId → X → Type 0) → Bool → Me X (View K) → ℕ → Me X (View K) → Type 0
  came Put s m r n = (r ≡ bit_of (not s) → Later Put s m n) × (r ≢ bit_of (not s) → n ≡ (spent, rest m.1))

  -- Reset: both slots are given back
  abbrev pub reset : Me X (View K) → Me X (View K) → Type 0
  reset m n = n ≡ (freed m.0, rest (rest m.1))
