-- The rule of the cell table, after docs/CELLS.md.
use Rattle.std.specs.Prelude.{◌≡◌, ◌≢◌, ℕ, ◌+◌, ◌*◌, ◌<◌, ◌≤◌, Bool, true, false, not, List, [], length, cond, slice_index, Some, None, All}
use mathlib.Core.Option as maybe
use mathlib.Core.Option.{none, some}
use lib.ListN.{get_elem?}
use Rattle.atomic_table.specs.Table.{State}
use Rattle.atomic_table.specs.Seated.{TableId}
use Rattle.hv_cell.specs.declared.cell_view.Role.{Role}
use Rattle.hv_cell.specs.declared.cell_view.Role.TheVariants.{Fresh, Maker, Free, Party, Claim, Spent}
use Rattle.hv_cell.specs.declared.cell_view.View.{View}
use Rattle.hv_cell.specs.declared.cell_view.Held.{Held}
use Rattle.hv_cell.specs.declared.cell_view.Held.TheVariants.{Done, Stack}
use Rattle.hv_cell.specs.Tokens.{Home, no_table, naming}

-- A side of a cell is the finisher's (false) or the awaiter's (true).
abbrev pub side_number : Bool → ℕ
side_number false = 0
side_number true = 1

-- the slot of a cell's side: that of the finisher is the result slot, that of the awaiter the stack slot
abbrev pub slot_of : ℕ → Bool → ℕ
slot_of c s = 2 * c + side_number s

-- the bit of a side: FIN is 1, AWT is 2
abbrev pub bit_of : Bool → ℕ
bit_of s = 1 + side_number s

-- a party that is to come: its seat, and whether it has its slot in hand
pub data Coming : Type 0 where
  coming : ℕ → Bool → Coming

-- the row that a cell is in; a seat is named by its number
pub data Row : Type 0 where
  -- it has not got its seat yet
  unmade : Row
  -- this seat has the free cell
  free : ℕ → Row
  -- both parties of this task are to come
  paired : (Bool → Coming) → List ℕ → Row
  -- the party of this side is to come, and the other one came
  half : Bool → Coming → List ℕ → Row
  -- this seat came last
  claimed : ℕ → List ℕ → Row

module _ {K : Type 0} where
  abbrev pub view : Role → ℕ → List ℕ → K → TableId → View K
  view r c i k z = record { role = r; cell = c; id = i; kin = Some k; of = naming z }

  -- the maker before its first load
  abbrev pub fresh : K → View K
  fresh k = view Fresh 0 [] k no_table

  abbrev pub spent : View K
  spent = record { role = Spent; cell = 0; id = []; kin = None; of = naming no_table }

module _ {D S K : Type 0} (done_id : D → List ℕ) (done_kin : D → K) (awaits : S → List ℕ) (stack_kin : S → K) (tokens : S → List (Home K)) where
  -- the result of this task, or a stack that awaits it and holds only rights to these cells, each of this kin
  abbrev pub IsPut : Bool → List ℕ → K → TableId → Held D S → Type 0
  IsPut false i k z x = (d : D) × (x ≡ Done d) × (done_id d ≡ i) × (done_kin d ≡ k)
  IsPut true i k z x = (t : S) × (x ≡ Stack t) × (awaits t ≡ i) × (stack_kin t ≡ k) × All (λ h. h ≡ record { table = z; kin = Some k }) (tokens t)

module _ {X K : Type 0} (nothing : X) (Put : Bool → List ℕ → K → TableId → X → Type 0) where
  module _ (k : K) (z : TableId) where
    -- the slot of a party that is to come: out where it has it in hand, else at home and empty
    abbrev pub slot_of_coming : Coming → maybe.Option (maybe.Option X)
    slot_of_coming (coming j h) = some (cond h none (some nothing))

    -- a cell's word and slots in each row
    abbrev pub CellOk : ℕ → (Bool → maybe.Option (maybe.Option X)) → Row → Type 0
    CellOk w slot unmade = (w ≡ 0) × ((s : Bool) → slot s ≡ some (some nothing))
    CellOk w slot (free j) = (w ≡ 0) × ((s : Bool) → slot s ≡ some (some nothing))
    CellOk w slot (paired parties i) = (w ≡ 0) × ((s : Bool) → slot s ≡ slot_of_coming (parties s))
    CellOk w slot (half s party i) = (w ≡ bit_of (not s)) × ((x : X) × (slot (not s) ≡ some (some x)) × Put (not s) i k z x) × (slot s ≡ slot_of_coming party)
    CellOk w slot (claimed j i) = (w ≡ 3) × ((s : Bool) → slot s ≡ some none)

    -- a cell's views in each row
    abbrev pub Comes : List (View K) → ℕ → Bool → List ℕ → Coming → Type 0
    Comes views c s i (coming j h) = get_elem? views j ≡ some (view (Party s h) c i k z)

    abbrev pub Seated : List (View K) → ℕ → Row → Type 0
    Seated views c unmade = Unit {0}
    Seated views c (free j) = get_elem? views j ≡ some (view Free c [] k z)
    Seated views c (paired parties i) = (s : Bool) → Comes views c s i (parties s)
    Seated views c (half s party i) = Comes views c s i party
    Seated views c (claimed j i) = get_elem? views j ≡ some (view Claim c i k z)

    -- the row has a party to come at the seat j
    abbrev pub HasParty : ℕ → Bool → Bool → List ℕ → Row → Type 0
    HasParty j s h i unmade = ⊥
    HasParty j s h i (free l) = ⊥
    HasParty j s h i (paired parties i') = (parties s ≡ coming j h) × (i' ≡ i)
    HasParty j s h i (half s' party i') = (s' ≡ s) × (party ≡ coming j h) × (i' ≡ i)
    HasParty j s h i (claimed l i') = ⊥

    -- what a view at the seat j means: its cell's row has that seat, so a cell has no views but its row's
    abbrev pub Fits : (ℕ → Row) → ℕ → ℕ → ℕ → ℕ → View K → Role → Type 0
    Fits cells next maker_seat count j v Fresh = (v ≡ fresh k) × (count ≡ 1) × (next ≡ 0)
    Fits cells next maker_seat count j v Maker = (v ≡ view Maker next [] k z) × (j ≡ maker_seat)
    Fits cells next maker_seat count j v Free = (v ≡ view Free v.cell [] k z) × (cells v.cell ≡ free j)
    Fits cells next maker_seat count j v (Party s h) = (v ≡ view (Party s h) v.cell v.id k z) × HasParty j s h v.id (cells v.cell)
    Fits cells next maker_seat count j v Claim = (v ≡ view Claim v.cell v.id k z) × (cells v.cell ≡ claimed j v.id)
    Fits cells next maker_seat count j v Spent = Unit {0}

  -- the rule: each cell is in one row, the cells below `next` in one with a seat, and the others in none
  pub record Kept (k : K) (s : State X (View K)) : Type 0 where
    pub table : TableId
    pub next : ℕ
    pub maker_seat : ℕ
    pub cells : ℕ → Row
    pub sized : length s.homes ≡ 2 * length s.words
    pub each_view : (j : ℕ) (v : View K) → get_elem? s.views j ≡ some v → Fits k table cells next maker_seat (length s.views) j v v.role
    pub each_cell : (c : ℕ) → c < length s.words → CellOk k table (slice_index s.words c) (λ p. get_elem? s.homes (slot_of c p)) (cells c)
    pub each_seat : (c : ℕ) → Seated k table s.views c (cells c)
    pub made : (c : ℕ) → c < next → cells c ≢ unmade
    pub not_made : (c : ℕ) → next ≤ c → cells c ≡ unmade
