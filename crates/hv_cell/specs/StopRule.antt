-- The rule of the stop table, after docs/CELLS.md, and what each step on it tells.
use Rattle.std.specs.Prelude.{◌≡◌, ℕ, ◌+◌, [], ◌∷◌, length, Some}
use mathlib.Core.Option.{some}
use lib.ListN.{get_elem?}
use Rattle.atomic_table.specs.Table.{State, Me}
use Rattle.atomic_table.specs.Seated.{TableId}
use Rattle.hv_cell.specs.declared.why.Reasons.{Reasons}
use Rattle.hv_cell.specs.declared.stop_view.StopRole.{StopRole}
use Rattle.hv_cell.specs.declared.stop_view.StopRole.TheVariants.{Fresh, Maker, Watching, Spent}
use Rattle.hv_cell.specs.declared.stop_view.StopView.{StopView}
use Rattle.hv_cell.specs.Tokens.{no_table, naming}
use Rattle.hv_cell.specs.Reasons.{no_reason, both, Within, word_of, reasons_in}

-- a seat of the stop table: it holds no slot
abbrev pub Sat : Type 0 → Type 0
Sat K = Me (Unit {0}) (StopView K)

module _ {K : Type 0} where
  abbrev pub making : K → TableId → StopView K
  making k z = record { role = Maker; seen = no_reason; asked = no_reason; looks = 0; kin = Some k; of = naming z }

  abbrev pub watching : Reasons → Reasons → ℕ → K → TableId → StopView K
  watching seen asked looks k z = record { role = Watching; seen = seen; asked = asked; looks = looks; kin = Some k; of = naming z }

  -- the maker before its first load
  abbrev pub fresh : K → StopView K
  fresh k = record { role = Fresh; seen = no_reason; asked = no_reason; looks = 0; kin = Some k; of = naming no_table }

  -- what a view at the seat j means: there is one maker, before its first load it is alone, and a watch has seen only bits of the word
  abbrev pub Fits : K → TableId → Reasons → ℕ → ℕ → ℕ → StopView K → StopRole → Type 0
  Fits k z bits maker_seat count j v Fresh = (v ≡ fresh k) × (count ≡ 1)
  Fits k z bits maker_seat count j v Maker = (v ≡ making k z) × (j ≡ maker_seat)
  Fits k z bits maker_seat count j v Watching = (v ≡ watching v.seen v.asked v.looks k z) × Within v.seen bits
  Fits k z bits maker_seat count j v Spent = Unit {0}

  -- the rule
  pub record Stops (k : K) (s : State (Unit {0}) (StopView K)) : Type 0 where
    pub table : TableId
    pub bits : Reasons
    pub maker_seat : ℕ
    pub word : s.words ≡ word_of bits ∷ []
    pub each_view : (j : ℕ) (v : StopView K) → get_elem? s.views j ≡ some v → Fits k table bits maker_seat (length s.views) j v v.role

  -- Make without a split: the maker's first load, by which it knows its table
  abbrev pub named : TableId → Sat K → Sat K → Type 0
  named z m n = n ≡ (record m.0 { role = Maker; of = naming z }, m.1)

  -- Make: the view of the new seat
  abbrev pub newcomer : StopView K → StopView K
  newcomer v = record v { role = Watching }

  -- Look: the watch has seen just what the word has, and made one look more
  abbrev pub looked : Sat K → ℕ → Sat K → Type 0
  looked m r n = (found : Reasons) × (r ≡ word_of found) × (n ≡ (record m.0 { seen = found; looks = m.0.looks + 1 }, m.1)) × Within m.0.seen found

  -- Stop: the watch has seen what the word had, and its own bit
  abbrev pub stopped : ℕ → Sat K → ℕ → Sat K → Type 0
  stopped bit m r n = (found : Reasons) × (r ≡ word_of found) × (n ≡ (record m.0 { seen = both found (reasons_in bit); asked = both m.0.asked (reasons_in bit) }, m.1)) × Within m.0.seen found
