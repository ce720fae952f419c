-- The cells along a walk, and the lists of them that wait for the end of a part.
use Rattle.std.specs.Prelude.{ℕ, Bool, false, true, List, [], ◌∷◌, replicate}
use Rattle.hv_flow_versions.specs.declared.cell.Cell.{Cell}
use Rattle.hv_flow_versions.specs.Cells.{set_cells, joined, begun, turned}

-- what waits for a part
pub data Saved : Type 0 where
  -- with the cells before both sides
  OneSide : List Cell → Saved
  -- with the cells behind the sides that are passed
  OtherSide : List Cell → Saved
  -- with the cells before the loop
  Turn : List Cell → Saved

pub record Levels : Type 0 where
  -- none where nothing reaches
  pub now : List Cell
  -- the innermost first
  pub saved : List Saved

-- so many cells, each a no
abbrev pub starting_level : ℕ → Levels
starting_level n = record { now = replicate n (record { kept = false; no = true; yes = false }); saved = [] }

abbrev pub set_level : Bool → ℕ → ℕ → Levels → Levels
set_level value from count l = record { now = set_cells value from count l.now; saved = l.saved }

-- nothing is reached
abbrev pub stopped_level : Levels → Levels
stopped_level l = record { now = []; saved = l.saved }

-- ---- a part begins

-- the one of two sides
abbrev pub split : Levels → Levels
split l = record { now = l.now; saved = OneSide l.now ∷ l.saved }

-- a turn of a loop, where anything may be
abbrev pub entered_level : Levels → Levels
entered_level l = record { now = begun l.now; saved = Turn l.now ∷ l.saved }

-- ---- a part ends, and where another kind of part is the innermost, nothing changes

-- the other side begins where the one did
abbrev pub sides_changed_of : List Cell → List Saved → Levels
sides_changed_of now [] = record { now = now; saved = [] }
sides_changed_of now (OneSide before ∷ rest) = record { now = before; saved = OtherSide now ∷ rest }
sides_changed_of now (OtherSide sides ∷ rest) = record { now = now; saved = OtherSide sides ∷ rest }
sides_changed_of now (Turn before ∷ rest) = record { now = now; saved = Turn before ∷ rest }

abbrev pub sides_changed : Levels → Levels
sides_changed l = sides_changed_of l.now l.saved

-- sides that end together are one
abbrev pub waiting_behind : List Cell → List Saved → List Saved
waiting_behind now [] = OtherSide now ∷ []
waiting_behind now (OneSide before ∷ rest) = OtherSide now ∷ (OneSide before ∷ rest)
waiting_behind now (OtherSide sides ∷ rest) = OtherSide (joined sides now) ∷ rest
waiting_behind now (Turn before ∷ rest) = OtherSide now ∷ (Turn before ∷ rest)

abbrev pub sides_changed_within_of : List Cell → List Saved → Levels
sides_changed_within_of now [] = record { now = now; saved = [] }
sides_changed_within_of now (OneSide before ∷ rest) = record { now = before; saved = waiting_behind now rest }
sides_changed_within_of now (OtherSide sides ∷ rest) = record { now = now; saved = OtherSide sides ∷ rest }
sides_changed_within_of now (Turn before ∷ rest) = record { now = now; saved = Turn before ∷ rest }

-- the same, as one more side of those that are passed, where the one side began in their other
abbrev pub sides_changed_within : Levels → Levels
sides_changed_within l = sides_changed_within_of l.now l.saved

abbrev pub joined_level_of : List Cell → List Saved → Levels
joined_level_of now [] = record { now = now; saved = [] }
joined_level_of now (OneSide before ∷ rest) = record { now = now; saved = OneSide before ∷ rest }
joined_level_of now (OtherSide sides ∷ rest) = record { now = joined sides now; saved = rest }
joined_level_of now (Turn before ∷ rest) = record { now = now; saved = Turn before ∷ rest }

-- behind either side
abbrev pub joined_level : Levels → Levels
joined_level l = joined_level_of l.now l.saved

abbrev pub turned_level_of : List Cell → List Saved → Levels
turned_level_of now [] = record { now = now; saved = [] }
turned_level_of now (OneSide before ∷ rest) = record { now = now; saved = OneSide before ∷ rest }
turned_level_of now (OtherSide sides ∷ rest) = record { now = now; saved = OtherSide sides ∷ rest }
turned_level_of now (Turn before ∷ rest) = record { now = turned before now; saved = rest }

-- behind a loop, one turn of which came to this
abbrev pub turned_level : Levels → Levels
turned_level l = turned_level_of l.now l.saved
