-- Cells and lists of cells.
use Rattle.std.specs.Prelude.{ℕ, Bool, false, not, ◌&&◌, ◌||◌, if◌then◌else◌, List, [], ◌∷◌, map}
use Rattle.hv_flow_versions.specs.declared.cell.Cell.{Cell}
use Rattle.hv_flow_versions.specs.Lists.{over, merge}

-- ---- one cell

-- whether it may be anything, so that it is reached
abbrev pub is_reached : Cell → Bool
is_reached c = c.kept || (c.no || c.yes)

abbrev pub set_cell : Bool → Cell → Cell
set_cell value c = record { kept = false; no = is_reached c && not value; yes = is_reached c && value }

abbrev pub either_cell : Cell → Cell → Cell
either_cell c d = record { kept = c.kept || d.kept; no = c.no || d.no; yes = c.yes || d.yes }

-- as a turn begins
abbrev pub begun_cell : Cell → Cell
begun_cell c = record { kept = is_reached c; no = false; yes = false }

-- before a loop, and where its turns leave it so
abbrev pub turned_cell : Cell → Cell → Cell
turned_cell c turn = record { kept = c.kept; no = c.no || (is_reached c && turn.no); yes = c.yes || (is_reached c && turn.yes) }

abbrev pub cell_may : Cell → Bool → Bool
cell_may c value = if value then c.yes else c.no

-- ---- lists of cells

abbrev pub set_cells : Bool → ℕ → ℕ → List Cell → List Cell
set_cells value from count cs = over (λ k. set_cell value) from count cs

-- what is not reached has no cells
abbrev pub joined : List Cell → List Cell → List Cell
joined [] ds = ds
joined (c ∷ cs) [] = c ∷ cs
joined (c ∷ cs) (d ∷ ds) = either_cell c d ∷ joined cs ds

abbrev pub begun : List Cell → List Cell
begun cs = map begun_cell cs

abbrev pub turned : List Cell → List Cell → List Cell
turned cs turn = merge turned_cell cs turn
