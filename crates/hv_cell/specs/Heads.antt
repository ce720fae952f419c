-- What the view of a badge shows.
use Rattle.std.specs.Prelude.{ℕ, List, [], ◌∷◌, Option, None}
use Rattle.hv_cell.specs.declared.cell_view.View.{View}

module _ {K : Type 0} where
  abbrev pub kin_in : List (View K) → Option K
  kin_in [] = None
  kin_in (v ∷ vs) = v.kin

  abbrev pub task_in : List (View K) → List ℕ
  task_in [] = []
  task_in (v ∷ vs) = v.id
