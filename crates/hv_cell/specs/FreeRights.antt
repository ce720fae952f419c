-- What the fields of a free cell show.
use Rattle.std.specs.Prelude.{◌≡◌, ◌<◌, [], ◌∷◌}
use Rattle.hv_cell.specs.declared.cell_view.Role.TheVariants.{Free}
use Rattle.hv_cell.specs.declared.tokens.FreeCell.TheInside.{Inside}
use Rattle.hv_cell.specs.Tokens.{Vacancy}
use Rattle.hv_cell.specs.CellRule.{view}
use Rattle.hv_cell.specs.Heads.{kin_in}

module _ {K : Type 0} where
  abbrev pub free_view : Inside K → Vacancy K
  free_view f = record { home = record { table = f.badge.table_id; kin = kin_in f.badge.views }; cell = f.cell; seat = f.badge.id }

  abbrev pub IsFreeToken : Inside K → Type 0
  IsFreeToken f = (k : K) × (f.badge.views ≡ view Free f.cell [] k f.badge.table_id ∷ []) × (f.cell < f.badge.table_id.words)
