-- What the fields of the role show.
use Rattle.std.specs.Prelude.{◌≡◌, ◌<◌, false, [], ◌∷◌}
use Rattle.hv_cell.specs.declared.cell_view.Role.TheVariants.{Party}
use Rattle.hv_cell.specs.declared.tokens.Finisher.TheInside.{Inside}
use Rattle.hv_cell.specs.Tokens.{Right}
use Rattle.hv_cell.specs.CellRule.{view}
use Rattle.hv_cell.specs.Heads.{kin_in, task_in}

module _ {K : Type 0} where
  abbrev pub finisher_view : Inside K → Right K
  finisher_view f = record { home = record { table = f.badge.table_id; kin = kin_in f.badge.views }; cell = f.cell; task = task_in f.badge.views; seat = f.badge.id }

  abbrev pub IsFinisherToken : Inside K → Type 0
  IsFinisherToken f = (k : K) × (f.badge.views ≡ view (Party false false) f.cell (task_in f.badge.views) k f.badge.table_id ∷ []) × (f.cell < f.badge.table_id.words)
