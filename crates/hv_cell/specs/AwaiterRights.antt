-- What the fields of the role show.
use Rattle.std.specs.Prelude.{◌≡◌, ◌<◌, true, false, [], ◌∷◌}
use Rattle.hv_cell.specs.declared.cell_view.Role.TheVariants.{Party}
use Rattle.hv_cell.specs.declared.tokens.Awaiter.TheInside.{Inside}
use Rattle.hv_cell.specs.Tokens.{Right}
use Rattle.hv_cell.specs.CellRule.{view}
use Rattle.hv_cell.specs.Heads.{kin_in, task_in}

module _ {K : Type 0} where
  abbrev pub awaiter_view : Inside K → Right K
  awaiter_view f = record { home = record { table = f.badge.table_id; kin = kin_in f.badge.views }; cell = f.cell; task = task_in f.badge.views; seat = f.badge.id }

  abbrev pub IsAwaiterToken : Inside K → Type 0
  IsAwaiterToken f = (k : K) × (f.badge.views ≡ view (Party true false) f.cell (task_in f.badge.views) k f.badge.table_id ∷ []) × (f.cell < f.badge.table_id.words)
