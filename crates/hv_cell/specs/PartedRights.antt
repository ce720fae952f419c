-- What the field of a party that came first shows.
use Rattle.std.specs.Prelude.{◌≡◌, [], ◌∷◌}
use Rattle.hv_cell.specs.declared.tokens.Parted.TheInside.{Inside}
use Rattle.hv_cell.specs.Tokens.{Gone}
use Rattle.hv_cell.specs.CellRule.{spent}

module _ {K : Type 0} where
  abbrev pub parted_view : Inside K → Gone
  parted_view f = record { table = f.badge.table_id; seat = f.badge.id }

  -- its view is spent
  abbrev pub IsParted : Inside K → Type 0
  IsParted f = f.badge.views ≡ spent ∷ []
