-- What the fields of a watch show.
use Rattle.std.specs.Prelude.{◌≡◌, []}
use Rattle.hv_cell.specs.declared.watches.Watch.TheInside.{Inside}
use Rattle.hv_cell.specs.Tokens.{Watching}
use Rattle.hv_cell.specs.StopRule.{watching}

module _ {K : Type 0} where
  abbrev pub watch_view : Inside K → Watching K
  watch_view w = record { home = record { table = w.seat.table_id; kin = w.seat.me.0.kin }; seen = w.seat.me.0.seen; asked = w.seat.me.0.asked; looks = w.seat.me.0.looks }

  abbrev pub IsWatch : Inside K → Type 0
  IsWatch w = (k : K) × (w.seat.me ≡ (watching w.seat.me.0.seen w.seat.me.0.asked w.seat.me.0.looks k w.seat.table_id, []))
