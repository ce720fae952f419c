use Rattle.std.proofs.Common.{rules, ap}
use Rattle.hv_cell.specs.declared.cell_view.Held.TheVariants.{Nothing}
use Rattle.hv_cell.specs.CellRule.{IsPut}
use Rattle.hv_cell.proofs.Seating.{makes_me}
use Rattle.hv_cell.proofs.make.seat_cells.Goals as goal

pub split_seat-seat-requires : goal.split_seat-seat-requires
split_seat-seat-requires g c = let J = g.P.Joined in let put = IsPut J.done_id J.done_kin J.awaits J.stack_kin J.tokens in let m = c.loop-cell.maker in
    (search rules, search rules, makes_me Nothing put _ m.table_id c.loop-cell.cell m.id m.me.0 (ap (λ y. y.0) c.loop-cell.invariant.1))
