use Rattle.std.proofs.Common.{rules, ap, ◌∙◌}
use Rattle.hv_cell.specs.declared.cell_view.Held.TheVariants.{Nothing}
use Rattle.hv_cell.specs.CellRule.{IsPut}
use Rattle.hv_cell.proofs.Seating.{pairs_me}
use Rattle.hv_cell.proofs.Opened.{opened, home_is}
use Rattle.hv_cell.proofs.cells.Cells.pair_for.Goals as goal

pub split_seat-other-requires : goal.split_seat-other-requires
split_seat-other-requires g c = let J = g.P.Joined in let put = IsPut J.done_id J.done_kin J.awaits J.stack_kin J.tokens in
    let inv = c.free.invariant in let s = c.into_seat-seat in let grid = c.grid in
    let me = opened _ _ _ _ _ _ _ _ _ _ inv.1 s.ensures.2 (ap (λ f. f.home) c.free.view_is) (c.requires.own ∙ home_is _ _ _ _ grid.ensures.table grid.ensures.kin) in
    (search rules, search rules, pairs_me Nothing put _ _ _ _ g.W.Tasking.task _ me)
