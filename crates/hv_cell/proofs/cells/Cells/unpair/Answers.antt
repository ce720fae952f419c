use Rattle.std.proofs.Common.{rules, sym, ap, ◌∙◌}
use Rattle.hv_cell.specs.declared.cell_view.Held.TheVariants.{Nothing}
use Rattle.hv_cell.specs.CellRule.{IsPut}
use Rattle.hv_cell.proofs.Seating.{unpairs_me}
use Rattle.hv_cell.proofs.Opened.{opened, home_is}
use Rattle.hv_cell.proofs.cells.Cells.unpair.Goals as goal

pub join_seat-requires : goal.join_seat-requires
join_seat-requires g c = let J = g.P.Joined in let put = IsPut J.done_id J.done_kin J.awaits J.stack_kin J.tokens in
    let s = c.into_seat-seat in let m = c.into_seat-mate in let grid = c.grid in
    let mine = opened _ _ _ _ _ _ _ _ _ _ c.f.invariant.1 s.ensures.2 (ap (λ f. f.home) c.f.view_is) (c.requires.own.0 ∙ home_is _ _ _ _ grid.ensures.table grid.ensures.kin) in
    let theirs = opened _ _ _ _ _ _ _ _ _ _ c.a.invariant.1 m.ensures.2 (ap (λ f. f.home) c.a.view_is) (c.requires.own.1 ∙ home_is _ _ _ _ grid.ensures.table grid.ensures.kin) in
    (search rules, search rules, search rules, search rules, unpairs_me Nothing put _ _ _ _ _ _ _ _ _ _ _ mine theirs (ap (λ f. f.cell) c.a.view_is ∙ (c.requires.one_cell ∙ sym (ap (λ f. f.cell) c.f.view_is))))
