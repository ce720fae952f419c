use Rattle.std.proofs.Common.{rules}
use Rattle.hv_cell.specs.declared.cell_view.Held.TheVariants.{Nothing}
use Rattle.hv_cell.specs.CellRule.{IsPut}
use Rattle.hv_cell.proofs.Seating.{names_me}
use Rattle.hv_cell.proofs.make.name_cells.Goals as goal

pub load-requires : goal.load-requires
load-requires g c = let J = g.P.Joined in let put = IsPut J.done_id J.done_kin J.awaits J.stack_kin J.tokens in
    (search rules, search rules, names_me Nothing put _ _ _ _ _ c.requires.fresh)
