use Rattle.std.proofs.Common.{rules}
use Rattle.hv_cell.specs.declared.cell_view.Held.TheVariants.{Nothing}
use Rattle.hv_cell.specs.CellRule.{IsPut}
use Rattle.hv_cell.proofs.Seating.{opens_me}
use Rattle.hv_cell.proofs.make.make_table.Goals as goal

pub new-requires : goal.new-requires
new-requires g c = let J = g.P.Joined in let put = IsPut J.done_id J.done_kin J.awaits J.stack_kin J.tokens in
    opens_me Nothing put c.args.kin.now c.args.count _ _ (search rules) (search rules)
