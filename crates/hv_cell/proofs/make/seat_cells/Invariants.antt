use Rattle.std.proofs.Common.{◌≡◌, ◌≤◌, [], map, All, vec_len}
use Rattle.std.specs.Prelude.{Some, vec_capacity}
use Rattle.hv_cell.specs.CellRule.{view}
use Rattle.hv_cell.specs.Numbers.{numbers_below}
use Rattle.hv_cell.specs.declared.cell_view.Role.TheVariants.{Maker}
use Rattle.hv_cell.proofs.make.seat_cells.Given as goal

abbrev pub invariant-loop-cell : goal.invariant-loop-cell
invariant-loop-cell g l = (l.maker.table_id ≡ l.grid.table_id) × (l.maker.me ≡ (view Maker l.cell [] l.grid.key l.maker.table_id, [])) × (map (λ f. f.cell) l.free.items ≡ numbers_below l.cell)
    × (vec_len l.free ≡ l.cell) × (l.cells ≤ vec_capacity l.free) × All (λ f. f.home ≡ record { table = l.grid.table_id; kin = Some l.grid.key }) l.free.items
