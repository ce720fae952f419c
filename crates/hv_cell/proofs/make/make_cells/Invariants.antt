use Rattle.hv_cell.proofs.make.make_cells.Given as goal

abbrev pub ghosts-name_cells : goal.ghosts-name_cells
ghosts-name_cells g a = record { table = a.seat.table_id }
