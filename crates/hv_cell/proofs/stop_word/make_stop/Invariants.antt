use Rattle.hv_cell.proofs.stop_word.make_stop.Given as goal

abbrev pub ghosts-name_stop : goal.ghosts-name_stop
ghosts-name_stop g a = record { table = a.seat.table_id }
