use Rattle.std.proofs.Common.{◌≡◌}
use Rattle.hv_cell.specs.Tokens.{home_of}
use Rattle.hv_test_cells.proofs.cells.exactly_one_party_is_last_in_each_round.Given as goal

abbrev pub invariant-loop : goal.invariant-loop
invariant-loop g l = l.cell.home ≡ home_of l.cells
