use Rattle.std.proofs.Common.{length}
use Rattle.hv_cell.proofs.tokens.FreeCell.abandon_all.Given as goal

abbrev pub decreases-loop-cell : goal.decreases-loop-cell
decreases-loop-cell g l = length l.cells.items
