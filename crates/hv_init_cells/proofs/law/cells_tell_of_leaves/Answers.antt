use Rattle.hv_init_cells.proofs.Telling.{tells}
use Rattle.hv_init_cells.proofs.law.cells_tell_of_leaves.Goals as goal

pub returns : goal.returns
returns c = λ tree body l fit. tells tree body l fit
