use Rattle.hv_init_cells.proofs.PlainFits.{plain_fits}
use Rattle.hv_init_cells.proofs.law.plain_layouts_fit.Goals as goal

pub returns : goal.returns
returns c = λ tree body. plain_fits tree body
