use Rattle.hv_init_cells.proofs.Ranks.{merged_fits}
use Rattle.hv_init_cells.proofs.law.merged_layouts_fit.Goals as goal

pub returns : goal.returns
returns c = λ tree body cut cuts. merged_fits tree body cut cuts
