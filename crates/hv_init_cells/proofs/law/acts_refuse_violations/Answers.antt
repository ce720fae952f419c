use Rattle.hv_init_cells.proofs.Refusing.{both}
use Rattle.hv_init_cells.proofs.law.acts_refuse_violations.Goals as goal

pub returns : goal.returns
returns c = λ tree body l fit. both tree body l fit
