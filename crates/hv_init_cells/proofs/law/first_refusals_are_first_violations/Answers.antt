use Rattle.hv_init_cells.proofs.Refusing.{first_violation}
use Rattle.hv_init_cells.proofs.law.first_refusals_are_first_violations.Goals as goal

pub returns : goal.returns
returns c = λ tree body l fit. first_violation tree body l fit
