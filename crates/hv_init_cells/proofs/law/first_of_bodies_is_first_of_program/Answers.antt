use Rattle.hv_init_cells.proofs.Phase.{program_first}
use Rattle.hv_init_cells.proofs.law.first_of_bodies_is_first_of_program.Goals as goal

pub returns : goal.returns
returns c = λ tree v. program_first tree v
