use Rattle.hv_type_judge.proofs.Program.{types_first}
use Rattle.hv_type_judge.proofs.law.parts_are_judged_exactly.Goals as goal

pub returns : goal.returns
returns c = types_first
