use Rattle.hv_syn_exact.proofs.Knot.{outcome}
use Rattle.hv_syn_exact.proofs.law.programs_are_read_exactly.Goals as goal

pub returns : goal.returns
returns c = outcome
