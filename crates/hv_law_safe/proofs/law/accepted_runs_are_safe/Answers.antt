use Rattle.hv_law_safe.proofs.Theorem.{accepted_safe}
use Rattle.hv_law_safe.proofs.law.accepted_runs_are_safe.Goals as goal

pub returns : goal.returns
returns c = accepted_safe
