use Rattle.hv_law_checked.proofs.Safe.{accepted_is_safe}
use Rattle.hv_law_checked.proofs.law.accepted_programs_are_safe.Goals as goal

pub returns : goal.returns
returns c = accepted_is_safe
