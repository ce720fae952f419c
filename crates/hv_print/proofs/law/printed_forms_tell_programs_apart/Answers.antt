use Rattle.hv_print.proofs.TellsApart.{tells_apart}
use Rattle.hv_print.proofs.law.printed_forms_tell_programs_apart.Goals as goal

pub returns : goal.returns
returns c = tells_apart
