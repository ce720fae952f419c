use Rattle.hv_print.proofs.ReadsBack.{reads_back}
use Rattle.hv_print.proofs.law.printed_programs_are_read_back.Goals as goal

pub returns : goal.returns
returns c = reads_back
