use Rattle.hv_print.proofs.ReadTrees.{read_written}
use Rattle.hv_print.proofs.law.read_programs_are_written.Goals as goal

pub returns : goal.returns
returns c = read_written
