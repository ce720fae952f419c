use Rattle.std.proofs.Common.{rules}
use Rattle.hv_cell.proofs.StopSteps.{names_me}
use Rattle.hv_cell.proofs.stop_word.name_stop.Goals as goal

pub load-requires : goal.load-requires
load-requires g c = (search rules, search rules, names_me _ _ _ _ _ c.requires.fresh)
