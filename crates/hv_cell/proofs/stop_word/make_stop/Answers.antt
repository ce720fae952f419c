use Rattle.hv_cell.proofs.StopSteps.{opens}
use Rattle.hv_cell.proofs.stop_word.make_stop.Goals as goal

pub of_words-requires : goal.of_words-requires
of_words-requires g c = opens _
