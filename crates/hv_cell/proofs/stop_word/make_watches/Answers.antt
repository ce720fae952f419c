use Rattle.std.proofs.Common.{rules, ap}
use Rattle.hv_cell.proofs.StopSteps.{makes_me}
use Rattle.hv_cell.proofs.stop_word.make_watches.Goals as goal

pub split_seat-seat-requires : goal.split_seat-seat-requires
split_seat-seat-requires g c = (search rules, search rules, makes_me _ _ _ _ (ap (λ m. m.0) c.loop.invariant.1))
