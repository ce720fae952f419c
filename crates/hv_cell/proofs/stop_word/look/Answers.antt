use Rattle.std.proofs.Common.{rules, ap}
use Rattle.hv_cell.proofs.StopSteps.{looks_me, watch_is}
use Rattle.hv_cell.proofs.stop_word.look.Goals as goal

pub load-found-requires : goal.load-found-requires
load-found-requires g c = let w = c.watch in
    (search rules, search rules, looks_me _ _ _ _ _ _ _ _ (watch_is _ w.invariant.0 _ _ _ _ w.invariant.1 (ap (λ x. x.home) w.view_is) c.requires.own))
