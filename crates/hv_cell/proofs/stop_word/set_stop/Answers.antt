use Rattle.std.proofs.Common.{rules, ap}
use Rattle.hv_cell.proofs.StopSteps.{stops_me, watch_is}
use Rattle.hv_cell.proofs.stop_word.set_stop.Goals as goal

pub fetch_or-requires : goal.fetch_or-requires
fetch_or-requires g c = let w = c.watch in
    (search rules, search rules, stops_me _ _ _ _ _ _ _ _ c.args.why _ c.bit.ensures (watch_is _ w.invariant.0 _ _ _ _ w.invariant.1 (ap (λ x. x.home) w.view_is) c.requires.own))
