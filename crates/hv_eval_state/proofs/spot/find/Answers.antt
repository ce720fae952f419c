use Rattle.std.proofs.Common.{rules}
use Rattle.hv_eval_state.proofs.LocalLemmas.{hole_found, get_or-past}
use Rattle.hv_eval_state.proofs.spot.find.Goals as goal

pub returns-in-None : goal.returns-in-None
returns-in-None c = hole_found _ _ (get_or-past c.args.locals.now c.args.spot.now.root (search rules))
