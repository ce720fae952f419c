use Rattle.hv_init_needs.proofs.Settled.{filled_where_asked}
use Rattle.hv_init_needs.proofs.law.locals_without_state_are_filled.Goals as goal

pub returns : goal.returns
returns c = filled_where_asked
