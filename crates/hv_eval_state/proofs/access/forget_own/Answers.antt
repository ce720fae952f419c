use Rattle.std.proofs.Common.{rules}
use Rattle.hv_eval_state.specs.Spots.{spot_of}
use Rattle.hv_eval_state.proofs.AccessLemmas.{returned_own}
use Rattle.hv_eval_state.proofs.access.forget_own.Goals as goal

pub returns : goal.returns
returns c = λ n. returned_own (spot_of c.args.place.now) n c.args.task.now c.set_local.new.locals (search rules) (search rules)
