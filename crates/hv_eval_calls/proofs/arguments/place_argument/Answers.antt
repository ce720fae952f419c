use Rattle.std.proofs.Common.{rules}
use Rattle.hv_eval_state.specs.Spots.{spot_of}
use Rattle.hv_eval_operands.specs.Places.{found_by}
use Rattle.hv_eval_calls.proofs.GivenLemmas.{set_found}
use Rattle.hv_eval_calls.proofs.arguments.place_argument.Goals as goal

pub returns-in_ok-spot-in-Set : goal.returns-in_ok-spot-in-Set
returns-in_ok-spot-in-Set g c =
    rw (set_found c.args.conv (found_by c.args.parts.now.level c.args.place.now) (spot_of c.in_ok-spot-in-Set.spot) c.args.used c.args.task.now c.found-in-Set.new.task c.in-Set.is (search rules)) (c.emptied_argument.ensures c.args.used)
