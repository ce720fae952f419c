use Rattle.std.proofs.Common.{rules}
use Rattle.hv_partial.specs.HeldTree.{held_tree}
use Rattle.hv_eval_state.specs.Spots.{spot_of}
use Rattle.hv_eval_state.proofs.SpotLemmas.{moved_whole}
use Rattle.hv_eval_state.proofs.spot.take_there.Goals as goal

pub returns-in-Some : goal.returns-in-Some
returns-in-Some c = λ n. moved_whole (spot_of c.args.spot.now) n c.args.task.now (held_tree c.drop_local-place.result) (held_tree c.in-Some.held) c.set_local.new.locals (search rules) (search rules) (search rules) (search rules)
