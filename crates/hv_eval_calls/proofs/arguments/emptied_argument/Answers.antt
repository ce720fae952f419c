use Rattle.std.proofs.Common.{rules}
use Rattle.hv_partial.specs.HeldTree.{held_tree}
use Rattle.hv_eval_state.specs.Spots.{spot_of}
use Rattle.hv_eval_calls.proofs.GivenLemmas.{emptied_somewhere, emptied_halted}
use Rattle.hv_eval_calls.proofs.arguments.emptied_argument.Goals as goal

pub returns-in-Ok : goal.returns-in-Ok
returns-in-Ok c = λ n.
    emptied_somewhere (spot_of c.args.place) n c.args.task.now c.put_there.new.task (held_tree c.in-Some.rest) (search rules) (search rules)

pub returns-in-Err : goal.returns-in-Err
returns-in-Err c = λ n never.
    emptied_halted (spot_of c.args.place) n c.args.task.now c.put_there.new.task (held_tree c.in-Some.rest) c.in-Err.halt (search rules) (c.in-Err.ensures n never)
