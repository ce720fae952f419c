use Rattle.std.proofs.Common.{rules}
use Rattle.hv_sem_copying.specs.Run.{Is}
use Rattle.hv_partial.specs.HeldTree.{held_trees}
use Rattle.hv_eval_state.specs.Gives.{now_of, halted}
use Rattle.hv_eval_calls.specs.Children.{passed_of}
use Rattle.hv_eval_calls.proofs.ChildLemmas.{begun_runs, begun_lacks}
use Rattle.hv_eval_calls.proofs.children.child_body.Goals as goal

pub returns-in_default : goal.returns-in_default
returns-in_default g c = λ never.
    begun_lacks c.args.parts.now.level c.args.args.now c.args.number (held_trees c.args.captures) c.args.used c.args.task.now (search rules)

pub returns-in-Err : goal.returns-in-Err
returns-in-Err g c = λ never.
    begun_runs c.args.parts.now.level c.args.args.now c.args.number (held_trees c.args.captures) c.in-Some.body.now.body c.in_ok-passed.passed c.args.used c.args.task.now (halted c.in-Err.halt c.all_owned.new.task)
    (search rules) c.in_ok-passed.ensures (c.in-Err.ensures never)

pub returns-in-Ok : goal.returns-in-Ok
returns-in-Ok g c =
    begun_runs c.args.parts.now.level c.args.args.now c.args.number (held_trees c.args.captures) c.in-Some.body.now.body c.in_ok-passed.passed c.args.used c.args.task.now (Is (now_of c.all_owned.new.task, passed_of c.in-Ok.given))
    (search rules) c.in_ok-passed.ensures c.in-Ok.ensures
