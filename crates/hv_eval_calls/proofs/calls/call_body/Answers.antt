use Rattle.std.proofs.Common.{rules, sym, ap, ◌∙◌}
use Rattle.hv_value.specs.ValueTree.{ValueTree}
use Rattle.hv_sem_copying.specs.Run.{Res, Now, Is}
use Rattle.hv_sem_copying.specs.Copying.{Locals}
use Rattle.hv_partial.specs.HeldTree.{held_trees}
use Rattle.hv_eval_state.specs.Gives.{now_of, halted}
use Rattle.hv_scope.specs.Bodies.{body_by}
use Rattle.hv_eval_env.specs.Level.{flow_of}
use Rattle.hv_eval_calls.proofs.CallLemmas.{called_runs, called_lacks}
use Rattle.hv_eval_calls.proofs.calls.call_body.Goals as goal

pub returns-in_default : goal.returns-in_default
returns-in_default g c = λ never.
    called_lacks c.args.parts.now.level c.args.at c.args.args.now c.args.f (held_trees c.args.captures) c.args.used c.args.task.now (search rules)

pub returns-in-Err : goal.returns-in-Err
returns-in-Err g c = λ never.
    called_runs c.args.parts.now.level c.args.at c.args.args.now c.args.f (held_trees c.args.captures) c.in-Some.scoped.now.body c.in_ok-passed.passed c.new-opens.result.items c.args.used c.args.task.now (halted c.in-Err.halt c.run_with.new.task)
    (search rules) c.in_ok-passed.ensures c.new-opens.ensures.items (c.in-Err.ensures (body_by c.in-Some.scoped.now.body) c.args.used never)

pub returns-in-Ok : goal.returns-in-Ok
returns-in-Ok g c =
    called_runs c.args.parts.now.level c.args.at c.args.args.now c.args.f (held_trees c.args.captures) c.in-Some.scoped.now.body c.in_ok-passed.passed c.new-opens.result.items c.args.used c.args.task.now (Is (now_of c.run_with.new.task, flow_of c.in-Ok.flow))
    (search rules) c.in_ok-passed.ensures c.new-opens.ensures.items (c.in-Ok.ensures (body_by c.in-Some.scoped.now.body) c.args.used)
    ∙ ap give (sym c.result_of.ensures)
  where
    give : ValueTree → Res (Now Locals × ValueTree)
    give v = Is (now_of c.run_with.new.task, v)
