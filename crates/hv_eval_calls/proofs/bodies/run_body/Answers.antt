use Rattle.hv_eval_env.specs.Level.{flow_of}
use Rattle.hv_eval_calls.specs.Passes.{passed_by}
use Rattle.std.proofs.Common.{map}
use Rattle.hv_eval_calls.proofs.EnterLemmas.{called, call_halted}
use Rattle.hv_eval_calls.proofs.bodies.run_body.Goals as goal

pub returns-in_ok-finish-in-Ok : goal.returns-in_ok-finish-in-Ok
returns-in_ok-finish-in-Ok g c = λ size n.
    called c.args.parts.now.level size c.args.f c.args.given c.in_ok-caller.caller.given c.in_ok-caller.caller.locals n c.args.task.now c.begin.new.task c.body.new.task c.finish.new.task (flow_of c.in-Ok.flow)
    c.in_ok-caller.ensures.begun (c.in-Ok.ensures n) c.in_ok-caller.ensures.locals c.in_ok-caller.ensures.lent c.in_ok-finish-in-Ok.ensures

pub returns-in-Err : goal.returns-in-Err
returns-in-Err g c = λ size n never.
    call_halted c.args.parts.now.level size c.args.f (map passed_by c.args.given) n c.args.task.now c.begin.new.task c.body.new.task c.in-Err.halt c.in_ok-caller.ensures.begun (c.in-Err.ensures n never)
