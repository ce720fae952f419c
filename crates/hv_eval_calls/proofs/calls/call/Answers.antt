use Rattle.std.proofs.Common.{rules, sym}
use Rattle.hv_partial.specs.HeldTree.{held_trees}
use Rattle.hv_eval_calls.proofs.CallLemmas.{call_constructs, call_enters, call_halted}
use Rattle.hv_eval_calls.proofs.calls.call.Goals as goal

pub returns-in-Err : goal.returns-in-Err
returns-in-Err g c = λ never.
    call_halted c.args.parts.now.level c.args.call.now c.args.used c.args.task.now c.callee.new.task c.in-Err.halt (search rules)

pub returns-in-Ok-Constructs : goal.returns-in-Ok-Constructs
returns-in-Ok-Constructs g c =
    rw (call_constructs c.args.parts.now.level c.args.call.now c.args.used c.args.task.now c.callee.new.task (search rules), sym c.as_slice-args.ensures) c.construct.ensures

pub returns-in-Ok-Enters : goal.returns-in-Ok-Enters
returns-in-Ok-Enters g c =
    rw (call_enters c.args.parts.now.level c.args.call.now c.in-Ok-Enters.f (held_trees c.in-Ok-Enters.captures) c.args.used c.args.task.now c.callee.new.task (search rules), sym c.as_slice-args.ensures) c.call_body.ensures
