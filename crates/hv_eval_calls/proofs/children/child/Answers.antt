use Rattle.std.proofs.Common.{rules, sym}
use Rattle.hv_partial.specs.HeldTree.{held_trees}
use Rattle.hv_eval_calls.proofs.ChildLemmas.{child_constructs, child_enters, child_halted}
use Rattle.hv_eval_calls.proofs.children.child.Goals as goal

pub returns-in-Err : goal.returns-in-Err
returns-in-Err g c = λ never.
    child_halted c.args.parts.now.level c.args.call.now c.args.used c.args.task.now c.callee.new.task c.in-Err.halt (search rules)

pub returns-in-Ok-Constructs : goal.returns-in-Ok-Constructs
returns-in-Ok-Constructs g c = λ never.
    child_constructs c.args.parts.now.level c.args.call.now c.args.used c.args.task.now c.callee.new.task (search rules)

pub returns-in-Ok-Enters : goal.returns-in-Ok-Enters
returns-in-Ok-Enters g c =
    rw (child_enters c.args.parts.now.level c.args.call.now c.in-Ok-Enters.number (held_trees c.in-Ok-Enters.captures) c.args.used c.args.task.now c.callee.new.task (search rules), sym c.as_slice-args.ensures) c.child_body.ensures
