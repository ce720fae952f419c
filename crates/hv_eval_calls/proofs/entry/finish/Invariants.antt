use Rattle.std.proofs.Common.{◌≡◌, map, drop}
use Rattle.hv_sem_copying.specs.Copying.{returned}
use Rattle.hv_eval_calls.specs.Passes.{passed_by, own_by}
use Rattle.hv_eval_calls.proofs.entry.finish.Given as goal

abbrev pub invariant-loop-i : goal.invariant-loop-i
invariant-loop-i l =
    (returned l.i (own_by l.task.locals) (map passed_by (drop l.i l.fn.caller.given)) (own_by l.callee) ≡ returned 0 (own_by l.fn.caller.locals) (map passed_by l.fn.caller.given) (own_by l.fn.task.locals))
    × (l.task.steps ≡ l.fn.task.steps)
    × (l.task.output ≡ l.fn.task.output)
