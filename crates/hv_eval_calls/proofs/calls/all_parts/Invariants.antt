use Rattle.std.proofs.Common.{◌≡◌, [], drop}
use Rattle.hv_eval_state.specs.Gives.{from}
use Rattle.hv_eval_calls.specs.Calling.{parts_in, trees_of}
use Rattle.hv_eval_calls.proofs.calls.all_parts.Given as goal

abbrev pub invariant-loop-arg : goal.invariant-loop-arg
invariant-loop-arg g l = from (parts_in l.parts.level (trees_of l.values) (drop l.arg-index l.args)) l.used l.task ≡ from (parts_in l.parts.level [] l.args) l.used l.fn.task
