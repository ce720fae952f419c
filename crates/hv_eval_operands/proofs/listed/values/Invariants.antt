use Rattle.std.proofs.Common.{◌≡◌, [], drop}
use Rattle.hv_eval_state.specs.Gives.{from}
use Rattle.hv_eval_operands.specs.Operands.{trees, values_in}
use Rattle.hv_eval_operands.proofs.listed.values.Given as goal

abbrev pub invariant-loop-x : goal.invariant-loop-x
invariant-loop-x g l = from (values_in l.parts.level [] l.xs) l.used l.fn.task ≡ from (values_in l.parts.level (trees l.values) (drop l.x-index l.xs)) l.used l.task
