use Rattle.std.proofs.Common.{◌≡◌, ℕ, [], drop}
use Rattle.hv_eval_state.specs.Gives.{from}
use Rattle.hv_eval_operands.specs.Operands.{trees, captured_in}
use Rattle.hv_eval_operands.proofs.closures.captured.Given as goal

abbrev pub invariant-loop-name : goal.invariant-loop-name
invariant-loop-name l = (n : ℕ) → from (captured_in l.level [] l.names) n l.fn.task ≡ from (captured_in l.level (trees l.captures) (drop l.name-index l.names)) n l.task
