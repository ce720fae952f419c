use Rattle.std.proofs.Common.{◌≡◌, ℕ, map, drop}
use Rattle.hv_eval_state.specs.Gives.{from}
use Rattle.hv_eval_state.specs.Opened.{last_first}
use Rattle.hv_eval_calls.specs.Passes.{passed_by}
use Rattle.hv_eval_calls.specs.Calling.{args_in}
use Rattle.hv_eval_calls.proofs.args.all_given.Given as goal

abbrev pub invariant-loop-i : goal.invariant-loop-i
invariant-loop-i g l = (n : ℕ) → from (args_in l.parts.level (drop l.i l.args) (drop l.i l.params) l.given.used (map passed_by l.given.passed) (last_first l.given.opens.items)) n l.task ≡ from (args_in l.parts.level l.args l.params l.fn.given.used (map passed_by l.fn.given.passed) (last_first l.fn.given.opens.items)) n l.fn.task
