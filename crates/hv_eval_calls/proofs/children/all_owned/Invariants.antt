use Rattle.std.proofs.Common.{◌≡◌, map, drop}
use Rattle.hv_eval_state.specs.Gives.{from}
use Rattle.hv_eval_calls.specs.Passes.{passed_by}
use Rattle.hv_eval_calls.specs.Calling.{all_owned_in}
use Rattle.hv_eval_calls.proofs.children.all_owned.Given as goal

abbrev pub invariant-loop-i : goal.invariant-loop-i
invariant-loop-i g l = from (all_owned_in l.parts.level (drop l.i l.args) (drop l.i l.params) (map passed_by l.given)) l.used l.task ≡ from (all_owned_in l.parts.level l.args l.params (map passed_by l.fn.begun)) l.used l.fn.task
