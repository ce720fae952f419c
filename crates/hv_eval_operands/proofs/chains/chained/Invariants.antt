use Rattle.std.proofs.Common.{◌≡◌, drop}
use Rattle.hv_partial.specs.HeldTree.{held_tree}
use Rattle.hv_eval_state.specs.Gives.{from}
use Rattle.hv_eval_operands.specs.Operands.{chained_in}
use Rattle.hv_eval_operands.proofs.chains.chained.Given as goal

abbrev pub invariant-loop-link : goal.invariant-loop-link
invariant-loop-link g l = from (chained_in l.parts.level l.links (held_tree l.fn.first)) l.used l.fn.task ≡ from (chained_in l.parts.level (drop l.link-index l.links) (held_tree l.held)) l.used l.task
