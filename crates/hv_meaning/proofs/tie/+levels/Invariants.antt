use Rattle.std.proofs.Common.{◌+◌, ◌*◌, ◌^◌}
use Rattle.hv_meaning.proofs.tie.+levels.Given as goal

abbrev pub decreases-eval_to : goal.decreases-eval_to
decreases-eval_to l = l.level.left * 2 ^ 64 + l.level.nesting

abbrev pub decreases-block_to : goal.decreases-block_to
decreases-block_to l = l.level.left * 2 ^ 64 + l.level.nesting

abbrev pub decreases-body_at : goal.decreases-body_at
decreases-body_at l = l.level.left * 2 ^ 64
