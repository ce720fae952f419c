use Rattle.std.proofs.Common.{refl}
use Rattle.hv_sem_copying.specs.Operations.{applied}
use Rattle.hv_value.specs.Operators.{unary}
use Rattle.hv_partial.specs.HeldTree.{held_tree}
use Rattle.hv_eval_env.specs.Level.{value_in}
use Rattle.hv_eval_operands.specs.Operands.{prefix_in}
use Rattle.hv_eval_operands.proofs.Runs.{hands_on}
use Rattle.hv_eval_operands.proofs.chains.prefix.Goals as goal

pub returns : goal.returns
returns g c =
    let l = c.args.parts.now.level in
    hands_on (value_in l c.args.operand.now) (λ w. applied c.args.at (unary c.args.operator w)) (prefix_in l c.args.at c.args.operator c.args.operand.now) (prefix_in l c.args.at c.args.operator c.args.operand.now) c.args.used c.args.task.now c.args.task.now c.eval.new.task
    refl refl (held_tree c.in_ok-held.held) c.in_ok-held.ensures held_tree c.unary.result c.eval.new.task (c.unary.ensures c.args.used)
