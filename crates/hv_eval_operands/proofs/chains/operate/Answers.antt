use Rattle.std.proofs.Common.{refl}
use Rattle.hv_sem_copying.specs.Operations.{applied}
use Rattle.hv_value.specs.Operators.{binary}
use Rattle.hv_partial.specs.HeldTree.{held_tree}
use Rattle.hv_eval_env.specs.Level.{value_in}
use Rattle.hv_eval_operands.specs.Operands.{operated}
use Rattle.hv_eval_operands.proofs.Runs.{hands_on}
use Rattle.hv_eval_operands.proofs.chains.operate.Goals as goal

pub returns : goal.returns
returns g c =
    let l = c.args.parts.now.level in
    let link = c.args.link.now in
    let left = held_tree c.args.left.now in
    hands_on (value_in l link.2) (λ w. applied link.1 (binary link.0 left w)) (operated l left link) (operated l left link) c.args.used c.args.task.now c.args.task.now c.eval.new.task
    refl refl (held_tree c.in_ok-right.right) c.in_ok-right.ensures held_tree c.binary.result c.eval.new.task (c.binary.ensures c.args.used)
