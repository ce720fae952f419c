use Rattle.std.proofs.Common.{subst}
use Rattle.hv_sem_copying.specs.Operations.{applied}
use Rattle.hv_partial.specs.HeldTree.{held_tree}
use Rattle.hv_eval_state.specs.Gives.{Gives, from}
use Rattle.hv_eval_state.proofs.compute.binary.Goals as goal

pub returns : goal.returns
returns c = λ n. subst (λ g. Gives held_tree (from (applied c.args.at g) n c.args.task.now) c.given.result c.args.task.now) c.binary.ensures (c.given.ensures n)
