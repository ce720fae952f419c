use Rattle.hv_eval_blocks.proofs.BlockLemmas.{paid_by}
use Rattle.hv_eval_blocks.proofs.stmts.Stmts.paid.Goals as goal

pub returns : goal.returns
returns g c = paid_by c.args.self.now.parts.level c.args.stmt.now c.args.used c.args.task.now c.pay.new.task c.statement.new.task c.statement.result (c.in_ok-pay.ensures c.args.used) c.statement.ensures
