use Rattle.std.proofs.Common.{arith}
use Rattle.hv_tree.proofs.Orders.{turn, at_end}
use Rattle.hv_tree.proofs.least.first.Goals as goal

pub loop-refusal-preserved : goal.loop-refusal-preserved
loop-refusal-preserved c = turn c.args.found.now c.loop-refusal.refusal-index _ c.loop-refusal.best c.earlier-best.result c.loop-refusal-test.true c.loop-refusal.invariant c.earlier-best.ensures.first

pub returns : goal.returns
returns c = at_end c.args.found.now c.loop-refusal.refusal-index c.loop-refusal.best (omega (arith, c.loop-refusal-test.false)) c.loop-refusal.invariant
