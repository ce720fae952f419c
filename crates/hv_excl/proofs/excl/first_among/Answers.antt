use Rattle.std.proofs.Common.{arith}
use Rattle.hv_excl.proofs.Firsts.{turn, all_turns}
use Rattle.hv_excl.proofs.excl.first_among.Goals as goal

pub loop-planned-preserved : goal.loop-planned-preserved
loop-planned-preserved c = λ tree a.
    turn tree c.args.all.now c.loop-planned.planned-index c.planned-item.result c.loop-planned.first c.in_ok-other.other c.earlier-first.result c.loop-planned-test.true c.planned-item.is (c.loop-planned.invariant tree)
    (c.in_ok-other.ensures.first tree) c.earlier-first.ensures.first a

pub returns : goal.returns
returns c = record {
  first = λ tree a. all_turns tree c.args.all.now c.loop-planned.planned-index c.loop-planned.first (omega (arith, c.loop-planned-test.false)) (c.loop-planned.invariant tree a);
}
