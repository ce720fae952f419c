use Rattle.hv_lemmas.proofs.Lists.{extended}
use Rattle.hv_type_judge.proofs.Args.{next_t6}
use Rattle.hv_type_judge.proofs.calls.check_lents.Goals as goal

pub loop-arg-preserved : goal.loop-arg-preserved
loop-arg-preserved c =
    extended c.loop-arg.found.items c.check_lent.new.found.items _ _ _ _ c.in_ok-check_lent.ensures
    (next_t6 c.args.around.now c.args.args.now c.loop-arg.arg-index c.arg-item.result c.loop-arg-test.true c.arg-item.is) c.loop-arg.invariant
