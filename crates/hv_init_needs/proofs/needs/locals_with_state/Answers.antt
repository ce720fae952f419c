use Rattle.hv_init_needs.proofs.Telling.{locals_count, locals_exact}
use Rattle.hv_init_needs.proofs.needs.locals_with_state.Goals as goal

pub returns : goal.returns
returns c = record {
  count = locals_count c.in_ok-flags.flags c.in_ok-all.all c.as_slice.result.now c.args.plan.now c.args.count c.in_ok-all.ensures c.as_slice.ensures c.in_ok-flags.ensures;
  exact = locals_exact c.in_ok-flags.flags c.in_ok-all.all c.as_slice.result.now c.args.plan.now c.args.count c.in_ok-all.ensures c.as_slice.ensures c.in_ok-flags.ensures;
}
