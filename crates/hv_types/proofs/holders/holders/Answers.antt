use Rattle.std.proofs.lemmas.Result.{IfOk-weaker}
use Rattle.hv_types.proofs.Graph.{holders_found}
use Rattle.hv_types.proofs.holders.holders.Goals as goal

pub returns : goal.returns
returns c = IfOk-weaker c.reached.result _ _ (λ found r. holders_found c.args.rows.now _ _ found c.in_ok-users.ensures c.in_ok-first.ensures r) c.reached.ensures
