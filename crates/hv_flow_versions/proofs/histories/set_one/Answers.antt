use Rattle.std.proofs.Common.{arith}
use Rattle.hv_flow_versions.specs.Histories.{set_history}
use Rattle.hv_flow_versions.proofs.Changes.{changed_by}
use Rattle.hv_flow_versions.proofs.histories.set_one.Goals as goal

pub returns-in_ok-set-clause-ok : goal.returns-in_ok-set-clause-ok
returns-in_ok-set-clause-ok c = changed_by (set_history c.args.site c.args.value) _ _ _ _ c.index_mut-history.ensures.value c.in_ok-set.ensures.ok (omega (arith, c.if-at-len.true, c.len.ensures, c.args.list.now.ok.0))
