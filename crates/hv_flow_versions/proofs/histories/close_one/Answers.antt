use Rattle.std.proofs.Common.{arith}
use Rattle.hv_flow_versions.specs.Histories.{close}
use Rattle.hv_flow_versions.proofs.Changes.{changed_by}
use Rattle.hv_flow_versions.proofs.histories.close_one.Goals as goal

pub returns-then-at-len : goal.returns-then-at-len
returns-then-at-len c = changed_by (close c.args.depth c.args.closing) _ _ _ _ c.index_mut-history.ensures.value c.close.ensures (omega (arith, c.if-at-len.true, c.len.ensures, c.args.list.now.ok.0))
