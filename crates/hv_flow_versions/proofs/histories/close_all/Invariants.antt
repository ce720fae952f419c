use Rattle.std.proofs.Common.{◌≡◌, drop}
use Rattle.hv_flow_versions.specs.Histories.{closed_all}
use Rattle.hv_flow_versions.proofs.histories.close_all.Given as goal

abbrev pub invariant-loop-k : goal.invariant-loop-k
invariant-loop-k l = closed_all l.depth l.closing (drop l.k l.trail) l.list.items ≡ closed_all l.depth l.closing (drop l.from l.trail) l.fn.list.items
