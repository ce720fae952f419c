use Rattle.std.proofs.Common.{◌≡◌, ◌≤◌, ◌++◌, drop, take, vec_len}
use Rattle.hv_flow_versions.specs.Histories.{closed_all, kept_all}
use Rattle.hv_flow_versions.proofs.histories.end_all.Given as goal

abbrev pub invariant-loop-k : goal.invariant-loop-k
invariant-loop-k l = record {
  list : closed_all l.depth l.closing (drop l.k l.trail.items) l.list.items ≡ closed_all l.depth l.closing (drop l.from l.fn.trail.items) l.fn.list.items;
  trail : take l.kept l.trail.items ++ kept_all l.depth l.closing (drop l.k l.trail.items) l.list.items ≡ take l.from l.fn.trail.items ++ kept_all l.depth l.closing (drop l.from l.fn.trail.items) l.fn.list.items;
  same : vec_len l.trail ≡ vec_len l.fn.trail;
  low : l.kept ≤ l.k;
}
