use Rattle.std.proofs.Common.{◌≡◌, drop}
use Rattle.hv_flow.specs.Graphs.{linked}
use Rattle.hv_flow.proofs.build.link.Given as goal

abbrev pub invariant-loop-k : goal.invariant-loop-k
invariant-loop-k l = linked (drop l.k-index l.from) l.to l.nodes ≡ linked l.from l.to l.fn.nodes
