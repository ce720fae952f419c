use Rattle.std.proofs.Common.{◌≡◌, replicate}
use Rattle.hv_flow_versions.specs.Histories.{first_history}
use Rattle.hv_flow_versions.proofs.histories.start.Given as goal

abbrev pub invariant-loop-k : goal.invariant-loop-k
invariant-loop-k l = l.all.items ≡ replicate l._k first_history
