use Rattle.std.proofs.Common.{◌≡◌}
use Rattle.hv_flow_versions.specs.Levels.{set_level}
use Rattle.hv_flow_versions.proofs.versions.Versions.set.Given as goal

abbrev pub invariant-loop-k : goal.invariant-loop-k
invariant-loop-k l = l.self ≡ set_level l.value l.from l.k l.fn.self
