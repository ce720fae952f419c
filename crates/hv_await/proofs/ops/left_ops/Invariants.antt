use Rattle.std.proofs.Common.{◌≡◌, ◌++◌, drop}
use Rattle.hv_flow_ends.specs.Words.{words}
use Rattle.hv_await.specs.Acts.{left_acts}
use Rattle.hv_await.proofs.ops.left_ops.Given as goal

abbrev pub invariant-loop-op : goal.invariant-loop-op
invariant-loop-op l = l.plan ++ words left_acts (drop l.op-index l.ops) l.to_come ≡ words left_acts l.ops l.ends
