use Rattle.std.proofs.Common.{◌≡◌, ◌++◌, drop}
use Rattle.hv_await.specs.Ops as spec
use Rattle.hv_await.proofs.ops.again_ops.Given as goal

abbrev pub invariant-loop-op : goal.invariant-loop-op
invariant-loop-op l = l.plan ++ spec.again_ops (drop l.op-index l.ops) ≡ spec.again_ops l.ops
