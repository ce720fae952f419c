use Rattle.std.proofs.Common.{◌≡◌, drop}
use Rattle.hv_flow_pass.specs.Passes.{plan_end}
use Rattle.hv_flow_pass.proofs.count.count_cells.Given as goal

abbrev pub invariant-loop-op : goal.invariant-loop-op
invariant-loop-op l = plan_end l.most (drop l.op-index l.plan) ≡ plan_end 0 l.plan
