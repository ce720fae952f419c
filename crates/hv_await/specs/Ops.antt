-- The plan of acts that finds handles that are awaited again, word by word of a body's plan of events.
use Rattle.std.specs.Prelude.{List, map}
use Rattle.hv_flow_pass.specs.declared.plan.PassOp.{PassOp}
use Rattle.hv_flow_pass.specs.declared.plan.PassOp.TheVariants as pass
use Rattle.hv_flow_plan.specs.declared.plan.FlowOp.{FlowOp}
use Rattle.hv_flow_plan.specs.declared.plan.FlowOp.TheVariants as op
use Rattle.hv_await.specs.Acts.{again_acts}

abbrev pub again_op : FlowOp → PassOp
again_op op.Skip = pass.Skip
again_op (op.Do e at) = pass.Do (again_acts e at)
again_op (op.Stop e at) = pass.Stop (again_acts e at)
again_op op.Then = pass.Then
again_op op.Either = pass.Either
again_op op.Loop = pass.Loop

abbrev pub again_ops : List FlowOp → List PassOp
again_ops ops = map again_op ops
