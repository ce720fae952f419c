-- The plans of all bodies of a program.
use Rattle.std.specs.Prelude.{List, map}
use Rattle.hv_tree.specs.Core.{Core}
use Rattle.hv_decls.specs.Locals.{CoreBody}
use Rattle.hv_decls.specs.Sites.{bodies_of}
use Rattle.hv_scope.specs.Bodies.{body_by}
use Rattle.hv_flow_plan.specs.declared.plan.FlowOp.{FlowOp}
use Rattle.hv_flow_plan.specs.declared.body.Planned.{Planned}
use Rattle.hv_flow_plan.specs.Spelling.{plan_of_body}

-- a body with its plan
abbrev pub planned_by : Planned → CoreBody × List FlowOp
planned_by p = (body_by p.body, p.plan)

abbrev pub planned : Core → CoreBody → CoreBody × List FlowOp
planned tree body = (body, plan_of_body tree body)

-- each body with its plan, in the order of the opening braces
abbrev pub all_planned : Core → List (CoreBody × List FlowOp)
all_planned tree = map (planned tree) (bodies_of tree)
