-- The graph of a plan is that of its body.
use Rattle.std.proofs.Common.{◌≡◌, List, Result, Ok, Err, IfOk, Some}
use Rattle.hv_tree.specs.declared.place.Place.{Place}
use Rattle.hv_tree.specs.Core.{Core, end_of}
use Rattle.hv_decls.specs.Locals.{CoreBody}
use Rattle.hv_rules.specs.Events.{Events, body_events}
use Rattle.hv_flow_plan.specs.declared.plan.FlowOp.{FlowOp}
use Rattle.hv_flow_plan.specs.Spelling.{entered, plan_of, plan_of_body}
use Rattle.hv_flow.specs.declared.nodes.FlowGraph.{FlowGraph}
use Rattle.hv_flow.specs.Walks.{EndsAlone, EntersNowhere, EntersOnce, IsGraph, IsGraphOf}
use Rattle.hv_flow.proofs.Quiet.{body_enters_nowhere}

pub both : {E : Type 0} (tree : Core) (body : CoreBody) (r : Result FlowGraph E) (plan : List FlowOp) → plan ≡ plan_of_body tree body →
    IfOk r (λ g. (at : Place) (f : Events) → plan ≡ plan_of (entered at f) → EndsAlone f → IsGraph at f g.nodes) →
    IfOk r (λ g. (at : Place) (f : Events) → plan ≡ plan_of (entered at f) → EntersNowhere f → EntersOnce g.nodes) →
    IfOk r (λ g. IsGraphOf tree (Some body) g.nodes)
both tree body (Ok g) plan e h k =
    (h (end_of body.block) (body_events tree body) e tt, k (end_of body.block) (body_events tree body) e (body_enters_nowhere tree body))
both tree body (Err x) plan e h k = h
