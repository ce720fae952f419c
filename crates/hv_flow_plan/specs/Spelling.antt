-- A flow as it is written down: each event with its place.
use Rattle.std.specs.Prelude.{List, [], ◌∷◌, ◌++◌}
use Rattle.hv_tree.specs.declared.place.Place.{Place}
use Rattle.hv_tree.specs.Core.{Core, end_of}
use Rattle.hv_rules.specs.declared.event.FlowEvent.TheVariants as event
use Rattle.hv_rules.specs.Flow.{Skip, Do, Stop, Then, Either, Loop}
use Rattle.hv_decls.specs.Locals.{CoreBody}
use Rattle.hv_rules.specs.Events.{Events, mark, body_events}
use Rattle.hv_flow_plan.specs.declared.plan.FlowOp.{FlowOp}
use Rattle.hv_flow_plan.specs.declared.plan.FlowOp.TheVariants as op

-- a flow written down, each operator before its parts
abbrev pub plan_of : Events → List FlowOp
plan_of Skip = op.Skip ∷ []
plan_of (Do m) = op.Do m.event m.place ∷ []
plan_of (Stop m) = op.Stop m.event m.place ∷ []
plan_of (Then a b) = op.Then ∷ (plan_of a ++ plan_of b)
plan_of (Either a b) = op.Either ∷ (plan_of a ++ plan_of b)
plan_of (Loop a) = op.Loop ∷ plan_of a

-- what a body does, after its entry
abbrev pub entered : Place → Events → Events
entered at f = Then (Do (mark event.Entry at)) f

-- the plan of a body: its entry, which stands at the `}`, and what it does
abbrev pub plan_of_body : Core → CoreBody → List FlowOp
plan_of_body tree body = plan_of (entered (end_of body.block) (body_events tree body))
