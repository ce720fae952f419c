-- A plan of acts, word by word of a body's plan of events, where the ends are handed to the events one by one.
use Rattle.std.specs.Prelude.{◌≡◌, Bool, true, false, if◌then◌else◌, List, [], ◌∷◌, drop}
use Rattle.hv_tree.specs.declared.place.Place.{Place}
use Rattle.hv_rules.specs.declared.event.FlowEvent.{FlowEvent}
use Rattle.hv_flow_pass.specs.declared.act.Act.{Act}
use Rattle.hv_flow_pass.specs.declared.plan.PassOp.{PassOp}
use Rattle.hv_flow_pass.specs.declared.plan.PassOp.TheVariants as pass
use Rattle.hv_flow_plan.specs.declared.plan.FlowOp.{FlowOp}
use Rattle.hv_flow_plan.specs.declared.plan.FlowOp.TheVariants as op
use Rattle.hv_flow_ends.specs.declared.span.End.{End}
use Rattle.hv_flow_ends.specs.Ends.{is_end}

-- the acts of an event, by its place and the ends that are to come
abbrev pub Acts : Type 0
Acts = FlowEvent → Place → List End → List Act

-- an end's acts are told by the next end, those of another event by none
pub record IsLocal (acts : Acts) : Type 0 where
  pub other : (e : FlowEvent) (at : Place) (to_come : List End) → is_end e ≡ false → acts e at to_come ≡ acts e at []
  pub ended : (e : FlowEvent) (at : Place) (end : End) (to_come : List End) → is_end e ≡ true → acts e at (end ∷ to_come) ≡ acts e at (end ∷ [])

-- the ends that are to come behind an event
abbrev pub ends_after : FlowEvent → List End → List End
ends_after e ends = if is_end e then drop 1 ends else ends

-- behind a word
abbrev pub ends_behind : FlowOp → List End → List End
ends_behind op.Skip ends = ends
ends_behind (op.Do e at) ends = ends_after e ends
ends_behind (op.Stop e at) ends = ends_after e ends
ends_behind op.Then ends = ends
ends_behind op.Either ends = ends
ends_behind op.Loop ends = ends

-- a word, where these ends are to come
abbrev pub word : Acts → FlowOp → List End → PassOp
word acts op.Skip ends = pass.Skip
word acts (op.Do e at) ends = pass.Do (acts e at ends)
word acts (op.Stop e at) ends = pass.Stop (acts e at ends)
word acts op.Then ends = pass.Then
word acts op.Either ends = pass.Either
word acts op.Loop ends = pass.Loop

abbrev pub words : Acts → List FlowOp → List End → List PassOp
words acts [] ends = []
words acts (o ∷ ops) ends = word acts o ends ∷ words acts ops (ends_behind o ends)
