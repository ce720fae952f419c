-- What a graph shows of a body's events: each event and its place.
use Rattle.hv_tree.specs.declared.place.Place.{Place}
use Rattle.hv_rules.specs.declared.event.FlowEvent.{FlowEvent}
use Rattle.hv_rules.specs.Flow.{Flow, Skip, Do, Stop, Then, Either, Loop}
use Rattle.hv_rules.specs.Events.{Mark, Events}

-- an event at its place
pub record Act : Type 0 where
  pub event : FlowEvent
  pub place : Place

-- a mark without what it belongs to
abbrev pub act_of : Mark → Act
act_of m = record { event = m.event; place = m.place }

-- a flow with its marks as acts
abbrev pub acts_of : Events → Flow Act
acts_of Skip = Skip
acts_of (Do m) = Do (act_of m)
acts_of (Stop m) = Stop (act_of m)
acts_of (Then a b) = Then (acts_of a) (acts_of b)
acts_of (Either a b) = Either (acts_of a) (acts_of b)
acts_of (Loop a) = Loop (acts_of a)
