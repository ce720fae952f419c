-- Walks through a graph, and the graph of a body.
use Rattle.std.specs.Prelude.{◌≡◌, ◌≢◌, ◌↔◌, ℕ, List, [], ◌∷◌, ◌++◌, map, Option, Some, None}
use Rattle.hv_tree.specs.declared.place.Place.{Place}
use Rattle.hv_rules.specs.declared.event.FlowEvent.TheVariants as event
use Rattle.hv_rules.specs.Flow.{Flow, Skip, Do, Stop, Then, Either, Loop, IsWhole, IsTrace}
use Rattle.hv_tree.specs.Core.{Core, end_of}
use Rattle.hv_decls.specs.Locals.{CoreBody}
use Rattle.hv_rules.specs.Events.{Mark, Events, body_events}
use Rattle.hv_flow.specs.declared.nodes.Node.{Node}
use Rattle.hv_flow.specs.Acts.{Act, act_of}
use Rattle.hv_flow.specs.Graphs.{next_of, Edge, ActAt}

-- a walk from the one node to the other, with the acts on it
pub data Walk (ns : List Node) : ℕ → List Act → ℕ → Type 0 where
  here : {i : ℕ} {e : Act} → ActAt ns i e → Walk ns i (e ∷ []) i
  step : {i m j : ℕ} {e : Act} {es : List Act} → ActAt ns i e → Edge ns i m → Walk ns m es j → Walk ns i (e ∷ es) j

-- a walk from the first node to one without a successor
pub record IsFullWalk (ns : List Node) (es : List Act) : Type 0 where
  pub to : ℕ
  pub walk : Walk ns 0 es to
  pub ends : next_of ns to ≡ []

-- the entry of a body, at this place
abbrev pub entry : Place → Act
entry at = record { event = event.Entry; place = at }

-- what is walked after the entry is a whole trace
pub record Traces (at : Place) (f : Events) (es : List Act) : Type 0 where
  pub trace : List Mark
  pub whole : IsWhole f trace
  pub same : es ≡ entry at ∷ map act_of trace

-- a trace, whole or cut anywhere, is the front of such a walk
pub record Walked (at : Place) (ns : List Node) (trace : List Mark) : Type 0 where
  pub rest : List Act
  pub walk : IsFullWalk ns (entry at ∷ (map act_of trace ++ rest))

-- The full walks are the entry and then the whole traces, all of them and nothing else; each trace that is cut is the front of one.
pub record IsGraph (at : Place) (f : Events) (ns : List Node) : Type 0 where
  pub walks : (es : List Act) → IsFullWalk ns es ↔ Traces at f es
  pub cut : (trace : List Mark) → IsTrace f trace → Walked at ns trace

-- an event stands at the end of the flow, and nowhere else does the flow end
abbrev pub EndsAlone : {E : Type 0} → Flow E → Type 0
EndsAlone Skip = ⊥
EndsAlone (Do e) = Unit {0}
EndsAlone (Stop e) = ⊥
EndsAlone (Then a b) = EndsAlone b
EndsAlone (Either a b) = ⊥
EndsAlone (Loop a) = ⊥

-- no event of the flow is an entry
abbrev pub EntersNowhere : Events → Type 0
EntersNowhere Skip = Unit {0}
EntersNowhere (Do m) = m.event ≢ event.Entry
EntersNowhere (Stop m) = m.event ≢ event.Entry
EntersNowhere (Then a b) = EntersNowhere a × EntersNowhere b
EntersNowhere (Either a b) = EntersNowhere a × EntersNowhere b
EntersNowhere (Loop a) = EntersNowhere a

-- an entry stands at the first node and nowhere else
abbrev pub EntersOnce : List Node → Type 0
EntersOnce ns = (i : ℕ) (e : Act) → ActAt ns i e → (e.event ≡ event.Entry) ↔ (i ≡ 0)

-- The graph of a body, where there is one: its entry stands at the `}`. Of no body it has no nodes.
abbrev pub IsGraphOf : Core → Option CoreBody → List Node → Type 0
IsGraphOf tree None ns = ns ≡ []
IsGraphOf tree (Some body) ns = IsGraph (end_of body.block) (body_events tree body) ns × EntersOnce ns
