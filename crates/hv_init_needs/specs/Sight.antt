-- Which locals the text of a body shows to have a value from their declaration on.
use Rattle.std.specs.Prelude.{ℕ, nat_lt, List, [], ◌∷◌, ◌++◌, filter, Option, Some, None}
use Rattle.hv_tree.specs.Core.{Core}
use Rattle.hv_decls.specs.declared.path.StaticStep.{StaticStep}
use Rattle.hv_decls.specs.declared.path.StaticPath.{StaticPath}
use Rattle.hv_rules.specs.declared.event.FlowEvent.{FlowEvent}
use Rattle.hv_rules.specs.declared.event.FlowEvent.TheVariants as event
use Rattle.hv_rules.specs.Flow.{Flow, Skip, Do, Stop, Then, Either, Loop}
use Rattle.hv_decls.specs.Locals.{CoreBody}
use Rattle.hv_rules.specs.Events.{Mark, body_events}
use Rattle.hv_rules.specs.States.{binding_of}
use Rattle.hv_flow_traces.specs.Carried.{carrying}

-- ---- one event

-- the locals that are declared before this one
abbrev pub declared_before : ℕ → List ℕ → List ℕ
declared_before n ks = filter (λ k. nat_lt k n) ks

-- a local comes into sight where all of it gets a value
abbrev pub with_whole : List StaticStep → ℕ → List ℕ → List ℕ
with_whole [] n ks = n ∷ declared_before n ks
with_whole (s ∷ steps) n ks = ks

-- by its declaration
abbrev pub with_value : Option ℕ → StaticPath → List ℕ → List ℕ
with_value None p ks = ks
with_value (Some n) p ks = with_whole p.steps p.root ks

-- what is in sight behind an event that belongs to this declaration, or to none; the newest first
abbrev pub sight_behind : FlowEvent → Option ℕ → List ℕ → List ℕ
sight_behind event.Entry of ks = ks
sight_behind (event.Declare n) of ks = declared_before n ks
sight_behind (event.Init p) of ks = with_value of p ks
sight_behind (event.Use p) of ks = ks
sight_behind (event.Move p) of ks = ks
sight_behind (event.OpenRead p) of ks = ks
sight_behind (event.OpenWrite p) of ks = ks
sight_behind (event.OpenSet p) of ks = ks
sight_behind event.Close of ks = ks
sight_behind (event.Spawn h) of ks = ks
sight_behind (event.Await h) of ks = ks
sight_behind event.Return of ks = ks
sight_behind (event.ScopeEnd n) of ks = declared_before n ks

abbrev pub sees : Mark → List ℕ → List ℕ
sees m ks = sight_behind m.event (binding_of m.belongs) ks

-- ---- a text

-- the events of a flow as they are written
abbrev pub text_of : {E : Type 0} → Flow E → List E
text_of Skip = []
text_of (Do e) = e ∷ []
text_of (Stop e) = e ∷ []
text_of (Then a b) = text_of a ++ text_of b
text_of (Either a b) = text_of a ++ text_of b
text_of (Loop a) = text_of a

-- an event, the declaration that it belongs to, and what is in sight there
pub record Seen : Type 0 where
  pub event : FlowEvent
  pub declaration : Option ℕ
  pub sight : List ℕ

abbrev pub seen_at : Mark × List ℕ → Seen
seen_at p = record { event = p.0.event; declaration = binding_of p.0.belongs; sight = p.1 }

-- those of a body
abbrev pub seen_in : Core → CoreBody → Flow (Mark × List ℕ)
seen_in tree body = carrying sees (body_events tree body) []
