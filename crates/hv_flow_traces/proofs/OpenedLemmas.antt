-- The accesses that are open at an event are those that the text says.
use Rattle.std.proofs.Common.{◌≡◌, List, [], ◌∷◌, ◌++◌, refl, sym, ◌∙◌, ap, subst}
use Rattle.hv_tree.specs.Core.{Core}
use Rattle.hv_rules.specs.declared.event.FlowEvent.{FlowEvent}
use Rattle.hv_rules.specs.declared.event.FlowEvent.TheVariants as event
use Rattle.hv_rules.specs.Flow.{IsTrace}
use Rattle.hv_decls.specs.Locals.{CoreBody}
use Rattle.hv_rules.specs.Events.{Belongs, Mark, body_events}
use Rattle.hv_rules.specs.States.{Access, State, after_event, after_all, after, start, Open}
use Rattle.hv_rules.specs.Rules.{Trace}
use Rattle.hv_flow_traces.specs.Carried.{without, after_each, Carries}
use Rattle.hv_flow_traces.specs.Opened.{open_behind, opens, opened_at, IsOpenedAt}
use Rattle.hv_flow_traces.proofs.CarriedLemmas.{zipped, zipped-append, without_zipped, without-append, trace_zipped, trace_of}
use Rattle.hv_flow_traces.proofs.Levels.{body_steady}

pub event_opens : (e : FlowEvent) (of : Belongs) (s : State) → (after_event e of s).accesses ≡ open_behind e of s.accesses
event_opens event.Entry of s = refl
event_opens (event.Declare n) of s = refl
event_opens (event.Init p) of s = refl
event_opens (event.Use p) of s = refl
event_opens (event.Move p) of s = refl
event_opens (event.OpenRead p) of s = refl
event_opens (event.OpenWrite p) of s = refl
event_opens (event.OpenSet p) of s = refl
event_opens event.Close of s = refl
event_opens (event.Spawn h) of s = refl
event_opens (event.Await h) of s = refl
event_opens event.Return of s = refl
event_opens (event.ScopeEnd n) of s = refl

all_open : (ms : List Mark) (s : State) → (after_all ms s).accesses ≡ after_each opens ms s.accesses
all_open [] s = refl
all_open (m ∷ ms) s = all_open ms (after m s) ∙ ap (after_each opens ms) (event_opens m.event m.belongs s)

-- what the last of some events carries
last_carries : (ps : List (Mark × List Access)) (m : Mark) (xs bs : List Access) → Carries opens (ps ++ (m, xs) ∷ []) bs → xs ≡ after_each opens (without ps) bs
last_carries [] m xs bs c = c.0
last_carries (p ∷ ps) m xs bs c = last_carries ps m xs (opens p.0 bs) c.1

pub is_opened_at : (tree : Core) (body : CoreBody) → IsOpenedAt tree body
is_opened_at tree body = record { there = there; only = only }
  where
    there : (ms : List Mark) (m : Mark) → Trace tree body (ms ++ m ∷ []) → (ps : List (Mark × List Access)) × IsTrace (opened_at tree body) (ps ++ (m, Open ms) ∷ []) × (without ps ≡ ms)
    there ms m t = (
      zipped opens ms [],
      subst (λ w. IsTrace (opened_at tree body) w)
          (zipped-append opens ms (m ∷ []) [] ∙ ap (λ (xs : List Access). zipped opens ms [] ++ (m, xs) ∷ []) (sym (all_open ms start)))
          (trace_zipped opens (body_events tree body) [] (body_steady tree body) (ms ++ m ∷ []) t),
      without_zipped opens ms [],
    )

    only : (ps : List (Mark × List Access)) (m : Mark) (xs : List Access) → IsTrace (opened_at tree body) (ps ++ (m, xs) ∷ []) → Trace tree body (without ps ++ m ∷ []) × (xs ≡ Open (without ps))
    only ps m xs t =
        let p = trace_of opens (body_events tree body) [] (body_steady tree body) (ps ++ (m, xs) ∷ []) t in
        (subst (λ w. Trace tree body w) (without-append opens ps ((m, xs) ∷ [])) p.0, last_carries ps m xs [] p.1 ∙ sym (all_open (without ps) start))
