-- The words of a body's plan tell what the text of the body shows.
use Rattle.std.proofs.Common.{◌≡◌, ◌<◌, ℕ, length, get_or, replicate, Bool, false, List, [], ◌∷◌, ◌++◌, map, Option, None, refl, sym, ap, ◌∙◌, append_assoc, append-nil}
use Rattle.std.proofs.lemmas.List.{map-append, length-map}
use Rattle.hv_tree.specs.Core.{Core, end_of}
use Rattle.hv_rules.specs.declared.event.FlowEvent.TheVariants as event
use Rattle.hv_rules.specs.Flow.{Flow, Skip, Do, Stop, Then, Either, Loop}
use Rattle.hv_decls.specs.Locals.{CoreBody}
use Rattle.hv_rules.specs.Events.{Mark, Events, body_events}
use Rattle.hv_rules.specs.States.{binding_of}
use Rattle.hv_flow_traces.specs.Carried.{behind, Steady, carrying}
use Rattle.hv_flow_plan.specs.declared.plan.FlowOp.{FlowOp}
use Rattle.hv_flow_plan.specs.Spelling.{plan_of, entered, plan_of_body}
use Rattle.hv_excl.specs.Told.{declared_by, declared_next, told_by}
use Rattle.hv_excl.proofs.Telling.{next_in, last_in, Tells, next_is, body_tells}
use Rattle.hv_init_needs.specs.Sight.{sight_behind, sees, text_of, Seen, seen_at}
use Rattle.hv_init_needs.specs.Needs.{text_in, needs_state, needs_state_in}
use Rattle.hv_init_needs.specs.declared.standing.Standing.{Standing}
use Rattle.hv_init_needs.specs.declared.standing.Standing.TheVariants.{Unfilled}
use Rattle.hv_init_needs.specs.Standings.{marked_by, needs}
use Rattle.hv_init_needs.specs.Words.{seen_words}
use Rattle.hv_init_needs.proofs.SightLevels.{body_level}
use Rattle.hv_init_needs.proofs.Settling.{settled, settled_length}

abbrev Sights : Type 0
Sights = List ℕ

-- the text of a flow, where this is in sight before it
abbrev text_from : Events → Sights → List Seen
text_from f ks = map seen_at (text_of (carrying sees f ks))

-- an event whose declaration is told
event_seen : (m : Mark) (b last : Option ℕ) (ks : Sights) (os : List FlowOp) → b ≡ binding_of m.belongs →
    record { event = m.event; declaration = b; sight = ks } ∷ seen_words last (sight_behind m.event b ks) os ≡ seen_at (m, ks) ∷ seen_words last (sees m ks) os
event_seen m b last ks os e = ap (λ (c : Option ℕ). record { event = m.event; declaration = c; sight = ks } ∷ seen_words last (sight_behind m.event c ks) os) e

-- one part after the other
two : (a b : Events) (ks ls ms : Sights) (os : List FlowOp) (us vs : Flow (Mark × Sights)) →
    seen_words None ks (plan_of a ++ (plan_of b ++ os)) ≡ map seen_at (text_of us) ++ seen_words (last_in a) ls (plan_of b ++ os) →
    seen_words (last_in a) ls (plan_of b ++ os) ≡ map seen_at (text_of vs) ++ seen_words (last_in b) ms os →
    seen_words None ks ((plan_of a ++ plan_of b) ++ os) ≡ map seen_at (text_of us ++ text_of vs) ++ seen_words (last_in b) ms os
two a b ks ls ms os us vs h g =
    let more = seen_words (last_in b) ms os in
    ap (seen_words None ks) (append_assoc (plan_of a) (plan_of b) os)
    ∙ (h
    ∙ (ap (λ (w : List Seen). map seen_at (text_of us) ++ w) g
    ∙ (sym (append_assoc (map seen_at (text_of us)) (map seen_at (text_of vs)) more) ∙ ap (λ (w : List Seen). w ++ more) (sym (map-append seen_at (text_of us) (text_of vs))))))

flow_seen : (f : Events) (before next : Option ℕ) (ks : Sights) (os : List FlowOp) → Tells before next f → Steady sees f ks → declared_next os ≡ next →
    seen_words before ks (plan_of f ++ os) ≡ text_from f ks ++ seen_words (last_in f) (behind sees f ks) os
flow_seen Skip before next ks os t s d = refl
flow_seen (Do m) before next ks os t s d = event_seen m (told_by before (declared_next os) m.event) (declared_by m.event) ks os (ap (λ n. told_by before n m.event) d ∙ t)
flow_seen (Stop m) before next ks os t s d = event_seen m (told_by before (declared_next os) m.event) None ks os (ap (λ n. told_by before n m.event) d ∙ t)
flow_seen (Then a b) before next ks os t s d =
    two a b ks (behind sees a ks) (behind sees b (behind sees a ks)) os (carrying sees a ks) (carrying sees b (behind sees a ks))
    (flow_seen a None (next_in b) ks (plan_of b ++ os) t.0 s.0 (next_is b os)) (flow_seen b (last_in a) next (behind sees a ks) os t.1 s.1 d)
flow_seen (Either a b) before next ks os t s d =
    two a b ks ks ks os (carrying sees a ks) (carrying sees b ks)
    (flow_seen a None (next_in b) ks (plan_of b ++ os) t.0 s.0 (next_is b os) ∙ ap (λ (z : Sights). text_from a ks ++ seen_words (last_in a) z (plan_of b ++ os)) s.1)
    (flow_seen b (last_in a) next ks os t.1 s.2 d ∙ ap (λ (z : Sights). text_from b ks ++ seen_words (last_in b) z os) s.3)
flow_seen (Loop a) before next ks os t s d = flow_seen a None next ks os t s.0 d ∙ ap (λ (z : Sights). text_from a ks ++ seen_words (last_in a) z os) s.1

-- the text of a whole body, behind its entry
pub body_seen : (tree : Core) (body : CoreBody) → seen_words None [] (plan_of_body tree body) ≡ record { event = event.Entry; declaration = None; sight = [] } ∷ text_in tree body
body_seen tree body =
    let f = entered (end_of body.block) (body_events tree body) in
    ap (seen_words None []) (sym (append-nil (plan_of f))) ∙ (flow_seen f None None [] [] (body_tells tree body) (tt, body_level tree body) refl ∙ append-nil (text_from f []))

-- the entry changes nothing
pub body_needs : (tree : Core) (body : CoreBody) (plan : List FlowOp) (k : ℕ) → plan ≡ plan_of_body tree body → needs_state_in (seen_words None [] plan) k ≡ needs_state tree body k
body_needs tree body plan k e = ap (λ (text : List Seen). needs_state_in text k) (ap (seen_words None []) e ∙ body_seen tree body)

-- ---- all locals

abbrev Standings : Type 0
Standings = List Standing

pub locals_count : (flags : List Bool) (all slice : Standings) (plan : List FlowOp) (count : ℕ) → all ≡ marked_by (seen_words None [] plan) (replicate count Unfilled) → slice ≡ all → flags ≡ map needs slice → length flags ≡ count
locals_count flags all slice plan count a s f =
    ap length (f ∙ ap (map needs) (s ∙ a)) ∙ (length-map (marked_by (seen_words None [] plan) (replicate count Unfilled)) needs ∙ settled_length (seen_words None [] plan) count)

pub locals_exact : (flags : List Bool) (all slice : Standings) (plan : List FlowOp) (count : ℕ) → all ≡ marked_by (seen_words None [] plan) (replicate count Unfilled) → slice ≡ all → flags ≡ map needs slice →
    (tree : Core) (body : CoreBody) → plan ≡ plan_of_body tree body → (k : ℕ) → k < count → get_or flags k false ≡ needs_state tree body k
locals_exact flags all slice plan count a s f tree body e k l =
    ap (λ (bs : List Bool). get_or bs k false) (f ∙ ap (map needs) (s ∙ a)) ∙ (settled (seen_words None [] plan) count k l ∙ body_needs tree body plan k e)
