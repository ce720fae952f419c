-- The acts of a plan spell what its body refuses.
use Rattle.std.proofs.Common.{◌≡◌, ℕ, List, [], ◌∷◌, ◌++◌, Option, None, refl, sym, ap, ◌∙◌, append_assoc, append-nil}
use Rattle.hv_tree.specs.Core.{Core, end_of}
use Rattle.hv_rules.specs.declared.event.FlowEvent.{FlowEvent}
use Rattle.hv_rules.specs.declared.event.FlowEvent.TheVariants as event
use Rattle.hv_rules.specs.Flow.{Skip, Do, Stop, Then, Either, Loop}
use Rattle.hv_decls.specs.Locals.{CoreBody}
use Rattle.hv_rules.specs.Events.{Belongs, Mark, Events, body_events}
use Rattle.hv_rules.specs.States.{Access, binding_of}
use Rattle.hv_flow_traces.specs.Mapped.{mapped}
use Rattle.hv_flow_traces.specs.Carried.{behind, Steady, carrying}
use Rattle.hv_flow_traces.specs.Opened.{opens}
use Rattle.hv_flow_traces.specs.Opened as marks
use Rattle.hv_flow_traces.proofs.Levels.{body_steady}
use Rattle.hv_flow_plan.specs.declared.plan.FlowOp.{FlowOp}
use Rattle.hv_flow_plan.specs.Spelling.{plan_of, entered, plan_of_body}
use Rattle.hv_flow_pass.specs.declared.act.Act.{Act}
use Rattle.hv_flow_pass.specs.declared.plan.PassOp.{PassOp}
use Rattle.hv_flow_pass.specs.declared.plan.PassOp.TheVariants as pass
use Rattle.hv_flow_pass.specs.Plans as passes
use Rattle.hv_excl.specs.Clashes.{open_behind, refused_at}
use Rattle.hv_excl.specs.Told.{declared_by, declared_next, told_by}
use Rattle.hv_excl.specs.Judged.{acts_of, judged}
use Rattle.hv_excl.proofs.Telling.{next_in, last_in, Tells, next_is, body_tells}
use Rattle.hv_excl.proofs.Refusing.{acts_at, refusing}

pub open_same : (e : FlowEvent) (of : Belongs) (xs : List Access) → open_behind e (binding_of of) xs ≡ marks.open_behind e of xs
open_same event.Entry of xs = refl
open_same (event.Declare n) of xs = refl
open_same (event.Init p) of xs = refl
open_same (event.Use p) of xs = refl
open_same (event.Move p) of xs = refl
open_same (event.OpenRead p) of xs = refl
open_same (event.OpenWrite p) of xs = refl
open_same (event.OpenSet p) of xs = refl
open_same event.Close of xs = refl
open_same (event.Spawn h) of xs = refl
open_same (event.Await h) of xs = refl
open_same event.Return of xs = refl
open_same (event.ScopeEnd n) of xs = refl

abbrev Accesses : Type 0
Accesses = List Access

-- the acts of a flow, where these accesses are open before it
abbrev acts_in : Events → Accesses → List PassOp
acts_in f xs = passes.plan_of (mapped acts_at (carrying opens f xs))

-- an event whose binding is told
event_judged : (m : Mark) (b last : Option ℕ) (xs : Accesses) (os : List FlowOp) (word : List Act → PassOp) → b ≡ binding_of m.belongs →
    word (acts_of (refused_at m.event b m.place xs)) ∷ judged last (open_behind m.event b xs) os ≡ word (acts_at (m, xs)) ∷ judged last (opens m xs) os
event_judged m b last xs os word e =
    ap (λ (c : Option ℕ). word (acts_of (refused_at m.event c m.place xs)) ∷ judged last (open_behind m.event c xs) os) e
    ∙ ap (λ (ys : Accesses). word (acts_at (m, xs)) ∷ judged last ys os) (open_same m.event m.belongs xs)

-- one part after the other
two : (a b : Events) (xs ys zs : Accesses) (os : List FlowOp) (us vs : List PassOp) →
    judged None xs (plan_of a ++ (plan_of b ++ os)) ≡ us ++ judged (last_in a) ys (plan_of b ++ os) →
    judged (last_in a) ys (plan_of b ++ os) ≡ vs ++ judged (last_in b) zs os →
    judged None xs ((plan_of a ++ plan_of b) ++ os) ≡ (us ++ vs) ++ judged (last_in b) zs os
two a b xs ys zs os us vs h g =
    ap (judged None xs) (append_assoc (plan_of a) (plan_of b) os) ∙ (h ∙ (ap (λ (w : List PassOp). us ++ w) g ∙ sym (append_assoc us vs (judged (last_in b) zs os))))

flow_judged : (f : Events) (before next : Option ℕ) (xs : Accesses) (os : List FlowOp) → Tells before next f → Steady opens f xs → declared_next os ≡ next →
    judged before xs (plan_of f ++ os) ≡ acts_in f xs ++ judged (last_in f) (behind opens f xs) os
flow_judged Skip before next xs os t s d = refl
flow_judged (Do m) before next xs os t s d = event_judged m (told_by before (declared_next os) m.event) (declared_by m.event) xs os pass.Do (ap (λ n. told_by before n m.event) d ∙ t)
flow_judged (Stop m) before next xs os t s d = event_judged m (told_by before (declared_next os) m.event) None xs os pass.Stop (ap (λ n. told_by before n m.event) d ∙ t)
flow_judged (Then a b) before next xs os t s d =
    ap (λ (w : List PassOp). pass.Then ∷ w)
    (two a b xs (behind opens a xs) (behind opens b (behind opens a xs)) os (acts_in a xs) (acts_in b (behind opens a xs))
    (flow_judged a None (next_in b) xs (plan_of b ++ os) t.0 s.0 (next_is b os)) (flow_judged b (last_in a) next (behind opens a xs) os t.1 s.1 d))
flow_judged (Either a b) before next xs os t s d =
    ap (λ (w : List PassOp). pass.Either ∷ w)
    (two a b xs xs xs os (acts_in a xs) (acts_in b xs)
    (flow_judged a None (next_in b) xs (plan_of b ++ os) t.0 s.0 (next_is b os) ∙ ap (λ (z : Accesses). acts_in a xs ++ judged (last_in a) z (plan_of b ++ os)) s.1)
    (flow_judged b (last_in a) next xs os t.1 s.2 d ∙ ap (λ (z : Accesses). acts_in b xs ++ judged (last_in b) z os) s.3))
flow_judged (Loop a) before next xs os t s d =
    ap (λ (w : List PassOp). pass.Loop ∷ w) (flow_judged a None next xs os t s.0 d ∙ ap (λ (z : Accesses). acts_in a xs ++ judged (last_in a) z os) s.1)

-- the acts of a whole body, whose entry has none
pub body_judged : (tree : Core) (body : CoreBody) → judged None [] (plan_of_body tree body) ≡ passes.plan_of (Then (Do []) (refusing tree body))
body_judged tree body =
    let f = entered (end_of body.block) (body_events tree body) in
    ap (judged None []) (sym (append-nil (plan_of f))) ∙ (flow_judged f None None [] [] (body_tells tree body) (tt, body_steady tree body) refl ∙ append-nil (acts_in f []))
