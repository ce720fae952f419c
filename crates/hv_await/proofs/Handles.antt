-- What a body's acts on the cells of its handles refuse is what violates the rules on handles.
use Rattle.std.proofs.Common.{◌≡◌, inl, inr, ℕ, Bool, true, false, List, [], ◌∷◌, ◌++◌, map, Contains, refl, sym, ap, subst, ◌∙◌, if◌then◌else◌, drop, Option}
use Rattle.hv_tree.specs.declared.place.Place.{Place}
use Rattle.hv_tree.specs.declared.refusal.Rule.{Rule}
use Rattle.hv_tree.specs.declared.refusal.Rule.TheVariants as rule
use Rattle.hv_tree.specs.declared.refusal.Refusal.{Refusal}
use Rattle.hv_tree.specs.Core.{Core}
use Rattle.hv_rules.specs.declared.event.FlowEvent.{FlowEvent}
use Rattle.hv_rules.specs.declared.event.FlowEvent.TheVariants as event
use Rattle.hv_rules.specs.Flow.{Flow, Skip, Do, Stop, Then, Either, Loop, IsTrace}
use Rattle.hv_tree.specs.Earlier.{IsFirst}
use Rattle.hv_decls.specs.Locals.{CoreBody}
use Rattle.hv_rules.specs.Events.{Belongs, Mark, Events, body_events}
use Rattle.hv_rules.specs.States.{HandleState, NotSpawned, Spawned, Awaited, State, start, after_event, after, state_after}
use Rattle.hv_rules.specs.Rules.{handles_at, IsViolatedIn}
use Rattle.hv_lemmas.proofs.Members.{listed, contained}
use Rattle.hv_flow_pass.specs.declared.act.Act.{Act}
use Rattle.hv_flow_pass.specs.Refused.{Values, after_acts, Refuses, IsRefused}
use Rattle.hv_flow_pass.specs.Refused as pass
use Rattle.hv_flow_pass.specs.declared.plan.PassOp.{PassOp}
use Rattle.hv_flow_pass.specs.declared.plan.PassOp.TheVariants as pass_op
use Rattle.hv_flow_pass.specs.Plans as plans
use Rattle.hv_flow_pass.proofs.Firsts.{same_first}
use Rattle.hv_flow_plan.specs.declared.plan.FlowOp.{FlowOp}
use Rattle.hv_flow_plan.specs.Spelling.{plan_of, plan_of_body}
use Rattle.hv_flow_traces.specs.Mapped.{mapped}
use Rattle.hv_flow_traces.proofs.MappedLemmas.{traces, map-append}
use Rattle.hv_flow_ends.specs.declared.span.End.{End}
use Rattle.hv_flow_ends.specs.Ends.{is_end, numbers_in, belongs_by, ends_in, AllAgree}
use Rattle.hv_flow_ends.specs.Words.{IsLocal, words}
use Rattle.hv_flow_ends.proofs.Handed.{Handed, other, ended, mark_of, acts_of, told_body}
use Rattle.hv_await.specs.Acts.{refusal, first_ends, left_event, left_acts, again_acts}
use Rattle.hv_await.specs.Ops.{again_op, again_ops}
use Rattle.hv_await.specs.Found.{InBody}
use Rattle.hv_flow_ends.proofs.Playing.{AnyRefuses, values, refused_at, refused_of, last_of, all_fit}
use Rattle.hv_await.proofs.Cells.{Has, set_fits, only_cell, own_cell, ends_refuse, refused_at_end, ends_keep}

-- ---- what a cell says of its handle

abbrev is_left : HandleState → Bool
is_left NotSpawned = false
is_left Spawned = true
is_left Awaited = false

left_spawned : (x : HandleState) → is_left x ≡ true → x ≡ Spawned
left_spawned NotSpawned e = cc
left_spawned Spawned e = refl
left_spawned Awaited e = cc

abbrev is_again : HandleState → Bool
is_again NotSpawned = false
is_again Spawned = false
is_again Awaited = true

again_awaited : (x : HandleState) → is_again x ≡ true → x ≡ Awaited
again_awaited NotSpawned e = cc
again_awaited Spawned e = cc
again_awaited Awaited e = refl

-- each cell says so
abbrev Fits : (HandleState → Bool) → State → Values → Type 0
Fits says s v = (h : ℕ) → v h ≡ says (s.handles h)

-- ---- handles that are left

left_step : (e : FlowEvent) (of : Belongs) (s : State) (v : Values) → Fits is_left s v → Fits is_left (after_event e of s) (after_acts (left_event e) v)
left_step event.Entry of s v f = f
left_step (event.Declare n) of s v f = f
left_step (event.Init p) of s v f = f
left_step (event.Use p) of s v f = f
left_step (event.Move p) of s v f = f
left_step (event.OpenRead p) of s v f = f
left_step (event.OpenWrite p) of s v f = f
left_step (event.OpenSet p) of s v f = f
left_step event.Close of s v f = f
left_step (event.Spawn h) of s v f = set_fits is_left h Spawned true s.handles v refl f
left_step (event.Await h) of s v f = set_fits is_left h Awaited false s.handles v refl f
left_step event.Return of s v f = f
left_step (event.ScopeEnd n) of s v f = f

left_refuses : (e : FlowEvent) (v : Values) (r : Refusal) → AnyRefuses (left_event e) v r → ⊥
left_refuses event.Entry v r h = h
left_refuses (event.Declare n) v r h = h
left_refuses (event.Init p) v r h = h
left_refuses (event.Use p) v r h = h
left_refuses (event.Move p) v r h = h
left_refuses (event.OpenRead p) v r h = h
left_refuses (event.OpenWrite p) v r h = h
left_refuses (event.OpenSet p) v r h = h
left_refuses event.Close v r h = h
left_refuses (event.Spawn n) v r (inl h) = h
left_refuses (event.Spawn n) v r (inr h) = h
left_refuses (event.Await n) v r (inl h) = h
left_refuses (event.Await n) v r (inr h) = h
left_refuses event.Return v r h = h
left_refuses (event.ScopeEnd n) v r h = h

ends_leave : (e : FlowEvent) (of : Belongs) (s : State) (v : Values) → is_end e ≡ true → Fits is_left s v → Fits is_left (after_event e of s) v
ends_leave event.Entry of s v e f = cc
ends_leave (event.Declare n) of s v e f = cc
ends_leave (event.Init p) of s v e f = cc
ends_leave (event.Use p) of s v e f = cc
ends_leave (event.Move p) of s v e f = cc
ends_leave (event.OpenRead p) of s v e f = cc
ends_leave (event.OpenWrite p) of s v e f = cc
ends_leave (event.OpenSet p) of s v e f = cc
ends_leave event.Close of s v e f = cc
ends_leave (event.Spawn h) of s v e f = cc
ends_leave (event.Await h) of s v e f = cc
ends_leave event.Return of s v e f = f
ends_leave (event.ScopeEnd n) of s v e f = f

none_has : (hs : List ℕ) (v : Values) → hs ≡ [] → Has hs v → ⊥
none_has [] v e (h, i, y) = i
none_has (k ∷ hs) v e h = cc

has_alike : (xs ys : List ℕ) (v : Values) → ((n : ℕ) → Contains xs n → Contains ys n) → Has xs v → Has ys v
has_alike xs ys v to (h, i, e) = (h, listed ys h (to h (contained xs h i)), e)

abbrev acts_by : Mark → List End → Bool → List Act
acts_by m ends b = if b then first_ends m.place ends else left_event m.event

left_follows : (l : Handed) (s : State) (v : Values) → Fits is_left s v → Fits is_left (after (mark_of l) s) (after_acts (acts_of left_acts l) v)
left_follows (other m p) s v f = subst (λ b. Fits is_left (after m s) (after_acts (acts_by m [] b) v)) (sym p.0) (left_step m.event m.belongs s v f)
left_follows (ended m e is agree) s v f =
    subst (λ b. Fits is_left (after m s) (after_acts (acts_by m (e ∷ []) b) v)) (sym is) (subst (λ w. Fits is_left (after m s) w) (sym (ends_keep m.place e.handles v)) (ends_leave m.event m.belongs s v is f))

left_refuses_at : (l : Handed) (v : Values) (r : Refusal) → AnyRefuses (acts_of left_acts l) v r → (r ≡ refusal rule.S1 (mark_of l).place) × Has (handles_at (mark_of l).belongs) v
left_refuses_at (other m p) v r h = absurd (left_refuses m.event v r (subst (λ b. AnyRefuses (acts_by m [] b) v r) p.0 h))
left_refuses_at (ended m e is agree) v r h =
    let t = ends_refuse m.place e.handles v r (subst (λ b. AnyRefuses (acts_by m (e ∷ []) b) v r) is h) in (t.0, has_alike (numbers_in e.handles) (handles_at m.belongs) v (λ n. (agree.handles n).0) t.1)

left_refused_at : (l : Handed) (v : Values) → Has (handles_at (mark_of l).belongs) v → AnyRefuses (acts_of left_acts l) v (refusal rule.S1 (mark_of l).place)
left_refused_at (other m p) v h = absurd (none_has (handles_at m.belongs) v p.2 h)
left_refused_at (ended m e is agree) v h =
    subst (λ b. AnyRefuses (acts_by m (e ∷ []) b) v (refusal rule.S1 m.place)) (sym is) (refused_at_end m.place e.handles v (has_alike (handles_at m.belongs) (numbers_in e.handles) v (λ n. (agree.handles n).1) h))

-- what these acts do is told by the next end alone
left_local : IsLocal left_acts
left_local = record {
  other = λ e at to_come p. ap (λ b. if b then first_ends at to_come else left_event e) p ∙ sym (ap (λ b. if b then first_ends at [] else left_event e) p);
  ended = λ e at end to_come is. refl;
}

module _ (tree : Core) (body : CoreBody) (f : Flow Handed) (marks : mapped mark_of f ≡ body_events tree body) where
  left_fits : (ls : List Handed) → Fits is_left (state_after (map mark_of ls)) (values (acts_of left_acts) ls)
  left_fits ls = all_fit (acts_of left_acts) mark_of (Fits is_left) left_follows ls start pass.start (λ h. refl)

  pub left_violates : (r : Refusal) → IsRefused (mapped (acts_of left_acts) f) r → (r.rule ≡ rule.S1) × IsViolatedIn tree body rule.S1 r.place
  left_violates r h =
      let t = refused_at (acts_of left_acts) f r h in
      let u = left_refuses_at t.last (values (acts_of left_acts) t.before) r t.refused in
      let has = u.1 in (
        ap (λ q. q.rule) u.0,
        record {
          before = map mark_of t.before;
          last = mark_of t.last;
          trace = subst (λ g. IsTrace g (map mark_of t.before ++ mark_of t.last ∷ [])) marks
              ((traces mark_of f (map mark_of t.before ++ mark_of t.last ∷ [])).1 (t.before ++ t.last ∷ [], t.trace, sym (map-append mark_of t.before (t.last ∷ []))));
          at = sym (ap (λ q. q.place) u.0);
          violates = (has.0, contained (handles_at (mark_of t.last).belongs) has.0 has.1, left_spawned ((state_after (map mark_of t.before)).handles has.0) (sym (left_fits t.before has.0) ∙ has.2));
        },
      )

  pub left_found : (place : Place) → IsViolatedIn tree body rule.S1 place → IsRefused (mapped (acts_of left_acts) f) (refusal rule.S1 place)
  left_found place h =
      let t = (traces mark_of f (h.before ++ h.last ∷ [])).0 (subst (λ g. IsTrace g (h.before ++ h.last ∷ [])) (sym marks) h.trace) in
      let s = last_of mark_of h.before h.last t.0 t.2 in
      let v = values (acts_of left_acts) s.front in
      let says : v h.violates.0 ≡ true =
      left_fits s.front h.violates.0 ∙ ap (λ ms. is_left ((state_after ms).handles h.violates.0)) (sym s.before) ∙ ap is_left h.violates.2 in
      let has : Has (handles_at (mark_of s.last).belongs) v = (h.violates.0, listed (handles_at (mark_of s.last).belongs) h.violates.0 (subst (λ m. Contains (handles_at m.belongs) h.violates.0) s.at h.violates.1), says) in
      refused_of (acts_of left_acts) f (refusal rule.S1 place)
      (record {
        before = s.front;
        last = s.last;
        trace = subst (λ ls. IsTrace f ls) s.split t.1;
        refused = subst (λ q. AnyRefuses (acts_of left_acts s.last) v (refusal rule.S1 q)) (ap (λ (m : Mark). m.place) (sym s.at) ∙ h.at) (left_refused_at s.last v has);
      })

-- ---- handles that are awaited again

again_step : (e : FlowEvent) (at : Place) (of : Belongs) (s : State) (v : Values) → Fits is_again s v → Fits is_again (after_event e of s) (after_acts (again_acts e at) v)
again_step event.Entry at of s v f = f
again_step (event.Declare n) at of s v f = f
again_step (event.Init p) at of s v f = f
again_step (event.Use p) at of s v f = f
again_step (event.Move p) at of s v f = f
again_step (event.OpenRead p) at of s v f = f
again_step (event.OpenWrite p) at of s v f = f
again_step (event.OpenSet p) at of s v f = f
again_step event.Close at of s v f = f
again_step (event.Spawn h) at of s v f = set_fits is_again h Spawned false s.handles v refl f
again_step (event.Await h) at of s v f = set_fits is_again h Awaited true s.handles v refl f
again_step event.Return at of s v f = f
again_step (event.ScopeEnd n) at of s v f = f

-- the event awaits a handle whose cell is a yes
abbrev Awaits : FlowEvent → Values → Type 0
Awaits e v = (h : ℕ) × (e ≡ event.Await h) × (v h ≡ true)

again_refuses : (e : FlowEvent) (at : Place) (v : Values) (r : Refusal) → AnyRefuses (again_acts e at) v r → (r ≡ refusal rule.S2 at) × Awaits e v
again_refuses event.Entry at v r h = absurd h
again_refuses (event.Declare n) at v r h = absurd h
again_refuses (event.Init p) at v r h = absurd h
again_refuses (event.Use p) at v r h = absurd h
again_refuses (event.Move p) at v r h = absurd h
again_refuses (event.OpenRead p) at v r h = absurd h
again_refuses (event.OpenWrite p) at v r h = absurd h
again_refuses (event.OpenSet p) at v r h = absurd h
again_refuses event.Close at v r h = absurd h
again_refuses (event.Spawn n) at v r (inl h) = absurd h
again_refuses (event.Spawn n) at v r (inr h) = absurd h
again_refuses (event.Await n) at v r (inl (e, (i, c, y))) = (e, (n, refl, ap v (only_cell n i c) ∙ y))
again_refuses (event.Await n) at v r (inr (inl h)) = absurd h
again_refuses (event.Await n) at v r (inr (inr h)) = absurd h
again_refuses event.Return at v r h = absurd h
again_refuses (event.ScopeEnd n) at v r h = absurd h

again_refused : (h : ℕ) (at : Place) (v : Values) → v h ≡ true → AnyRefuses (again_acts (event.Await h) at) v (refusal rule.S2 at)
again_refused h at v e = inl (refl, (h, own_cell h, e))

abbrev pub again_of : Mark → List Act
again_of m = again_acts m.event m.place

map_same : (ms : List Mark) → map (λ m. m) ms ≡ ms
map_same [] = refl
map_same (m ∷ ms) = ap (λ l. m ∷ l) (map_same ms)

module _ (tree : Core) (body : CoreBody) where
  again_fits : (ms : List Mark) → Fits is_again (state_after ms) (values again_of ms)
  again_fits ms =
      subst (λ l. Fits is_again (state_after l) (values again_of ms)) (map_same ms)
      (all_fit again_of (λ m. m) (Fits is_again) (λ m s v h. again_step m.event m.place m.belongs s v h) ms start pass.start (λ h. refl))

  pub again_violates : (r : Refusal) → IsRefused (mapped again_of (body_events tree body)) r → (r.rule ≡ rule.S2) × IsViolatedIn tree body rule.S2 r.place
  again_violates r h =
      let t = refused_at again_of (body_events tree body) r h in
      let u = again_refuses t.last.event t.last.place (values again_of t.before) r t.refused in
      let has = u.1 in (
        ap (λ q. q.rule) u.0,
        record {
          before = t.before;
          last = t.last;
          trace = t.trace;
          at = sym (ap (λ q. q.place) u.0);
          violates = (has.0, has.1, again_awaited ((state_after t.before).handles has.0) (sym (again_fits t.before has.0) ∙ has.2));
        },
      )

  pub again_found : (place : Place) → IsViolatedIn tree body rule.S2 place → IsRefused (mapped again_of (body_events tree body)) (refusal rule.S2 place)
  again_found place h =
      let v = values again_of h.before in
      let says : v h.violates.0 ≡ true = again_fits h.before h.violates.0 ∙ ap is_again h.violates.2 in
      refused_of again_of (body_events tree body) (refusal rule.S2 place)
      (record {
        before = h.before;
        last = h.last;
        trace = h.trace;
        refused = subst (λ q. AnyRefuses (again_acts h.last.event h.last.place) v (refusal rule.S2 q)) h.at
            (subst (λ e. AnyRefuses (again_acts e h.last.place) v (refusal rule.S2 h.last.place)) (sym h.violates.1) (again_refused h.violates.0 h.last.place v says));
      })

-- ---- the first of a body

by_rule : (Is : Refusal → Type 0) (r : Refusal) (k : Rule) → r.rule ≡ k → Is (refusal k r.place) → Is r
by_rule Is r k e h = subst (λ (q : Rule). Is (refusal q r.place)) (sym e) h

pub left_first : (tree : Core) (body : CoreBody) (es : List End) (plan : List FlowOp) (acts : List PassOp) (v : Option Refusal) → plan ≡ plan_of_body tree body → AllAgree (map belongs_by es) (ends_in (body_events tree body)) →
    acts ≡ words left_acts (drop 2 plan) es → ((f : Flow (List Act)) → acts ≡ plans.plan_of f → IsFirst (IsRefused f) v) → IsFirst (InBody tree body rule.S1) v
left_first tree body es plan acts v p agree w first =
    let t = told_body tree body es plan p agree in
    let f = mapped (acts_of left_acts) t.flow in
    same_first (IsRefused f) (InBody tree body rule.S1) v (λ r h. left_violates tree body t.flow t.marks r h) (λ r h. by_rule (IsRefused f) r rule.S1 h.0 (left_found tree body t.flow t.marks r.place h.1))
    (first f (w ∙ t.spelled left_acts left_local))

again_both : (xs ys : List FlowOp) → again_ops (xs ++ ys) ≡ again_ops xs ++ again_ops ys
again_both [] ys = refl
again_both (x ∷ xs) ys = ap (λ l. again_op x ∷ l) (again_both xs ys)

again_spelled : (f : Events) → again_ops (plan_of f) ≡ plans.plan_of (mapped again_of f)
again_spelled Skip = refl
again_spelled (Do m) = refl
again_spelled (Stop m) = refl
again_spelled (Then a b) = ap (λ l. pass_op.Then ∷ l) (again_both (plan_of a) (plan_of b) ∙ ap (λ l. l ++ again_ops (plan_of b)) (again_spelled a) ∙ ap (λ l. plans.plan_of (mapped again_of a) ++ l) (again_spelled b))
again_spelled (Either a b) = ap (λ l. pass_op.Either ∷ l) (again_both (plan_of a) (plan_of b) ∙ ap (λ l. l ++ again_ops (plan_of b)) (again_spelled a) ∙ ap (λ l. plans.plan_of (mapped again_of a) ++ l) (again_spelled b))
again_spelled (Loop a) = ap (λ l. pass_op.Loop ∷ l) (again_spelled a)

pub again_first : (tree : Core) (body : CoreBody) (plan : List FlowOp) (acts : List PassOp) (v : Option Refusal) → plan ≡ plan_of_body tree body → acts ≡ again_ops (drop 2 plan) →
    ((f : Flow (List Act)) → acts ≡ plans.plan_of f → IsFirst (IsRefused f) v) → IsFirst (InBody tree body rule.S2) v
again_first tree body plan acts v p w first =
    let f = mapped again_of (body_events tree body) in
    same_first (IsRefused f) (InBody tree body rule.S2) v (λ r h. again_violates tree body r h) (λ r h. by_rule (IsRefused f) r rule.S2 h.0 (again_found tree body r.place h.1))
    (first f (w ∙ ap (λ l. again_ops (drop 2 l)) p ∙ again_spelled (body_events tree body)))
