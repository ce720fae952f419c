-- The words of a body's plan spell a flow of acts that stand for the body's events.
use Rattle.std.proofs.Common.{◌≡◌, inl, inr, ℕ, Bool, true, false, if◌then◌else◌, List, [], ◌∷◌, ◌++◌, map, drop, Option, None, refl, sym, ap, subst, ◌∙◌, append_assoc, append-nil}
use Rattle.hv_tree.specs.Core.{Core}
use Rattle.hv_tree.specs.declared.place.Place.{Place}
use Rattle.hv_tree.specs.declared.refusal.Refusal.{Refusal}
use Rattle.hv_tree.specs.Earlier.{IsFirst}
use Rattle.hv_rules.specs.Flow.{Flow, Skip, Do, Stop, Then, Either, Loop}
use Rattle.hv_decls.specs.Locals.{CoreBody}
use Rattle.hv_rules.specs.Events.{Mark, Events, body_events}
use Rattle.hv_rules.specs.States.{Access, binding_of}
use Rattle.hv_flow_pass.specs.declared.act.Act.{Act}
use Rattle.hv_flow_pass.specs.declared.plan.PassOp.{PassOp}
use Rattle.hv_flow_pass.specs.declared.plan.PassOp.TheVariants as pass
use Rattle.hv_flow_pass.specs.Plans as plans
use Rattle.hv_flow_pass.specs.Refused.{IsRefused}
use Rattle.hv_flow_pass.proofs.Firsts.{same_first}
use Rattle.hv_flow_plan.specs.declared.plan.FlowOp.{FlowOp}
use Rattle.hv_flow_plan.specs.Spelling.{plan_of, plan_of_body}
use Rattle.hv_flow_traces.specs.Mapped.{mapped}
use Rattle.hv_flow_traces.specs.Carried.{behind, Steady, carrying}
use Rattle.hv_flow_traces.specs.Opened.{opens}
use Rattle.hv_flow_traces.proofs.Levels.{body_steady}
use Rattle.hv_flow_ends.specs.declared.span.End.{End}
use Rattle.hv_flow_ends.specs.Ends.{is_end, if_end, ends_in, belongs_by, AllAgree}
use Rattle.hv_flow_ends.specs.Words.{ends_after}
use Rattle.hv_flow_ends.proofs.Quiet.{IsTidy, Each}
use Rattle.hv_flow_ends.proofs.Agreeing.{body_fits}
use Rattle.hv_flow_ends.proofs.Handed.{Handed, other, ended, mark_of, parted, no_end, one_end}
use Rattle.hv_excl.specs.Clashes.{open_behind}
use Rattle.hv_excl.specs.Told.{declared_by, declared_next, told_by}
use Rattle.hv_excl.proofs.Telling.{next_in, last_in, Tells, next_is, body_tells}
use Rattle.hv_excl.proofs.Judging.{open_same}
use Rattle.hv_init_cells.specs.Layout.{Layout, Fits}
use Rattle.hv_init_cells.specs.Acts.{acts_at, acts_of}
use Rattle.hv_init_cells.specs.Law.{IsViolatedBy}
use Rattle.hv_init_cells.proofs.Refusing.{first_violation}
use Rattle.hv_init_layout.specs.Spans.{FollowOneAnother}
use Rattle.hv_init.specs.Words.{end_asked, next_asked, ended_asked, acts_with, event_acts, init_words}
use Rattle.hv_init.proofs.Alike.{AsMuch, as_much_by, belongs_asked, nothing_asked, end_to, end_of, event_much, mapped_twice, flow_refuses}

-- a mark with its end, and the accesses that are open there
abbrev Carrier : Type 0
Carrier = Handed × List Access

abbrev marked : Carrier → Mark × List Access
marked p = (mark_of p.0, p.1)

-- what is asked at a mark as the code knows it
abbrev asked_at : Layout → Place → Handed → List Act
asked_at l at (other m p) = []
asked_at l at (ended m e is agree) = end_asked l at e

abbrev code_acts : Layout → Carrier → List Act
code_acts l p = acts_with l (mark_of p.0).event (mark_of p.0).place (asked_at l (mark_of p.0).place p.0) p.1

-- ---- both acts refuse the same

module _ (l : Layout) (follow : FollowOneAnother l) where
  asked_to : (at : Place) (h : Handed) → AsMuch (asked_at l at h) (belongs_asked l at (mark_of h).belongs)
  asked_to at (other m p) = as_much_by [] (belongs_asked l at m.belongs) (nothing_asked l at m.belongs p.1 p.3)
  asked_to at (ended m e is agree) = end_to l follow at e m.belongs agree

  asked_of : (at : Place) (h : Handed) → AsMuch (belongs_asked l at (mark_of h).belongs) (asked_at l at h)
  asked_of at (other m p) = as_much_by (belongs_asked l at m.belongs) [] (sym (nothing_asked l at m.belongs p.1 p.3))
  asked_of at (ended m e is agree) = end_of l follow at e m.belongs agree

  code_to : (p : Carrier) → AsMuch (code_acts l p) (acts_at l (marked p))
  code_to p =
      let m = mark_of p.0 in event_much l m.event m.place (asked_at l m.place p.0) (belongs_asked l m.place m.belongs) p.1 (asked_to m.place p.0)

  code_of : (p : Carrier) → AsMuch (acts_at l (marked p)) (code_acts l p)
  code_of p =
      let m = mark_of p.0 in event_much l m.event m.place (belongs_asked l m.place m.belongs) (asked_at l m.place p.0) p.1 (asked_of m.place p.0)

-- ---- one event

-- an event whose binding and end are told
event_told : (l : Layout) (m : Mark) (b last : Option ℕ) (xs : List Access) (ends rest : List End) (asked : List Act) (ops : List FlowOp) (word : List Act → PassOp) → b ≡ binding_of m.belongs → ended_asked l m.event m.place ends ≡ asked → ends_after m.event ends ≡ rest →
    word (event_acts l xs ends m.event m.place) ∷ init_words l last (open_behind m.event b xs) (ends_after m.event ends) ops ≡ word (acts_with l m.event m.place asked xs) ∷ init_words l last (opens m xs) rest ops
event_told l m b last xs ends rest asked ops word e f g =
    ap (λ (c : List Act). word (acts_with l m.event m.place c xs) ∷ init_words l last (open_behind m.event b xs) (ends_after m.event ends) ops) f
    ∙ ap (λ (es : List End). word (acts_with l m.event m.place asked xs) ∷ init_words l last (open_behind m.event b xs) es ops) g
    ∙ ap (λ (c : Option ℕ). word (acts_with l m.event m.place asked xs) ∷ init_words l last (open_behind m.event c xs) rest ops) e
    ∙ ap (λ (ys : List Access). word (acts_with l m.event m.place asked xs) ∷ init_words l last ys rest ops) (open_same m.event m.belongs xs)

-- no end
other_told : (l : Layout) (m : Mark) (b last : Option ℕ) (xs : List Access) (es more : List End) (ops : List FlowOp) (word : List Act → PassOp) → b ≡ binding_of m.belongs → is_end m.event ≡ false → es ≡ [] →
    word (event_acts l xs (es ++ more) m.event m.place) ∷ init_words l last (open_behind m.event b xs) (ends_after m.event (es ++ more)) ops ≡ word (acts_with l m.event m.place [] xs) ∷ init_words l last (opens m xs) more ops
other_told l m b last xs es more ops word e not_end none =
    ap (λ (z : List End). word (event_acts l xs (z ++ more) m.event m.place) ∷ init_words l last (open_behind m.event b xs) (ends_after m.event (z ++ more)) ops) none
    ∙ event_told l m b last xs more more [] ops word e (ap (λ (t : Bool). if t then next_asked l m.place more else []) not_end) (ap (λ (t : Bool). if t then drop 1 more else more) not_end)

-- an end
ended_told : (l : Layout) (m : Mark) (b last : Option ℕ) (xs : List Access) (es more : List End) (end : End) (ops : List FlowOp) (word : List Act → PassOp) → b ≡ binding_of m.belongs → is_end m.event ≡ true → es ≡ end ∷ [] →
    word (event_acts l xs (es ++ more) m.event m.place) ∷ init_words l last (open_behind m.event b xs) (ends_after m.event (es ++ more)) ops ≡ word (acts_with l m.event m.place (end_asked l m.place end) xs) ∷ init_words l last (opens m xs) more ops
ended_told l m b last xs es more end ops word e is one =
    ap (λ (z : List End). word (event_acts l xs (z ++ more) m.event m.place) ∷ init_words l last (open_behind m.event b xs) (ends_after m.event (z ++ more)) ops) one
    ∙ event_told l m b last xs (end ∷ more) more (end_asked l m.place end) ops word e (ap (λ (t : Bool). if t then end_asked l m.place end else []) is) (ap (λ (t : Bool). if t then more else end ∷ more) is)

-- ---- flows

-- the words spell the acts of the flow, behind one that declares this and before those that declare that
record Told (f : Events) (before next : Option ℕ) (xs : List Access) (es : List End) : Type 0 where
  flow : Flow Carrier
  marks : mapped marked flow ≡ carrying opens f xs
  spells : (l : Layout) (more : List End) (ops : List FlowOp) → declared_next ops ≡ next →
      init_words l before xs (es ++ more) (plan_of f ++ ops) ≡ plans.plan_of (mapped (code_acts l) flow) ++ init_words l (last_in f) (behind opens f xs) more ops

-- one part after the other
two : (l : Layout) (a b : Events) (xs ys zs : List Access) (left right more es : List End) (ops : List FlowOp) (us vs : List PassOp) → es ≡ left ++ right →
    init_words l None xs (left ++ (right ++ more)) (plan_of a ++ (plan_of b ++ ops)) ≡ us ++ init_words l (last_in a) ys (right ++ more) (plan_of b ++ ops) →
    init_words l (last_in a) ys (right ++ more) (plan_of b ++ ops) ≡ vs ++ init_words l (last_in b) zs more ops →
    init_words l None xs (es ++ more) ((plan_of a ++ plan_of b) ++ ops) ≡ (us ++ vs) ++ init_words l (last_in b) zs more ops
two l a b xs ys zs left right more es ops us vs e h g =
    ap (init_words l None xs (es ++ more)) (append_assoc (plan_of a) (plan_of b) ops)
    ∙ ap (λ (z : List End). init_words l None xs (z ++ more) (plan_of a ++ (plan_of b ++ ops))) e
    ∙ ap (λ (z : List End). init_words l None xs z (plan_of a ++ (plan_of b ++ ops))) (append_assoc left right more)
    ∙ h ∙ ap (λ (w : List PassOp). us ++ w) g ∙ sym (append_assoc us vs (init_words l (last_in b) zs more ops))

do_told : (m : Mark) (before next : Option ℕ) (xs : List Access) (es : List End) → IsTidy m → AllAgree (map belongs_by es) (if_end m) → told_by before next m.event ≡ binding_of m.belongs → Told (Do m) before next xs es
do_told m before next xs es (inl is) agree t =
    let one = one_end m es is agree in
    record {
      flow = Do (ended m one.end is one.agrees, xs);
      marks = refl;
      spells = λ l more ops d. ended_told l m (told_by before (declared_next ops) m.event) (declared_by m.event) xs es more one.end ops pass.Do (ap (λ n. told_by before n m.event) d ∙ t) is one.alone;
    }
do_told m before next xs es (inr p) agree t =
    record {
      flow = Do (other m p, xs);
      marks = refl;
      spells = λ l more ops d. other_told l m (told_by before (declared_next ops) m.event) (declared_by m.event) xs es more ops pass.Do (ap (λ n. told_by before n m.event) d ∙ t) p.0 (no_end m es p.0 agree);
    }

stop_told : (m : Mark) (before next : Option ℕ) (xs : List Access) (es : List End) → IsTidy m → AllAgree (map belongs_by es) (if_end m) → told_by before next m.event ≡ binding_of m.belongs → Told (Stop m) before next xs es
stop_told m before next xs es (inl is) agree t =
    let one = one_end m es is agree in
    record {
      flow = Stop (ended m one.end is one.agrees, xs);
      marks = refl;
      spells = λ l more ops d. ended_told l m (told_by before (declared_next ops) m.event) None xs es more one.end ops pass.Stop (ap (λ n. told_by before n m.event) d ∙ t) is one.alone;
    }
stop_told m before next xs es (inr p) agree t =
    record {
      flow = Stop (other m p, xs);
      marks = refl;
      spells = λ l more ops d. other_told l m (told_by before (declared_next ops) m.event) None xs es more ops pass.Stop (ap (λ n. told_by before n m.event) d ∙ t) p.0 (no_end m es p.0 agree);
    }

told : (f : Events) (before next : Option ℕ) (xs : List Access) (es : List End) → Each IsTidy f → AllAgree (map belongs_by es) (ends_in f) → Tells before next f → Steady opens f xs → Told f before next xs es
told Skip before next xs [] tidy agree t s = record { flow = Skip; marks = refl; spells = λ l more ops d. refl }
told Skip before next xs (e ∷ es) tidy agree t s = absurd agree
told (Do m) before next xs es tidy agree t s = do_told m before next xs es tidy agree t
told (Stop m) before next xs es tidy agree t s = stop_told m before next xs es tidy agree t
told (Then a b) before next xs es tidy agree t s =
    let p = parted es (ends_in a) (ends_in b) agree in
    let u = told a None (next_in b) xs p.left tidy.0 p.before t.0 s.0 in
    let w = told b (last_in a) next (behind opens a xs) p.right tidy.1 p.behind t.1 s.1 in
    record {
      flow = Then u.flow w.flow;
      marks = ap (λ g. Then g (mapped marked w.flow)) u.marks ∙ ap (Then (carrying opens a xs)) w.marks;
      spells = λ l more ops d.
          ap (λ (z : List PassOp). pass.Then ∷ z)
          (two l a b xs (behind opens a xs) (behind opens b (behind opens a xs)) p.left p.right more es ops (plans.plan_of (mapped (code_acts l) u.flow)) (plans.plan_of (mapped (code_acts l) w.flow)) p.split
          (u.spells l (p.right ++ more) (plan_of b ++ ops) (next_is b ops)) (w.spells l more ops d));
    }
told (Either a b) before next xs es tidy agree t s =
    let p = parted es (ends_in a) (ends_in b) agree in
    let u = told a None (next_in b) xs p.left tidy.0 p.before t.0 s.0 in
    let w = told b (last_in a) next xs p.right tidy.1 p.behind t.1 s.2 in
    record {
      flow = Either u.flow w.flow;
      marks = ap (λ g. Either g (mapped marked w.flow)) u.marks ∙ ap (Either (carrying opens a xs)) w.marks;
      spells = λ l more ops d.
          let us = plans.plan_of (mapped (code_acts l) u.flow) in
          let vs = plans.plan_of (mapped (code_acts l) w.flow) in
          ap (λ (z : List PassOp). pass.Either ∷ z)
          (two l a b xs xs xs p.left p.right more es ops us vs p.split
          (u.spells l (p.right ++ more) (plan_of b ++ ops) (next_is b ops) ∙ ap (λ (ys : List Access). us ++ init_words l (last_in a) ys (p.right ++ more) (plan_of b ++ ops)) s.1)
          (w.spells l more ops d ∙ ap (λ (ys : List Access). vs ++ init_words l (last_in b) ys more ops) s.3));
    }
told (Loop a) before next xs es tidy agree t s =
    let u = told a None next xs es tidy agree t s.0 in
    record {
      flow = Loop u.flow;
      marks = ap Loop u.marks;
      spells = λ l more ops d.
          ap (λ (z : List PassOp). pass.Loop ∷ z) (u.spells l more ops d ∙ ap (λ (ys : List Access). plans.plan_of (mapped (code_acts l) u.flow) ++ init_words l (last_in a) ys more ops) s.1);
    }

-- ---- bodies

module _ (tree : Core) (body : CoreBody) (l : Layout) where
  -- a body's acts, of each mark with its end
  acts_same : (f : Flow Carrier) → mapped marked f ≡ carrying opens (body_events tree body) [] → mapped (λ p. acts_at l (marked p)) f ≡ acts_of tree body l
  acts_same f e = sym (mapped_twice marked (acts_at l) f) ∙ ap (mapped (acts_at l)) e

  -- what the acts refuse first is what the body violates first
  pub body_first : (es : List End) (plan : List FlowOp) (words : List PassOp) (v : Option Refusal) → Fits tree body l → FollowOneAnother l → plan ≡ plan_of_body tree body → AllAgree (map belongs_by es) (ends_in (body_events tree body)) →
      words ≡ init_words l None [] es (drop 2 plan) → ((f : Flow (List Act)) → words ≡ plans.plan_of f → IsFirst (IsRefused f) v) → IsFirst (IsViolatedBy tree body) v
  body_first es plan words v fit follow p agree w first =
      let events = body_events tree body in
      let t = told events None None [] es (body_fits tree body).tidy agree (body_tells tree body).1 (body_steady tree body) in
      let f = mapped (code_acts l) t.flow in
      let same = acts_same t.flow t.marks in
      let spelled : words ≡ plans.plan_of f =
      w ∙ ap (λ (z : List FlowOp). init_words l None [] es (drop 2 z)) p ∙ sym (ap (λ (z : List End). init_words l None [] z (plan_of events)) (append-nil es)) ∙ sym (ap (init_words l None [] (es ++ [])) (append-nil (plan_of events)))
      ∙ t.spells l [] [] refl ∙ append-nil (plans.plan_of f) in
      first_violation tree body l fit v
      (same_first (IsRefused f) (IsRefused (acts_of tree body l)) v
      (λ r h. subst (λ g. IsRefused g r) same (flow_refuses (code_acts l) (λ p. acts_at l (marked p)) (code_to l follow) t.flow r h))
      (λ r h. flow_refuses (λ p. acts_at l (marked p)) (code_acts l) (code_of l follow) t.flow r (subst (λ g. IsRefused g r) (sym same) h)) (first f spelled))
