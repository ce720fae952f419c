-- A plan of acts to whose words the ends are handed spells a flow of acts that stand for a body's events.
use Rattle.std.proofs.Common.{◌≡◌, ◌⊎◌, inl, inr, Bool, true, false, if◌then◌else◌, List, [], ◌∷◌, ◌++◌, map, drop, refl, sym, ap, subst, ◌∙◌, append_assoc, append-nil}
use Rattle.hv_tree.specs.Core.{Core}
use Rattle.hv_rules.specs.Flow.{Flow, Skip, Do, Stop, Then, Either, Loop}
use Rattle.hv_decls.specs.Locals.{CoreBody}
use Rattle.hv_rules.specs.Events.{Belongs, Mark, Events, body_events}
use Rattle.hv_flow_pass.specs.declared.act.Act.{Act}
use Rattle.hv_flow_pass.specs.declared.plan.PassOp.{PassOp}
use Rattle.hv_flow_pass.specs.declared.plan.PassOp.TheVariants as pass
use Rattle.hv_flow_pass.specs.Plans as plans
use Rattle.hv_flow_plan.specs.declared.plan.FlowOp.{FlowOp}
use Rattle.hv_flow_plan.specs.Spelling.{plan_of, plan_of_body}
use Rattle.hv_flow_traces.specs.Mapped.{mapped}
use Rattle.hv_flow_ends.specs.declared.span.End.{End}
use Rattle.hv_flow_ends.specs.Ends.{is_end, if_end, ends_in, belongs_by, Agree, AllAgree}
use Rattle.hv_flow_ends.specs.Words.{Acts, IsLocal, words}
use Rattle.hv_flow_ends.proofs.Quiet.{IsPlain, IsTidy, Each}
use Rattle.hv_flow_ends.proofs.Agreeing.{body_fits}

-- a mark that is no end, or an end with what it belongs to
pub data Handed : Type 0 where
  other : (m : Mark) → IsPlain m → Handed
  ended : (m : Mark) (e : End) → is_end m.event ≡ true → Agree (belongs_by e) m.belongs → Handed

abbrev pub mark_of : Handed → Mark
mark_of (other m p) = m
mark_of (ended m e is agree) = m

abbrev pub acts_of : Acts → Handed → List Act
acts_of acts (other m p) = acts m.event m.place []
acts_of acts (ended m e is agree) = acts m.event m.place (e ∷ [])

-- ---- ends of the parts of a flow

pub record Parted (es : List End) (bs cs : List Belongs) : Type 0 where
  pub left : List End
  pub right : List End
  pub split : es ≡ left ++ right
  pub before : AllAgree (map belongs_by left) bs
  pub behind : AllAgree (map belongs_by right) cs

pub parted : (es : List End) (bs cs : List Belongs) → AllAgree (map belongs_by es) (bs ++ cs) → Parted es bs cs
parted es [] cs h = record { left = []; right = es; split = refl; before = tt; behind = h }
parted [] (b ∷ bs) cs h = absurd h
parted (e ∷ es) (b ∷ bs) cs h =
    let t = parted es bs cs h.1 in record { left = e ∷ t.left; right = t.right; split = ap (λ l. e ∷ l) t.split; before = (h.0, t.before); behind = t.behind }

-- ---- the flow to whose marks the ends are handed

-- the words of these acts spell the flow's acts
abbrev Spells : Events → List End → Flow Handed → Type 0
Spells f es flow = (acts : Acts) → IsLocal acts → (ops : List FlowOp) (more : List End) → words acts (plan_of f ++ ops) (es ++ more) ≡ plans.plan_of (mapped (acts_of acts) flow) ++ words acts ops more

record Told (f : Events) (es : List End) : Type 0 where
  flow : Flow Handed
  marks : mapped mark_of flow ≡ f
  spells : Spells f es flow

abbrev ends_by : Mark → Bool → List Belongs
ends_by m b = if b then m.belongs ∷ [] else []

pub no_end : (m : Mark) (es : List End) → is_end m.event ≡ false → AllAgree (map belongs_by es) (if_end m) → es ≡ []
no_end m [] e h = refl
no_end m (x ∷ es) e h = absurd (subst (λ b. AllAgree (map belongs_by (x ∷ es)) (ends_by m b)) e h)

pub record One (m : Mark) (es : List End) : Type 0 where
  pub end : End
  pub alone : es ≡ end ∷ []
  pub agrees : Agree (belongs_by end) m.belongs

one_by : (m : Mark) (es : List End) → AllAgree (map belongs_by es) (m.belongs ∷ []) → One m es
one_by m [] h = absurd h
one_by m (x ∷ []) h = record { end = x; alone = refl; agrees = h.0 }
one_by m (x ∷ (y ∷ es)) h = absurd h.1

pub one_end : (m : Mark) (es : List End) → is_end m.event ≡ true → AllAgree (map belongs_by es) (if_end m) → One m es
one_end m es e h = one_by m es (subst (λ b. AllAgree (map belongs_by es) (ends_by m b)) e h)

do_told : (m : Mark) (es : List End) → IsTidy m → AllAgree (map belongs_by es) (if_end m) → Told (Do m) es
do_told m es (inl is) h =
    let one = one_end m es is h in
    record {
      flow = Do (ended m one.end is one.agrees);
      marks = refl;
      spells = λ acts local ops more.
          ap (λ l. words acts (plan_of (Do m) ++ ops) (l ++ more)) one.alone ∙ ap (λ l. pass.Do l ∷ words acts ops (if is_end m.event then more else one.end ∷ more)) (local.ended m.event m.place one.end more is)
          ∙ ap (λ b. pass.Do (acts m.event m.place (one.end ∷ [])) ∷ words acts ops (if b then more else one.end ∷ more)) is;
    }
do_told m es (inr p) h =
    record {
      flow = Do (other m p);
      marks = refl;
      spells = λ acts local ops more.
          ap (λ l. words acts (plan_of (Do m) ++ ops) (l ++ more)) (no_end m es p.0 h) ∙ ap (λ l. pass.Do l ∷ words acts ops (if is_end m.event then drop 1 more else more)) (local.other m.event m.place more p.0)
          ∙ ap (λ b. pass.Do (acts m.event m.place []) ∷ words acts ops (if b then drop 1 more else more)) p.0;
    }

stop_told : (m : Mark) (es : List End) → IsTidy m → AllAgree (map belongs_by es) (if_end m) → Told (Stop m) es
stop_told m es (inl is) h =
    let one = one_end m es is h in
    record {
      flow = Stop (ended m one.end is one.agrees);
      marks = refl;
      spells = λ acts local ops more.
          ap (λ l. words acts (plan_of (Stop m) ++ ops) (l ++ more)) one.alone ∙ ap (λ l. pass.Stop l ∷ words acts ops (if is_end m.event then more else one.end ∷ more)) (local.ended m.event m.place one.end more is)
          ∙ ap (λ b. pass.Stop (acts m.event m.place (one.end ∷ [])) ∷ words acts ops (if b then more else one.end ∷ more)) is;
    }
stop_told m es (inr p) h =
    record {
      flow = Stop (other m p);
      marks = refl;
      spells = λ acts local ops more.
          ap (λ l. words acts (plan_of (Stop m) ++ ops) (l ++ more)) (no_end m es p.0 h) ∙ ap (λ l. pass.Stop l ∷ words acts ops (if is_end m.event then drop 1 more else more)) (local.other m.event m.place more p.0)
          ∙ ap (λ b. pass.Stop (acts m.event m.place []) ∷ words acts ops (if b then drop 1 more else more)) p.0;
    }

-- two plans side by side
side_by_side : (acts : Acts) (xs ys ops : List FlowOp) (left right more es : List End) (us vs : List PassOp) → es ≡ left ++ right → ((o : List FlowOp) (m : List End) → words acts (xs ++ o) (left ++ m) ≡ us ++ words acts o m) →
    ((o : List FlowOp) (m : List End) → words acts (ys ++ o) (right ++ m) ≡ vs ++ words acts o m) → words acts ((xs ++ ys) ++ ops) (es ++ more) ≡ (us ++ vs) ++ words acts ops more
side_by_side acts xs ys ops left right more es us vs e f g =
    ap (λ l. words acts l (es ++ more)) (append_assoc xs ys ops) ∙ ap (λ l. words acts (xs ++ (ys ++ ops)) (l ++ more)) e ∙ ap (words acts (xs ++ (ys ++ ops))) (append_assoc left right more)
    ∙ f (ys ++ ops) (right ++ more) ∙ ap (λ l. us ++ l) (g ops more) ∙ sym (append_assoc us vs (words acts ops more))

told : (f : Events) (es : List End) → Each IsTidy f → AllAgree (map belongs_by es) (ends_in f) → Told f es
told Skip [] tidy h = record { flow = Skip; marks = refl; spells = λ acts local ops more. refl }
told Skip (e ∷ es) tidy h = absurd h
told (Do m) es tidy h = do_told m es tidy h
told (Stop m) es tidy h = stop_told m es tidy h
told (Then a b) es tidy h =
    let p = parted es (ends_in a) (ends_in b) h in
    let s = told a p.left tidy.0 p.before in
    let t = told b p.right tidy.1 p.behind in
    record {
      flow = Then s.flow t.flow;
      marks = ap (λ g. Then g (mapped mark_of t.flow)) s.marks ∙ ap (Then a) t.marks;
      spells = λ acts local ops more.
          ap (λ l. pass.Then ∷ l)
          (side_by_side acts (plan_of a) (plan_of b) ops p.left p.right more es (plans.plan_of (mapped (acts_of acts) s.flow)) (plans.plan_of (mapped (acts_of acts) t.flow)) p.split (s.spells acts local) (t.spells acts local));
    }
told (Either a b) es tidy h =
    let p = parted es (ends_in a) (ends_in b) h in
    let s = told a p.left tidy.0 p.before in
    let t = told b p.right tidy.1 p.behind in
    record {
      flow = Either s.flow t.flow;
      marks = ap (λ g. Either g (mapped mark_of t.flow)) s.marks ∙ ap (Either a) t.marks;
      spells = λ acts local ops more.
          ap (λ l. pass.Either ∷ l)
          (side_by_side acts (plan_of a) (plan_of b) ops p.left p.right more es (plans.plan_of (mapped (acts_of acts) s.flow)) (plans.plan_of (mapped (acts_of acts) t.flow)) p.split (s.spells acts local) (t.spells acts local));
    }
told (Loop a) es tidy h =
    let s = told a es tidy h in record { flow = Loop s.flow; marks = ap Loop s.marks; spells = λ acts local ops more. ap (λ l. pass.Loop ∷ l) (s.spells acts local ops more) }

-- ---- bodies

-- a body's events with its ends, and the words that spell their acts
pub record ToldBody (tree : Core) (body : CoreBody) (es : List End) (plan : List FlowOp) : Type 0 where
  pub flow : Flow Handed
  pub marks : mapped mark_of flow ≡ body_events tree body
  pub spelled : (acts : Acts) → IsLocal acts → words acts (drop 2 plan) es ≡ plans.plan_of (mapped (acts_of acts) flow)

pub told_body : (tree : Core) (body : CoreBody) (es : List End) (plan : List FlowOp) → plan ≡ plan_of_body tree body → AllAgree (map belongs_by es) (ends_in (body_events tree body)) → ToldBody tree body es plan
told_body tree body es plan e agree =
    let t = told (body_events tree body) es (body_fits tree body).tidy agree in
    record {
      flow = t.flow;
      marks = t.marks;
      spelled = λ acts local.
          ap (λ l. words acts (drop 2 l) es) e ∙ sym (ap (words acts (plan_of (body_events tree body))) (append-nil es)) ∙ sym (ap (λ l. words acts l (es ++ [])) (append-nil (plan_of (body_events tree body))))
          ∙ t.spells acts local [] [] ∙ append-nil (plans.plan_of (mapped (acts_of acts) t.flow));
    }

-- ---- lists

pub two_behind : {A : Type 0} (xs : List A) → drop 1 (drop 1 xs) ≡ drop 2 xs
two_behind [] = refl
two_behind (x ∷ []) = refl
two_behind (x ∷ (y ∷ xs)) = refl
