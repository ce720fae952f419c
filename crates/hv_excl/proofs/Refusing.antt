-- What a body's flow of acts refuses is what the body violates.
use Rattle.std.proofs.Common.{◌≡◌, ◌⊎◌, inl, inr, false, List, [], ◌∷◌, ◌++◌, map, Option, Some, None, refl, sym, ap, subst, ◌∙◌}
use Rattle.std.specs.Prelude.{⊤}
use Rattle.hv_tree.specs.declared.place.Place.{Place}
use Rattle.hv_tree.specs.declared.refusal.Refusal.{Refusal}
use Rattle.hv_tree.specs.declared.refusal.Rule.{Rule}
use Rattle.hv_tree.specs.declared.refusal.Rule.TheVariants as rule
use Rattle.hv_tree.specs.Core.{Core}
use Rattle.hv_rules.specs.Flow.{Flow, Do, Then, IsWhole, IsTrace}
use Rattle.hv_decls.specs.Locals.{CoreBody}
use Rattle.hv_rules.specs.Events.{Mark}
use Rattle.hv_rules.specs.States.{Access, binding_of, Open, state_after}
use Rattle.hv_rules.specs.Rules.{Violates}
use Rattle.hv_rules.specs.Accepted.{AccessPhase, phase_of}
use Rattle.hv_flow_traces.specs.Mapped.{mapped}
use Rattle.hv_flow_traces.specs.Carried.{without}
use Rattle.hv_flow_traces.specs.Opened.{opened_at}
use Rattle.hv_flow_traces.proofs.MappedLemmas.{map-append, traces}
use Rattle.hv_flow_traces.proofs.OpenedLemmas.{is_opened_at}
use Rattle.hv_flow_pass.specs.declared.act.Act.{Act}
use Rattle.hv_flow_pass.specs.declared.act.Act.TheVariants as act
use Rattle.hv_flow_pass.specs.Refused.{Values, start, after_acts, acts_in, Refuses, IsRefused}
use Rattle.hv_excl.specs.Violations.{IsViolatedBy}
use Rattle.hv_excl.specs.Clashes.{refused_at}
use Rattle.hv_excl.specs.Judged.{acts_of}
use Rattle.hv_excl.proofs.Clashing.{Violation, refused_of, free_to, unwritten_to}

-- ---- the flow

-- what an event with the accesses that are open there refuses
abbrev pub refused_with : Mark × List Access → Option Refusal
refused_with w = refused_at w.0.event (binding_of w.0.belongs) w.0.place w.1

abbrev pub acts_at : Mark × List Access → List Act
acts_at w = acts_of (refused_with w)

abbrev pub refusing : Core → CoreBody → Flow (List Act)
refusing tree body = mapped acts_at (opened_at tree body)

-- ---- acts that set nothing

abbrev Quiet : List Act → Type 0
Quiet [] = ⊤
Quiet (act.Set range value ∷ acts) = ⊥
Quiet (act.Refuse range value r ∷ acts) = Quiet acts

quiet_after : (acts : List Act) (values : Values) → Quiet acts → after_acts acts values ≡ values
quiet_after [] values q = refl
quiet_after (act.Set range value ∷ acts) values q = absurd q
quiet_after (act.Refuse range value r ∷ acts) values q = quiet_after acts values q

quiet_both : (xs ys : List Act) → Quiet xs → Quiet ys → Quiet (xs ++ ys)
quiet_both [] ys q p = p
quiet_both (act.Set range value ∷ xs) ys q p = absurd q
quiet_both (act.Refuse range value r ∷ xs) ys q p = quiet_both xs ys q p

quiet_acts : (o : Option Refusal) → Quiet (acts_of o)
quiet_acts None = tt
quiet_acts (Some r) = tt

quiet_all : (ws : List (Mark × List Access)) → Quiet (acts_in (map acts_at ws))
quiet_all [] = tt
quiet_all (w ∷ ws) = quiet_both (acts_at w) (acts_in (map acts_at ws)) (quiet_acts (refused_with w)) (quiet_all ws)

-- ---- the last event

-- the last of some events, each of which was something else
record Last {A B : Type 0} (g : A → B) (e : B) (ws : List A) : Type 0 where
  pub before : List A
  pub last : A
  pub split : ws ≡ before ++ last ∷ []
  pub same : e ≡ g last

last_of : {A B : Type 0} (g : A → B) (es : List B) (e : B) (ws : List A) → es ++ e ∷ [] ≡ map g ws → Last g e ws
last_of g [] e [] h = cc
last_of g [] e (w ∷ []) h = record { before = []; last = w; split = refl; same = cc }
last_of g [] e (w ∷ (v ∷ ws)) h = cc
last_of g (x ∷ es) e [] h = cc
last_of {A} g (x ∷ es) e (w ∷ ws) h = by (last_of g es e ws (cc))
  where
    by : Last g e ws → Last g e (w ∷ ws)
    by l = record { before = w ∷ l.before; last = l.last; split = ap (λ (z : List A). w ∷ z) l.split; same = l.same }

-- the one act of an event
one_act : (o : Option Refusal) (before : List Act) (last : Act) (rest : List Act) → before ++ last ∷ rest ≡ acts_of o → (r : Refusal) × (o ≡ Some r) × (last ≡ act.Refuse (record { from = 0; count = 1 }) false r)
one_act None [] last rest h = cc
one_act None (a ∷ before) last rest h = cc
one_act (Some r) [] last rest h = (r, refl, cc)
one_act (Some r) (a ∷ []) last rest h = cc
one_act (Some r) (a ∷ (b ∷ before)) last rest h = cc

refuses_that : (values : Values) (last : Act) (r s : Refusal) → last ≡ act.Refuse (record { from = 0; count = 1 }) false s → Refuses values last r → r ≡ s
refuses_that values last r s e h = (subst (λ (a : Act). Refuses values a r) e h).0

-- ---- the rules on accesses

pub access_rule : (k : Rule) → phase_of k ≡ Some AccessPhase → (k ≡ rule.X1) ⊎ (k ≡ rule.X2)
access_rule rule.X1 e = inl refl
access_rule rule.X2 e = inr refl
access_rule _ e = cc

is_access : (k : Rule) → (rule.X1 ≡ k) ⊎ (rule.X2 ≡ k) → phase_of k ≡ Some AccessPhase
is_access k (inl e) = ap phase_of (sym e)
is_access k (inr e) = ap phase_of (sym e)

-- ---- a body

module _ (tree : Core) (body : CoreBody) where
  -- the event at the end of a trace violates what it is refused for
  violated : (ms : List Mark) (m : Mark) (r : Refusal) → refused_with (m, Open ms) ≡ Some r → (phase_of r.rule ≡ Some AccessPhase) × (m.place ≡ r.place) × Violates tree body (state_after ms) r.rule m
  violated ms m r h = by (refused_of tree body (state_after ms) m.event m.belongs m.place r h)
    where
      by : Violation tree body (state_after ms) m.event m.belongs m.place r → (phase_of r.rule ≡ Some AccessPhase) × (m.place ≡ r.place) × Violates tree body (state_after ms) r.rule m
      by (e, inl (k, c)) = (is_access r.rule (inl k), e, subst (λ (z : Rule). Violates tree body (state_after ms) z m) k c)
      by (e, inr (k, c)) = (is_access r.rule (inr k), e, subst (λ (z : Rule). Violates tree body (state_after ms) z m) k c)

  -- and it is refused for what it violates
  refused_for : (ms : List Mark) (m : Mark) (k : Rule) → (k ≡ rule.X1) ⊎ (k ≡ rule.X2) → Violates tree body (state_after ms) k m → refused_with (m, Open ms) ≡ Some (record { rule = k; place = m.place })
  refused_for ms m k (inl e) v =
      free_to tree body (state_after ms) m.event m.belongs m.place (subst (λ (z : Rule). Violates tree body (state_after ms) z m) e v)
      ∙ ap (λ (z : Rule). Some (record { rule = z; place = m.place })) (sym e)
  refused_for ms m k (inr e) v =
      unwritten_to tree body (state_after ms) m.event m.belongs m.place (subst (λ (z : Rule). Violates tree body (state_after ms) z m) e v)
      ∙ ap (λ (z : Rule). Some (record { rule = z; place = m.place })) (sym e)

  -- a refusal at the end of a trace
  at_end : (ps : List (Mark × List Access)) (w : Mark × List Access) (r : Refusal) → IsTrace (opened_at tree body) (ps ++ w ∷ []) → refused_with w ≡ Some r → IsRefused (refusing tree body) r
  at_end ps w r t e = record {
    events = map acts_at ps;
    before = [];
    last = act.Refuse (record { from = 0; count = 1 }) false r;
    rest = [];
    trace = (traces acts_at (opened_at tree body) (map acts_at ps ++ (act.Refuse (record { from = 0; count = 1 }) false r ∷ []) ∷ [])).1
        (ps ++ w ∷ [], t, sym (map-append acts_at ps (w ∷ []) ∙ ap (λ (o : Option Refusal). map acts_at ps ++ acts_of o ∷ []) e));
    refuses = (refl, (0, refl, ap (λ (v : Values). v 0) (quiet_after (acts_in (map acts_at ps) ++ []) start (quiet_both (acts_in (map acts_at ps)) [] (quiet_all ps) tt))));
  }

  pub refused_to : (r : Refusal) → IsViolatedBy tree body r → IsRefused (refusing tree body) r
  refused_to r (phase, v) =
      let t = (is_opened_at tree body).there v.before v.last v.trace in
      at_end t.0 (v.last, Open v.before) r t.1
      (refused_for v.before v.last r.rule (access_rule r.rule phase) v.violates ∙ ap (λ (p : Place). Some (record { rule = r.rule; place = p })) v.at)

  -- an event that refuses, at the end of a trace
  ends_so : (ps : List (Mark × List Access)) (m : Mark) (xs : List Access) (r : Refusal) → IsTrace (opened_at tree body) (ps ++ (m, xs) ∷ []) → refused_with (m, xs) ≡ Some r → IsViolatedBy tree body r
  ends_so ps m xs r t e =
      let o = (is_opened_at tree body).only ps m xs t in
      let v = violated (without ps) m r (ap (λ (z : List Access). refused_with (m, z)) (sym o.1) ∙ e) in
      (v.0, record { before = without ps; last = m; trace = o.0; at = v.1; violates = v.2 })

  pub violated_by : (r : Refusal) → IsRefused (refusing tree body) r → IsViolatedBy tree body r
  violated_by r h =
      let t = (traces acts_at (opened_at tree body) (h.events ++ (h.before ++ h.last ∷ h.rest) ∷ [])).0 h.trace in
      let l = last_of acts_at h.events (h.before ++ h.last ∷ h.rest) t.0 t.2 in
      let a = one_act (refused_with l.last) h.before h.last h.rest l.same in
      let e = refuses_that (after_acts (acts_in h.events ++ h.before) start) h.last r a.0 a.2 h.refuses in
      ends_so l.before l.last.0 l.last.1 r (subst (λ (z : List (Mark × List Access)). IsTrace (opened_at tree body) z) l.split t.1) (a.1 ∙ ap Some (sym e))

-- ---- behind an event without acts

no_act : (before : List Act) (last : Act) (rest : List Act) → before ++ last ∷ rest ≡ [] → ⊥
no_act [] last rest e = cc
no_act (a ∷ before) last rest e = cc

module _ (f : Flow (List Act)) where
  pub refused_behind : (r : Refusal) → IsRefused f r → IsRefused (Then (Do []) f) r
  refused_behind r h = record { events = [] ∷ h.events; before = h.before; last = h.last; rest = h.rest; trace = later (h.events ++ (h.before ++ h.last ∷ h.rest) ∷ []) h.trace; refuses = h.refuses }
    where
      later : (es : List (List Act)) → IsTrace f es → IsTrace (Then (Do []) f) ([] ∷ es)
      later es (rest, inl p) = (rest, inl ([] ∷ [], es ++ rest, refl, p, refl))
      later es (rest, inr p) = (rest, inr (inr ([] ∷ [], es ++ rest, refl, p, refl)))

  -- its events stand behind the first
  abbrev Behind : List (List Act) → Type 0
  Behind es = (ys : List (List Act)) × IsWhole f ys × (es ≡ [] ∷ ys)

  behind : (es : List (List Act)) → IsWhole (Then (Do []) f) es → Behind es
  behind es (inl (xs, ys, p, q, e)) = (ys, inl q, e ∙ ap (λ (z : List (List Act)). z ++ ys) p)
  behind es (inr (inl p)) = absurd p
  behind es (inr (inr (xs, ys, p, q, e))) = (ys, inr q, e ∙ ap (λ (z : List (List Act)). z ++ ys) p)

  sooner : (events : List (List Act)) (before : List Act) (last : Act) (rest : List Act) (r : Refusal) → IsTrace (Then (Do []) f) (events ++ (before ++ last ∷ rest) ∷ []) → Refuses (after_acts (acts_in events ++ before) start) last r → IsRefused f r
  sooner [] before last rest r (more, w) h = let b = behind ((before ++ last ∷ rest) ∷ more) w in absurd (no_act before last rest (cc))
  sooner (x ∷ events) before last rest r (more, w) h = by (behind (x ∷ ((events ++ (before ++ last ∷ rest) ∷ []) ++ more)) w)
    where
      by : Behind (x ∷ ((events ++ (before ++ last ∷ rest) ∷ []) ++ more)) → IsRefused f r
      by (ys, v, e) = record {
        events = events;
        before = before;
        last = last;
        rest = rest;
        trace = (more, subst (λ (z : List (List Act)). IsWhole f z) (sym (cc)) v);
        refuses = let g : x ≡ [] = cc in subst (λ (z : List Act). Refuses (after_acts ((z ++ acts_in events) ++ before) start) last r) g h;
      }

  pub refused_without : (r : Refusal) → IsRefused (Then (Do []) f) r → IsRefused f r
  refused_without r h = sooner h.events h.before h.last h.rest r h.trace h.refuses
