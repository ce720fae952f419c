-- What a flow of acts refuses, in terms of the marks that they stand for.
use Rattle.std.proofs.Common.{◌≡◌, ◌⊎◌, inl, inr, List, [], ◌∷◌, ◌++◌, map, refl, sym, ap, subst, ◌∙◌}
use Rattle.hv_tree.specs.declared.refusal.Refusal.{Refusal}
use Rattle.hv_rules.specs.Flow.{Flow, IsTrace}
use Rattle.hv_rules.specs.Events.{Mark}
use Rattle.hv_rules.specs.States.{State, after, after_all}
use Rattle.hv_flow_pass.specs.declared.act.Act.{Act}
use Rattle.hv_flow_pass.specs.Refused.{Values, start, after_act, after_acts, acts_in, Refuses, IsRefused}
use Rattle.hv_flow_traces.specs.Mapped.{mapped}
use Rattle.hv_flow_traces.proofs.MappedLemmas.{traces, map-append}

-- ---- acts one after the other

pub acts_both : (xs ys : List Act) (v : Values) → after_acts (xs ++ ys) v ≡ after_acts ys (after_acts xs v)
acts_both [] ys v = refl
acts_both (x ∷ xs) ys v = acts_both xs ys (after_act x v)

-- one of these acts refuses what those before it leave
abbrev pub AnyRefuses : List Act → Values → Refusal → Type 0
AnyRefuses [] v r = ⊥
AnyRefuses (x ∷ xs) v r = Refuses v x r ⊎ AnyRefuses xs (after_act x v) r

any_at : (before : List Act) (last : Act) (rest : List Act) (v : Values) (r : Refusal) → Refuses (after_acts before v) last r → AnyRefuses (before ++ last ∷ rest) v r
any_at [] last rest v r h = inl h
any_at (x ∷ before) last rest v r h = inr (any_at before last rest (after_act x v) r h)

record Found (acts : List Act) (v : Values) (r : Refusal) : Type 0 where
  before : List Act
  last : Act
  rest : List Act
  split : acts ≡ before ++ last ∷ rest
  refuses : Refuses (after_acts before v) last r

any_found : (acts : List Act) (v : Values) (r : Refusal) → AnyRefuses acts v r → Found acts v r
any_found [] v r h = absurd h
any_found (x ∷ xs) v r (inl h) = record { before = []; last = x; rest = xs; split = refl; refuses = h }
any_found (x ∷ xs) v r (inr h) =
    let f = any_found xs (after_act x v) r h in record { before = x ∷ f.before; last = f.last; rest = f.rest; split = ap (λ l. x ∷ l) f.split; refuses = f.refuses }

-- ---- the last of a list

module _ {L X : Type 0} (g : L → X) where
  pub record Last (fronts : List X) (x : X) (ls : List L) : Type 0 where
    pub front : List L
    pub last : L
    pub split : ls ≡ front ++ last ∷ []
    pub before : fronts ≡ map g front
    pub at : x ≡ g last

  pub last_of : (before : List X) (x : X) (ls : List L) → before ++ x ∷ [] ≡ map g ls → Last before x ls
  last_of [] x [] e = cc
  last_of [] x (l ∷ []) e = record { front = []; last = l; split = refl; before = refl; at = cc }
  last_of [] x (l ∷ (k ∷ ls)) e = cc
  last_of (y ∷ before) x [] e = cc
  last_of (y ∷ before) x (l ∷ ls) e = by (last_of before x ls (cc)) (cc)
    where
      by : Last before x ls → y ≡ g l → Last (y ∷ before) x (l ∷ ls)
      by t q = record { front = l ∷ t.front; last = t.last; split = ap (λ z. l ∷ z) t.split; before = ap (λ z. z ∷ before) q ∙ ap (λ z. g l ∷ z) t.before; at = t.at }

-- ---- a flow whose events carry acts

module _ {L : Type 0} (acts : L → List Act) where
  -- what the acts of these leave
  abbrev pub values : List L → Values
  values ls = after_acts (acts_in (map acts ls)) start

  -- some trace ends in an event that refuses what the events before it leave
  pub record RefusedAt (f : Flow L) (r : Refusal) : Type 0 where
    pub before : List L
    pub last : L
    pub trace : IsTrace f (before ++ last ∷ [])
    pub refused : AnyRefuses (acts last) (values before) r

  pub refused_at : (f : Flow L) (r : Refusal) → IsRefused (mapped acts f) r → RefusedAt f r
  refused_at f r h =
      let t = (traces acts f (h.events ++ (h.before ++ h.last ∷ h.rest) ∷ [])).0 h.trace in
      let s = last_of acts h.events (h.before ++ h.last ∷ h.rest) t.0 t.2 in
      record {
        before = s.front;
        last = s.last;
        trace = subst (λ ls. IsTrace f ls) s.split t.1;
        refused = subst (λ l. AnyRefuses l (values s.front) r) s.at
            (any_at h.before h.last h.rest (values s.front) r
            (subst (λ v. Refuses v h.last r) (acts_both (acts_in h.events) h.before start ∙ ap (λ e. after_acts h.before (after_acts (acts_in e) start)) s.before) h.refuses));
      }

  pub refused_of : (f : Flow L) (r : Refusal) → RefusedAt f r → IsRefused (mapped acts f) r
  refused_of f r h =
      let t = any_found (acts h.last) (values h.before) r h.refused in
      record {
        events = map acts h.before;
        before = t.before;
        last = t.last;
        rest = t.rest;
        trace = (traces acts f (map acts h.before ++ (t.before ++ t.last ∷ t.rest) ∷ [])).1
            (h.before ++ h.last ∷ [], h.trace, ap (λ l. map acts h.before ++ l ∷ []) (sym t.split) ∙ sym (map-append acts h.before (h.last ∷ [])));
        refuses = subst (λ v. Refuses v t.last r) (sym (acts_both (acts_in (map acts h.before)) t.before start)) t.refuses;
      }

  -- what the acts leave fits the state that the marks leave, where each event keeps that so
  module _ (mark : L → Mark) (Fits : State → Values → Type 0) (step : (l : L) (s : State) (v : Values) → Fits s v → Fits (after (mark l) s) (after_acts (acts l) v)) where
    pub all_fit : (ls : List L) (s : State) (v : Values) → Fits s v → Fits (after_all (map mark ls) s) (after_acts (acts_in (map acts ls)) v)
    all_fit [] s v h = h
    all_fit (l ∷ ls) s v h =
        subst (λ w. Fits (after_all (map mark ls) (after (mark l) s)) w) (sym (acts_both (acts l) (acts_in (map acts ls)) v)) (all_fit ls (after (mark l) s) (after_acts (acts l) v) (step l s v h))
