-- Acts that leave the same as others, and refuse no less.
use Rattle.std.proofs.Common.{◌≡◌, ◌⊎◌, inl, inr, ℕ, false, List, [], ◌∷◌, ◌++◌, map, Contains, refl, sym, ap, subst, ◌∙◌}
use Rattle.hv_tree.specs.declared.place.Place.{Place}
use Rattle.hv_tree.specs.declared.refusal.Refusal.{Refusal}
use Rattle.hv_rules.specs.declared.event.FlowEvent.{FlowEvent}
use Rattle.hv_rules.specs.Flow.{Flow, Skip, Do, Stop, Then, Either, Loop}
use Rattle.hv_rules.specs.Events.{Belongs}
use Rattle.hv_rules.specs.States.{Access}
use Rattle.hv_rules.specs.Rules.{asks_whole, back_at, missing_at}
use Rattle.hv_lemmas.proofs.Members.{listed, contained}
use Rattle.hv_flow_pass.specs.declared.act.Act.{Act}
use Rattle.hv_flow_pass.specs.Refused.{Values, start, after_acts, acts_in, IsRefused}
use Rattle.hv_flow_ends.specs.declared.span.Span.{Span}
use Rattle.hv_flow_ends.specs.declared.span.End.{End}
use Rattle.hv_flow_ends.specs.Ends.{numbers_in, belongs_by, Agree}
use Rattle.hv_init_layout.specs.Spans.{FollowOneAnother}
use Rattle.hv_flow_traces.specs.Mapped.{mapped}
use Rattle.hv_init_cells.specs.Layout.{Layout}
use Rattle.hv_init_cells.specs.Acts.{whole_asked, back_asked, missing_asked, sets}
use Rattle.hv_init_cells.proofs.Playing.{acts_both, AnyRefuses, any_of, any_left, any_right, values, refused_at, refused_of}
use Rattle.hv_init_cells.proofs.Telling.{back_keeps}
use Rattle.hv_init_cells.proofs.Refusing.{back_refuses, back_refused}
use Rattle.hv_init.specs.Words.{span_asked, end_asked, acts_with}
use Rattle.hv_init.proofs.Spans.{spans_refuse, spans_refused, spans_keep}

pub record AsMuch (xs ys : List Act) : Type 0 where
  pub leaves : (v : Values) → after_acts xs v ≡ after_acts ys v
  pub refuses : (v : Values) (r : Refusal) → AnyRefuses xs v r → AnyRefuses ys v r

same : (xs : List Act) → AsMuch xs xs
same xs = record { leaves = λ v. refl; refuses = λ v r h. h }

-- one list behind the other
both : (a b c d : List Act) → AsMuch a c → AsMuch b d → AsMuch (a ++ b) (c ++ d)
both a b c d h g = record {
  leaves = λ v. acts_both a b v ∙ ap (after_acts b) (h.leaves v) ∙ g.leaves (after_acts c v) ∙ sym (acts_both c d v);
  refuses = λ v r k. by v r (any_of a b v r k);
}
  where
    by : (v : Values) (r : Refusal) → AnyRefuses a v r ⊎ AnyRefuses b (after_acts a v) r → AnyRefuses (c ++ d) v r
    by v r (inl k) = any_left c d v r (h.refuses v r k)
    by v r (inr k) = any_right c d v r (subst (λ w. AnyRefuses d w r) (h.leaves v) (g.refuses (after_acts a v) r k))

-- ---- what is asked and set at an event

-- what is asked where an event belongs to this
abbrev pub belongs_asked : Layout → Place → Belongs → List Act
belongs_asked l at of = map (back_asked l at) (back_at of) ++ missing_asked l at (missing_at of)

module _ (l : Layout) (follow : FollowOneAnother l) (at : Place) where
  -- spans of locals that stand among others
  spans_to : (spans : List Span) (ks : List ℕ) → ((n : ℕ) → Contains (numbers_in spans) n → Contains ks n) → AsMuch (map (span_asked l at) spans) (map (back_asked l at) ks)
  spans_to spans ks to = record { leaves = λ v. spans_keep l at spans v ∙ sym (back_keeps l at ks v); refuses = by }
    where
      by : (v : Values) (r : Refusal) → AnyRefuses (map (span_asked l at) spans) v r → AnyRefuses (map (back_asked l at) ks) v r
      by v r h =
          let t = spans_refuse l follow at spans v r h in
          let n = t.1 in
          subst (λ (q : Refusal). AnyRefuses (map (back_asked l at) ks) v q) (sym t.0) (back_refused l at ks n.0 v (listed ks n.0 (to n.0 (contained (numbers_in spans) n.0 n.1))) n.2)

  -- and locals that stand in spans
  spans_of : (spans : List Span) (ks : List ℕ) → ((n : ℕ) → Contains ks n → Contains (numbers_in spans) n) → AsMuch (map (back_asked l at) ks) (map (span_asked l at) spans)
  spans_of spans ks to = record { leaves = λ v. back_keeps l at ks v ∙ sym (spans_keep l at spans v); refuses = by }
    where
      by : (v : Values) (r : Refusal) → AnyRefuses (map (back_asked l at) ks) v r → AnyRefuses (map (span_asked l at) spans) v r
      by v r h =
          let t = back_refuses l at ks v r h in
          let n = t.1 in
          subst (λ (q : Refusal). AnyRefuses (map (span_asked l at) spans) v q) (sym t.0)
          (spans_refused l follow at spans n.0 v (listed (numbers_in spans) n.0 (to n.0 (contained ks n.0 n.1))) n.2)

  -- an end that agrees with what the event belongs to
  pub end_to : (e : End) (of : Belongs) → Agree (belongs_by e) of → AsMuch (end_asked l at e) (belongs_asked l at of)
  end_to e of h =
      both (map (span_asked l at) e.back) (missing_asked l at e.missing) (map (back_asked l at) (back_at of)) (missing_asked l at (missing_at of)) (spans_to e.back (back_at of) (λ n. (h.back n).0))
      (subst (λ q. AsMuch (missing_asked l at e.missing) (missing_asked l at q)) h.missing (same (missing_asked l at e.missing)))

  pub end_of : (e : End) (of : Belongs) → Agree (belongs_by e) of → AsMuch (belongs_asked l at of) (end_asked l at e)
  end_of e of h =
      both (map (back_asked l at) (back_at of)) (missing_asked l at (missing_at of)) (map (span_asked l at) e.back) (missing_asked l at e.missing) (spans_of e.back (back_at of) (λ n. (h.back n).1))
      (subst (λ q. AsMuch (missing_asked l at q) (missing_asked l at e.missing)) h.missing (same (missing_asked l at e.missing)))

-- what belongs to nothing asks nothing
pub nothing_asked : (l : Layout) (at : Place) (of : Belongs) → back_at of ≡ [] → missing_at of ≡ false → [] ≡ belongs_asked l at of
nothing_asked l at of e f = sym (ap (λ (ns : List ℕ). map (back_asked l at) ns ++ missing_asked l at (missing_at of)) e ∙ ap (missing_asked l at) f)

pub as_much_by : (xs ys : List Act) → xs ≡ ys → AsMuch xs ys
as_much_by xs ys e = subst (λ (zs : List Act). AsMuch xs zs) e (same xs)

pub event_much : (l : Layout) (e : FlowEvent) (at : Place) (a b : List Act) (xs : List Access) → AsMuch a b → AsMuch (acts_with l e at a xs) (acts_with l e at b xs)
event_much l e at a b xs h =
    let whole = whole_asked l at (asks_whole e) in both (whole ++ a) (sets l e xs) (whole ++ b) (sets l e xs) (both whole a whole b (same whole) h) (same (sets l e xs))

-- ---- flows

pub mapped_twice : {L M E : Type 0} (g : L → M) (h : M → E) (f : Flow L) → mapped h (mapped g f) ≡ mapped (λ x. h (g x)) f
mapped_twice g h Skip = refl
mapped_twice g h (Do m) = refl
mapped_twice g h (Stop m) = refl
mapped_twice {L} {M} {E} g h (Then a b) = ap (λ (c : Flow E). Then c (mapped h (mapped g b))) (mapped_twice g h a) ∙ ap (Then (mapped (λ x. h (g x)) a)) (mapped_twice g h b)
mapped_twice {L} {M} {E} g h (Either a b) = ap (λ (c : Flow E). Either c (mapped h (mapped g b))) (mapped_twice g h a) ∙ ap (Either (mapped (λ x. h (g x)) a)) (mapped_twice g h b)
mapped_twice g h (Loop a) = ap Loop (mapped_twice g h a)

module _ {L : Type 0} (a b : L → List Act) (much : (x : L) → AsMuch (a x) (b x)) where
  all_leave : (ls : List L) (v : Values) → after_acts (acts_in (map a ls)) v ≡ after_acts (acts_in (map b ls)) v
  all_leave [] v = refl
  all_leave (x ∷ ls) v =
      acts_both (a x) (acts_in (map a ls)) v ∙ ap (after_acts (acts_in (map a ls))) ((much x).leaves v) ∙ all_leave ls (after_acts (b x) v) ∙ sym (acts_both (b x) (acts_in (map b ls)) v)

  pub flow_refuses : (f : Flow L) (r : Refusal) → IsRefused (mapped a f) r → IsRefused (mapped b f) r
  flow_refuses f r h =
      let t = refused_at a f r h in
      refused_of b f r
      (record {
        before = t.before;
        last = t.last;
        trace = t.trace;
        refused = subst (λ v. AnyRefuses (b t.last) v r) (all_leave t.before start) ((much t.last).refuses (values a t.before) r t.refused);
      })
