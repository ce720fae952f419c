-- What the acts of a body refuse is what violates the rules on initialisation.
use Rattle.std.proofs.Common.{arith, ◌≡◌, ◌⊎◌, inl, inr, ◌↔◌, ℕ, Bool, true, false, if◌then◌else◌, List, [], ◌∷◌, ◌++◌, map, Option, Some, None, refl, sym, ap, subst, ◌∙◌}
use Rattle.hv_tree.specs.declared.place.Place.{Place}
use Rattle.hv_tree.specs.declared.refusal.Refusal.{Refusal}
use Rattle.hv_tree.specs.declared.refusal.Rule.{Rule}
use Rattle.hv_tree.specs.declared.refusal.Rule.TheVariants as rule
use Rattle.hv_tree.specs.Core.{Core}
use Rattle.hv_decls.specs.declared.path.StaticPath.{StaticPath}
use Rattle.hv_rules.specs.declared.event.FlowEvent.{FlowEvent}
use Rattle.hv_rules.specs.declared.event.FlowEvent.TheVariants as event
use Rattle.hv_tree.specs.Earlier.{IsFirst}
use Rattle.hv_decls.specs.Locals.{CoreBody}
use Rattle.hv_rules.specs.Events.{Mark}
use Rattle.hv_rules.specs.States.{fields_of, Mode, Reading, Writing, Setting, Access, last_called, Filled, Open, state_after}
use Rattle.hv_decls.specs.Paths.{has_index}
use Rattle.hv_rules.specs.Rules.{Trace, asks_whole, back_at, missing_at, HasHole, Violates}
use Rattle.hv_rules.specs.Accepted.{InitPhase, phase_of}
use Rattle.hv_lemmas.proofs.Members.{Among, listed, contained}
use Rattle.hv_flow_pass.specs.declared.act.Act.{Act}
use Rattle.hv_flow_pass.specs.declared.act.Act.TheVariants as act
use Rattle.hv_flow_pass.specs.Refused.{Values, covers, after_acts, IsRefused}
use Rattle.hv_flow_pass.proofs.Firsts.{same_first}
use Rattle.hv_flow_traces.specs.Carried.{without}
use Rattle.hv_flow_traces.specs.Opened.{opened_at}
use Rattle.hv_flow_traces.proofs.OpenedLemmas.{is_opened_at}
use Rattle.hv_init_cells.specs.Layout.{Layout, IsOf, SpeaksOf, Occurs, leaf_of, AsksFor, Fits}
use Rattle.hv_init_cells.specs.Acts.{refusal, cells, whole_asked, back_asked, missing_asked, set_path, set_by_mode, set_at_close, sets, acts_at, acts_of}
use Rattle.hv_init_cells.specs.Law.{values_after, IsViolatedBy}
use Rattle.hv_init_cells.proofs.Playing.{AnyRefuses, any_of, any_left, any_right, refused_at, refused_of}
use Rattle.hv_init_cells.proofs.Shapes.{covers_to}
use Rattle.hv_init_cells.proofs.Telling.{never, whole_keeps, back_keeps, front, known, Says, says_after}

-- ---- what is set refuses nothing

path_quiet : (l : Layout) (p : StaticPath) (value : Bool) (v : Values) (r : Refusal) → AnyRefuses (set_path l p value) v r → ⊥
path_quiet l p value v r h = by (has_index p.steps) h
  where
    by : (b : Bool) → AnyRefuses (if b then [] else act.Set (cells l p) value ∷ []) v r → ⊥
    by true g = g
    by false (inl g) = g
    by false (inr g) = g

mode_quiet : (l : Layout) (p : StaticPath) (m : Mode) (v : Values) (r : Refusal) → AnyRefuses (set_by_mode l p m) v r → ⊥
mode_quiet l p Reading v r h = h
mode_quiet l p Writing v r h = h
mode_quiet l p Setting v r h = path_quiet l p true v r h

close_quiet : (l : Layout) (a : Option Access) (v : Values) (r : Refusal) → AnyRefuses (set_at_close l a) v r → ⊥
close_quiet l None v r h = h
close_quiet l (Some a) v r h = mode_quiet l a.path a.mode v r h

sets_quiet : (l : Layout) (e : FlowEvent) (xs : List Access) (v : Values) (r : Refusal) → AnyRefuses (sets l e xs) v r → ⊥
sets_quiet l event.Entry xs v r h = h
sets_quiet l (event.Declare n) xs v r (inl h) = h
sets_quiet l (event.Declare n) xs v r (inr h) = h
sets_quiet l (event.Init p) xs v r h = path_quiet l p true v r h
sets_quiet l (event.Use p) xs v r h = h
sets_quiet l (event.Move p) xs v r h = path_quiet l p false v r h
sets_quiet l (event.OpenRead p) xs v r h = h
sets_quiet l (event.OpenWrite p) xs v r h = h
sets_quiet l (event.OpenSet p) xs v r h = path_quiet l p false v r h
sets_quiet l event.Close xs v r h = close_quiet l (last_called xs) v r h
sets_quiet l (event.Spawn n) xs v r h = h
sets_quiet l (event.Await n) xs v r h = h
sets_quiet l event.Return xs v r h = h
sets_quiet l (event.ScopeEnd n) xs v r h = h

-- ---- what is asked

-- a cell of the range is a no
abbrev HasNo : Layout → ℕ → List ℕ → Values → Type 0
HasNo l root fields v = (i : ℕ) × (covers (l.range_of root fields) i ≡ true) × (v i ≡ false)

abbrev WholeRefused : Layout → Option StaticPath → Values → Type 0
WholeRefused l o v = (p : StaticPath) × (o ≡ Some p) × HasNo l p.root (fields_of p.steps) v

whole_refuses : (l : Layout) (at : Place) (o : Option StaticPath) (v : Values) (r : Refusal) → AnyRefuses (whole_asked l at o) v r → (r ≡ refusal rule.I1 at) × WholeRefused l o v
whole_refuses l at None v r h = absurd h
whole_refuses l at (Some p) v r (inl (e, n)) = (e, (p, refl, n))
whole_refuses l at (Some p) v r (inr h) = absurd h

whole_refused : (l : Layout) (at : Place) (o : Option StaticPath) (p : StaticPath) (v : Values) → o ≡ Some p → HasNo l p.root (fields_of p.steps) v → AnyRefuses (whole_asked l at o) v (refusal rule.I1 at)
whole_refused l at o p v e n = subst (λ (z : Option StaticPath). AnyRefuses (whole_asked l at z) v (refusal rule.I1 at)) (sym e) (inl (refl, n))

abbrev pub BackRefused : Layout → List ℕ → Values → Type 0
BackRefused l ns v = (n : ℕ) × Among ns n × HasNo l n [] v

pub back_refuses : (l : Layout) (at : Place) (ns : List ℕ) (v : Values) (r : Refusal) → AnyRefuses (map (back_asked l at) ns) v r → (r ≡ refusal rule.I2 at) × BackRefused l ns v
back_refuses l at [] v r h = absurd h
back_refuses l at (n ∷ ns) v r (inl (e, i)) = (e, (n, inl refl, i))
back_refuses l at (n ∷ ns) v r (inr h) = let t = back_refuses l at ns v r h in let u = t.1 in (t.0, (u.0, inr u.1, u.2))

pub back_refused : (l : Layout) (at : Place) (ns : List ℕ) (n : ℕ) (v : Values) → Among ns n → HasNo l n [] v → AnyRefuses (map (back_asked l at) ns) v (refusal rule.I2 at)
back_refused l at [] n v a h = absurd a
back_refused l at (k ∷ ns) n v (inl e) h = inl (refl, subst (λ (z : ℕ). HasNo l z [] v) (sym e) h)
back_refused l at (k ∷ ns) n v (inr a) h = inr (back_refused l at ns n v a h)

missing_refuses : (l : Layout) (at : Place) (b : Bool) (v : Values) (r : Refusal) → AnyRefuses (missing_asked l at b) v r → (r ≡ refusal rule.I3 at) × (b ≡ true)
missing_refuses l at true v r (inl (e, n)) = (e, refl)
missing_refuses l at true v r (inr h) = absurd h
missing_refuses l at false v r h = absurd h

one_cell : (i : ℕ) → covers (record { from = i; count = 1 }) i ≡ true
one_cell i = covers_to i 1 i (omega arith) (omega arith)

missing_refused : (l : Layout) (at : Place) (b : Bool) (v : Values) → b ≡ true → v l.free ≡ false → AnyRefuses (missing_asked l at b) v (refusal rule.I3 at)
missing_refused l at true v e h = inl (refl, (l.free, one_cell l.free, h))
missing_refused l at false v e h = cc

-- a mark's
abbrev Refused : Layout → Mark → Values → Refusal → Type 0
Refused l m v r =
    ((r ≡ refusal rule.I1 m.place) × WholeRefused l (asks_whole m.event) v) ⊎ (((r ≡ refusal rule.I2 m.place) × BackRefused l (back_at m.belongs) v) ⊎ ((r ≡ refusal rule.I3 m.place) × (missing_at m.belongs ≡ true)))

module _ (l : Layout) (m : Mark) (xs : List Access) where
  abbrev first : List Act
  first = whole_asked l m.place (asks_whole m.event)

  abbrev second : List Act
  second = map (back_asked l m.place) (back_at m.belongs)

  abbrev third : List Act
  third = missing_asked l m.place (missing_at m.belongs)

  refuses_so : (v : Values) (r : Refusal) → AnyRefuses (acts_at l (m, xs)) v r → Refused l m v r
  refuses_so v r h = by (any_of (first ++ (second ++ third)) (sets l m.event xs) v r h)
    where
      last_two : AnyRefuses second v r ⊎ AnyRefuses third (after_acts second v) r → Refused l m v r
      last_two (inl g) = inr (inl (back_refuses l m.place (back_at m.belongs) v r g))
      last_two (inr g) = inr (inr (missing_refuses l m.place (missing_at m.belongs) (after_acts second v) r g))

      three : AnyRefuses first v r ⊎ AnyRefuses (second ++ third) (after_acts first v) r → Refused l m v r
      three (inl g) = inl (whole_refuses l m.place (asks_whole m.event) v r g)
      three (inr g) = last_two (any_of second third v r (subst (λ w. AnyRefuses (second ++ third) w r) (whole_keeps l m.place (asks_whole m.event) v) g))

      by : AnyRefuses (first ++ (second ++ third)) v r ⊎ AnyRefuses (sets l m.event xs) (after_acts (first ++ (second ++ third)) v) r → Refused l m v r
      by (inl g) = three (any_of first (second ++ third) v r g)
      by (inr g) = absurd (sets_quiet l m.event xs (after_acts (first ++ (second ++ third)) v) r g)

  first_refused : (v : Values) (r : Refusal) → AnyRefuses first v r → AnyRefuses (acts_at l (m, xs)) v r
  first_refused v r h = any_left (first ++ (second ++ third)) (sets l m.event xs) v r (any_left first (second ++ third) v r h)

  others_refused : (v : Values) (r : Refusal) → AnyRefuses (second ++ third) v r → AnyRefuses (acts_at l (m, xs)) v r
  others_refused v r h =
      any_left (first ++ (second ++ third)) (sets l m.event xs) v r
      (any_right first (second ++ third) v r (subst (λ w. AnyRefuses (second ++ third) w r) (sym (whole_keeps l m.place (asks_whole m.event) v)) h))

  second_refused : (v : Values) (r : Refusal) → AnyRefuses second v r → AnyRefuses (acts_at l (m, xs)) v r
  second_refused v r h = others_refused v r (any_left second third v r h)

  third_refused : (v : Values) (r : Refusal) → AnyRefuses third v r → AnyRefuses (acts_at l (m, xs)) v r
  third_refused v r h = others_refused v r (any_right second third v r (subst (λ w. AnyRefuses third w r) (sym (back_keeps l m.place (back_at m.belongs) v)) h))

-- ---- what is asked was named

same_path : (q p : StaticPath) → q ≡ p → IsOf q p.root (fields_of p.steps)
same_path q p e = (ap (λ (z : StaticPath). z.root) e, ap (λ (z : StaticPath). fields_of z.steps) e)

some_path : (q p : StaticPath) → Some q ≡ Some p → IsOf q p.root (fields_of p.steps)
some_path q p e = same_path q p (cc)

chosen_path : (b : Bool) (q p : StaticPath) → (if b then Some q else None) ≡ Some p → IsOf q p.root (fields_of p.steps)
chosen_path true q p e = some_path q p e
chosen_path false q p e = cc

asked_named : (e : FlowEvent) (p : StaticPath) → asks_whole e ≡ Some p → SpeaksOf e p.root (fields_of p.steps)
asked_named event.Entry p e = cc
asked_named (event.Declare n) p e = cc
asked_named (event.Init q) p e = chosen_path (has_index q.steps) q p e
asked_named (event.Use q) p e = some_path q p e
asked_named (event.Move q) p e = some_path q p e
asked_named (event.OpenRead q) p e = some_path q p e
asked_named (event.OpenWrite q) p e = some_path q p e
asked_named (event.OpenSet q) p e = chosen_path (has_index q.steps) q p e
asked_named event.Close p e = cc
asked_named (event.Spawn n) p e = cc
asked_named (event.Await n) p e = cc
asked_named event.Return p e = cc
asked_named (event.ScopeEnd n) p e = cc

-- ---- the rules on initialisation

init_rule : (k : Rule) → phase_of k ≡ Some InitPhase → (k ≡ rule.I1) ⊎ ((k ≡ rule.I2) ⊎ (k ≡ rule.I3))
init_rule rule.I1 e = inl refl
init_rule rule.I2 e = inr (inl refl)
init_rule rule.I3 e = inr (inr refl)
init_rule _ e = cc

-- ---- a body

module _ (tree : Core) (body : CoreBody) (l : Layout) (fit : Fits tree body l) where
  hole_of : (ms : List Mark) (root : ℕ) (fields : List ℕ) (v : Values) → Occurs tree body root fields → Says tree body l fit (Filled ms) v → HasNo l root fields v → HasHole tree body (state_after ms) root fields
  hole_of ms root fields v o h (i, c, n) =
      let t = fit.only root fields o i c in (t.1, t.2, t.3, sym (h.0 (leaf_of root t.1) t.2 t.0) ∙ ap v t.4 ∙ n)

  -- what has no cells has no hole where it is asked for
  no_of : (ms : List Mark) (m : Mark) (root : ℕ) (fields : List ℕ) (v : Values) → Trace tree body (ms ++ m ∷ []) → Occurs tree body root fields → AsksFor m root → Says tree body l fit (Filled ms) v → HasHole tree body (state_after ms) root fields → HasNo l root fields v
  no_of ms m root fields v t o a h (leaf, i, f, n) = by (l.tracks root) refl
    where
      by : (b : Bool) → l.tracks root ≡ b → HasNo l root fields v
      by true e = (l.cell_of (leaf_of root leaf), fit.told root fields o e leaf i ∙ f, h.0 (leaf_of root leaf) i e ∙ n)
      by false e = absurd (never (Filled ms (leaf_of root leaf)) n (fit.steady root e ms m t a leaf i))

  violation : (ms : List Mark) (m : Mark) (r : Refusal) (k : Rule) → r ≡ refusal k m.place → phase_of k ≡ Some InitPhase → Trace tree body (ms ++ m ∷ []) → Violates tree body (state_after ms) k m → IsViolatedBy tree body r
  violation ms m r k e p t v =
      let f = ap (λ (q : Refusal). q.rule) e in (
        ap phase_of f ∙ p,
        record { before = ms; last = m; trace = t; at = sym (ap (λ (q : Refusal). q.place) e); violates = subst (λ (z : Rule). Violates tree body (state_after ms) z m) (sym f) v },
      )

  pub violated : (r : Refusal) → IsRefused (acts_of tree body l) r → IsViolatedBy tree body r
  violated r h =
      let t = refused_at (acts_at l) (opened_at tree body) r h in
      let m = t.last.0 in
      let o = (is_opened_at tree body).only t.before m t.last.1 t.trace in
      let says = says_after tree body l fit t.before (front (opened_at tree body) t.before (t.last ∷ []) t.trace) in
      by (without t.before) m (values_after l t.before) o.0 says (refuses_so l m t.last.1 (values_after l t.before) r t.refused)
    where
      by : (ms : List Mark) (m : Mark) (v : Values) → Trace tree body (ms ++ m ∷ []) → Says tree body l fit (Filled ms) v → Refused l m v r → IsViolatedBy tree body r
      by ms m v t h (inl (e, (p, a, n))) =
          violation ms m r rule.I1 e refl t (p, a, hole_of ms p.root (fields_of p.steps) v (known tree body ms m t p.root (fields_of p.steps) (inl (asked_named m.event p a))) h n)
      by ms m v t h (inr (inl (e, (n, a, c)))) =
          let i = contained (back_at m.belongs) n a in violation ms m r rule.I2 e refl t (n, i, hole_of ms n [] v (known tree body ms m t n [] (inr (i, refl))) h c)
      by ms m v t h (inr (inr (e, a))) = violation ms m r rule.I3 e refl t a

  -- and the other way
  refused_for : (ms : List Mark) (m : Mark) (v : Values) (k : Rule) → Trace tree body (ms ++ m ∷ []) → Says tree body l fit (Filled ms) v → (k ≡ rule.I1) ⊎ ((k ≡ rule.I2) ⊎ (k ≡ rule.I3)) → Violates tree body (state_after ms) k m →
      AnyRefuses (acts_at l (m, Open ms)) v (refusal k m.place)
  refused_for ms m v k t h (inl e) g =
      let w = subst (λ (z : Rule). Violates tree body (state_after ms) z m) e g in
      let p = w.0 in
      let n = no_of ms m p.root (fields_of p.steps) v t (known tree body ms m t p.root (fields_of p.steps) (inl (asked_named m.event p w.1))) (inl (p, w.1, refl)) h w.2 in
      subst (λ (z : Rule). AnyRefuses (acts_at l (m, Open ms)) v (refusal z m.place)) (sym e) (first_refused l m (Open ms) v (refusal rule.I1 m.place) (whole_refused l m.place (asks_whole m.event) p v w.1 n))
  refused_for ms m v k t h (inr (inl e)) g =
      let w = subst (λ (z : Rule). Violates tree body (state_after ms) z m) e g in
      let n = no_of ms m w.0 [] v t (known tree body ms m t w.0 [] (inr (w.1, refl))) (inr w.1) h w.2 in
      subst (λ (z : Rule). AnyRefuses (acts_at l (m, Open ms)) v (refusal z m.place)) (sym e)
      (second_refused l m (Open ms) v (refusal rule.I2 m.place) (back_refused l m.place (back_at m.belongs) w.0 v (listed (back_at m.belongs) w.0 w.1) n))
  refused_for ms m v k t h (inr (inr e)) g =
      let w = subst (λ (z : Rule). Violates tree body (state_after ms) z m) e g in
      subst (λ (z : Rule). AnyRefuses (acts_at l (m, Open ms)) v (refusal z m.place)) (sym e)
      (third_refused l m (Open ms) v (refusal rule.I3 m.place) (missing_refused l m.place (missing_at m.belongs) v w h.1))

  pub refused : (r : Refusal) → IsViolatedBy tree body r → IsRefused (acts_of tree body l) r
  refused r (phase, h) =
      let t = (is_opened_at tree body).there h.before h.last h.trace in
      let ps = t.0 in
      let says = subst (λ (ms : List Mark). Says tree body l fit (Filled ms) (values_after l ps)) t.2 (says_after tree body l fit ps (front (opened_at tree body) ps ((h.last, Open h.before) ∷ []) t.1)) in
      refused_of (acts_at l) (opened_at tree body) r
      (record {
        before = ps;
        last = (h.last, Open h.before);
        trace = t.1;
        refused = subst (λ (z : Place). AnyRefuses (acts_at l (h.last, Open h.before)) (values_after l ps) (refusal r.rule z)) h.at
            (refused_for h.before h.last (values_after l ps) r.rule h.trace says (init_rule r.rule phase) h.violates);
      })

  pub both : (r : Refusal) → IsRefused (acts_of tree body l) r ↔ IsViolatedBy tree body r
  both r = (violated r, refused r)

  pub first_violation : (v : Option Refusal) → IsFirst (IsRefused (acts_of tree body l)) v → IsFirst (IsViolatedBy tree body) v
  first_violation v h = same_first (IsRefused (acts_of tree body l)) (IsViolatedBy tree body) v violated refused h
