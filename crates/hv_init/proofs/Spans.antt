-- What the cells of a span of locals refuse is what the cells of its locals refuse.
use Rattle.std.proofs.Common.{◌≡◌, ◌⊎◌, inl, inr, ◌+◌, ◌-◌, ◌<◌, ◌≤◌, ℕ, zero, suc, true, false, List, [], ◌∷◌, map, refl, sym, ap, subst, arith}
use Rattle.std.proofs.lemmas.Bool.{cases_lt}
use Rattle.hv_tree.specs.declared.place.Place.{Place}
use Rattle.hv_tree.specs.declared.refusal.Refusal.{Refusal}
use Rattle.hv_tree.specs.declared.refusal.Rule.TheVariants as rule
use Rattle.hv_lemmas.proofs.Members.{Among, in_left, in_right, either_in}
use Rattle.hv_flow_pass.specs.Refused.{Values, covers, after_acts}
use Rattle.hv_flow_ends.specs.declared.span.Span.{Span}
use Rattle.hv_flow_ends.specs.Ends.{numbers_from, numbers_in}
use Rattle.hv_init_layout.specs.Spans.{begin, span_of, FollowOneAnother}
use Rattle.hv_init_cells.specs.Layout.{Layout}
use Rattle.hv_init_cells.specs.Acts.{refusal}
use Rattle.hv_init_cells.proofs.Shapes.{covers_of, covers_to}
use Rattle.hv_init_cells.proofs.Playing.{AnyRefuses}
use Rattle.hv_init_cells.proofs.Refusing.{BackRefused}
use Rattle.hv_init.specs.Words.{span_asked}

module _ (l : Layout) (follow : FollowOneAnother l) where
  rises : (n k : ℕ) → begin l n ≤ begin l (n + k)
  rises n zero = let e = ap (begin l) (same n) in omega (arith, e)
    where
      same : (m : ℕ) → m + 0 ≡ m
      same m = omega arith
  rises n (suc k) = let h = rises n k in let f = follow (n + k) in let e = ap (begin l) (next n k) in omega (arith, h, f, e)
    where
      next : (m j : ℕ) → m + suc j ≡ suc (m + j)
      next m j = omega arith

  -- the end of one local more
  one_more : (first k : ℕ) → begin l (first + suc k) ≡ begin l (suc first + k)
  one_more first k = ap (begin l) (next first k)
    where
      next : (m j : ℕ) → m + suc j ≡ suc m + j
      next m j = omega arith

  -- ---- cells

  abbrev Covered : ℕ → ℕ → Type 0
  Covered n i = covers (l.range_of n []) i ≡ true

  -- a cell of the span is that of one of its locals
  of_local : (first count i : ℕ) → covers (span_of l first count) i ≡ true → (n : ℕ) × Among (numbers_from first count) n × Covered n i
  of_local first zero i h =
      let c = covers_of (begin l first) (begin l (first + 0) - begin l first) i h in
      let e = ap (begin l) (same first) in absurd (omega (arith, c.0, c.1, e))
    where
      same : (m : ℕ) → m + 0 ≡ m
      same m = omega arith
  of_local first (suc k) i h = by (cases_lt i (begin l (suc first))) (of_local (suc first) k i)
    where
      within : (begin l first ≤ i) × (i < begin l first + (begin l (first + suc k) - begin l first))
      within = covers_of (begin l first) (begin l (first + suc k) - begin l first) i h

      first_covers : i < begin l (suc first) → Covered first i
      first_covers g = let c = within in let f = follow first in covers_to (begin l first) (l.range_of first []).count i c.0 (omega (arith, g, f))

      rest_covers : begin l (suc first) ≤ i → covers (span_of l (suc first) k) i ≡ true
      rest_covers g =
          let c = within in let e = one_more first k in let f = follow first in
          covers_to (begin l (suc first)) (begin l (suc first + k) - begin l (suc first)) i g (omega (arith, g, c.1, e, f))

      by : (i < begin l (suc first)) ⊎ (begin l (suc first) ≤ i) → (covers (span_of l (suc first) k) i ≡ true → (n : ℕ) × Among (numbers_from (suc first) k) n × Covered n i) → (n : ℕ) × Among (numbers_from first (suc k)) n × Covered n i
      by (inl g) rest = (first, inl refl, first_covers g)
      by (inr g) rest = let t = rest (rest_covers g) in (t.0, inr t.1, t.2)

  -- and the other way
  of_span : (first count n i : ℕ) → Among (numbers_from first count) n → Covered n i → covers (span_of l first count) i ≡ true
  of_span first zero n i a h = absurd a
  of_span first (suc k) n i (inl e) h =
      let c = covers_of (begin l first) (l.range_of first []).count i (subst (λ (m : ℕ). Covered m i) (sym e) h) in
      let f = follow first in let r = rises (suc first) k in let m = one_more first k in
      covers_to (begin l first) (begin l (first + suc k) - begin l first) i c.0 (omega (arith, c.0, c.1, f, r, m))
  of_span first (suc k) n i (inr a) h =
      let c = covers_of (begin l (suc first)) (begin l (suc first + k) - begin l (suc first)) i (of_span (suc first) k n i a h) in
      let f = follow first in let m = one_more first k in
      covers_to (begin l first) (begin l (first + suc k) - begin l first) i (omega (arith, c.0, f)) (omega (arith, c.0, c.1, f, m))

  -- ---- acts

  pub spans_refuse : (at : Place) (spans : List Span) (v : Values) (r : Refusal) → AnyRefuses (map (span_asked l at) spans) v r → (r ≡ refusal rule.I2 at) × BackRefused l (numbers_in spans) v
  spans_refuse at [] v r h = absurd h
  spans_refuse at (s ∷ spans) v r (inl (e, (i, c, value))) =
      let t = of_local s.first s.count i c in (e, (t.0, in_left (numbers_from s.first s.count) (numbers_in spans) t.0 t.1, (i, t.2, value)))
  spans_refuse at (s ∷ spans) v r (inr h) =
      let t = spans_refuse at spans v r h in let u = t.1 in (t.0, (u.0, in_right (numbers_from s.first s.count) (numbers_in spans) u.0 u.1, u.2))

  pub spans_refused : (at : Place) (spans : List Span) (n : ℕ) (v : Values) → Among (numbers_in spans) n → (i : ℕ) × Covered n i × (v i ≡ false) → AnyRefuses (map (span_asked l at) spans) v (refusal rule.I2 at)
  spans_refused at [] n v a h = absurd a
  spans_refused at (s ∷ spans) n v a (i, c, value) = by (either_in (numbers_from s.first s.count) (numbers_in spans) n a) (λ b. spans_refused at spans n v b (i, c, value))
    where
      by : Among (numbers_from s.first s.count) n ⊎ Among (numbers_in spans) n → (Among (numbers_in spans) n → AnyRefuses (map (span_asked l at) spans) v (refusal rule.I2 at)) → AnyRefuses (map (span_asked l at) (s ∷ spans)) v (refusal rule.I2 at)
      by (inl b) rest = inl (refl, (i, of_span s.first s.count n i b c, value))
      by (inr b) rest = inr (rest b)

pub spans_keep : (l : Layout) (at : Place) (spans : List Span) (v : Values) → after_acts (map (span_asked l at) spans) v ≡ v
spans_keep l at [] v = refl
spans_keep l at (s ∷ spans) v = spans_keep l at spans v
