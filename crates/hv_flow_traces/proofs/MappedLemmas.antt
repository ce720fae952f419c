-- The traces of a flow whose events are replaced.
use Rattle.std.proofs.Common.{◌≡◌, inl, inr, ◌↔◌, List, [], ◌∷◌, ◌++◌, map, refl, sym, ◌∙◌, ap, subst}
use Rattle.hv_rules.specs.Flow.{Flow, Skip, Do, Stop, Then, Either, Loop, Turns, none, more, Ends, Leaves, IsWhole, IsTrace}
use Rattle.hv_flow_traces.specs.Mapped.{mapped}

pub map-append : {M E : Type 0} (g : M → E) (xs ys : List M) → map g (xs ++ ys) ≡ map g xs ++ map g ys
map-append g [] ys = refl
map-append g (x ∷ xs) ys = ap (λ w. g x ∷ w) (map-append g xs ys)

module _ {M E : Type 0} (g : M → E) where
  turns_mapped : (a : Flow M) → ((ms : List M) → Ends a ms → Ends (mapped g a) (map g ms)) → (ms : List M) → Turns (Ends a) ms → Turns (Ends (mapped g a)) (map g ms)
  turns_mapped a ih ms (none e) = none (ap (map g) e)
  turns_mapped a ih ms (more xs ys p t e) = more (map g xs) (map g ys) (ih xs p) (turns_mapped a ih ys t) (ap (map g) e ∙ map-append g xs ys)

  ends_mapped : (f : Flow M) (ms : List M) → Ends f ms → Ends (mapped g f) (map g ms)
  ends_mapped Skip ms e = ap (map g) e
  ends_mapped (Do m) ms e = ap (map g) e
  ends_mapped (Stop m) ms e = e
  ends_mapped (Then a b) ms (xs, ys, p, q, e) = (map g xs, map g ys, ends_mapped a xs p, ends_mapped b ys q, ap (map g) e ∙ map-append g xs ys)
  ends_mapped (Either a b) ms (inl p) = inl (ends_mapped a ms p)
  ends_mapped (Either a b) ms (inr p) = inr (ends_mapped b ms p)
  ends_mapped (Loop a) ms t = turns_mapped a (ends_mapped a) ms t

  leaves_mapped : (f : Flow M) (ms : List M) → Leaves f ms → Leaves (mapped g f) (map g ms)
  leaves_mapped Skip ms e = e
  leaves_mapped (Do m) ms e = e
  leaves_mapped (Stop m) ms e = ap (map g) e
  leaves_mapped (Then a b) ms (inl p) = inl (leaves_mapped a ms p)
  leaves_mapped (Then a b) ms (inr (xs, ys, p, q, e)) = inr (map g xs, map g ys, ends_mapped a xs p, leaves_mapped b ys q, ap (map g) e ∙ map-append g xs ys)
  leaves_mapped (Either a b) ms (inl p) = inl (leaves_mapped a ms p)
  leaves_mapped (Either a b) ms (inr p) = inr (leaves_mapped b ms p)
  leaves_mapped (Loop a) ms (xs, ys, t, q, e) = (map g xs, map g ys, turns_mapped a (ends_mapped a) xs t, leaves_mapped a ys q, ap (map g) e ∙ map-append g xs ys)

  -- replaced events that are so
  abbrev Replaced : (List M → Type 0) → List E → Type 0
  Replaced Is es = (ms : List M) × Is ms × (es ≡ map g ms)

  joined : (P Q R : List M → Type 0) (es xs ys : List E) → ((us vs : List M) → P us → Q vs → R (us ++ vs)) → Replaced P xs → Replaced Q ys → es ≡ xs ++ ys → Replaced R es
  joined P Q R es xs ys h (us, p, e) (vs, q, d) k = (us ++ vs, h us vs p q, k ∙ (ap (λ w. w ++ ys) e ∙ (ap (λ w. map g us ++ w) d ∙ sym (map-append g us vs))))

  turns_of : (a : Flow M) → ((es : List E) → Ends (mapped g a) es → Replaced (Ends a) es) → (es : List E) → Turns (Ends (mapped g a)) es → Replaced (Turns (Ends a)) es
  turns_of a ih es (none e) = ([], none refl, e)
  turns_of a ih es (more xs ys p t e) = joined (Ends a) (Turns (Ends a)) (Turns (Ends a)) es xs ys (λ us vs q s. more us vs q s refl) (ih xs p) (turns_of a ih ys t) e

  ends_of : (f : Flow M) (es : List E) → Ends (mapped g f) es → Replaced (Ends f) es
  ends_of Skip es e = ([], refl, e)
  ends_of (Do m) es e = (m ∷ [], refl, e)
  ends_of (Stop m) es e = absurd e
  ends_of (Then a b) es (xs, ys, p, q, e) = joined (Ends a) (Ends b) (Ends (Then a b)) es xs ys (λ us vs r s. (us, vs, r, s, refl)) (ends_of a xs p) (ends_of b ys q) e
  ends_of (Either a b) es (inl p) = let t = ends_of a es p in (t.0, inl t.1, t.2)
  ends_of (Either a b) es (inr p) = let t = ends_of b es p in (t.0, inr t.1, t.2)
  ends_of (Loop a) es t = turns_of a (ends_of a) es t

  leaves_of : (f : Flow M) (es : List E) → Leaves (mapped g f) es → Replaced (Leaves f) es
  leaves_of Skip es e = absurd e
  leaves_of (Do m) es e = absurd e
  leaves_of (Stop m) es e = (m ∷ [], refl, e)
  leaves_of (Then a b) es (inl p) = let t = leaves_of a es p in (t.0, inl t.1, t.2)
  leaves_of (Then a b) es (inr (xs, ys, p, q, e)) = joined (Ends a) (Leaves b) (Leaves (Then a b)) es xs ys (λ us vs r s. inr (us, vs, r, s, refl)) (ends_of a xs p) (leaves_of b ys q) e
  leaves_of (Either a b) es (inl p) = let t = leaves_of a es p in (t.0, inl t.1, t.2)
  leaves_of (Either a b) es (inr p) = let t = leaves_of b es p in (t.0, inr t.1, t.2)
  leaves_of (Loop a) es (xs, ys, t, q, e) = joined (Turns (Ends a)) (Leaves a) (Leaves (Loop a)) es xs ys (λ us vs r s. (us, vs, r, s, refl)) (turns_of a (ends_of a) xs t) (leaves_of a ys q) e

  whole_of : (f : Flow M) (es : List E) → IsWhole (mapped g f) es → Replaced (IsWhole f) es
  whole_of f es (inl p) = let t = ends_of f es p in (t.0, inl t.1, t.2)
  whole_of f es (inr p) = let t = leaves_of f es p in (t.0, inr t.1, t.2)

  whole_mapped : (f : Flow M) (ms : List M) → IsWhole f ms → IsWhole (mapped g f) (map g ms)
  whole_mapped f ms (inl p) = inl (ends_mapped f ms p)
  whole_mapped f ms (inr p) = inr (leaves_mapped f ms p)

  -- a front of replaced events
  pub record Front (es rest : List E) (ws : List M) : Type 0 where
    pub us : List M
    pub vs : List M
    pub split : ws ≡ us ++ vs
    pub front : es ≡ map g us

  front : (es rest : List E) (ws : List M) → es ++ rest ≡ map g ws → Front es rest ws
  front [] rest ws h = record { us = []; vs = ws; split = refl; front = refl }
  front (e ∷ es) rest [] h = cc
  front (e ∷ es) rest (w ∷ ws) h = by (front es rest ws (cc)) (cc)
    where
      by : Front es rest ws → e ≡ g w → Front (e ∷ es) rest (w ∷ ws)
      by t q = record { us = w ∷ t.us; vs = t.vs; split = ap (λ z. w ∷ z) t.split; front = ap (λ z. z ∷ es) q ∙ ap (λ z. g w ∷ z) t.front }

  trace_of : (f : Flow M) (es : List E) → IsTrace (mapped g f) es → (ms : List M) × IsTrace f ms × (es ≡ map g ms)
  trace_of f es (rest, w) =
      let t = whole_of f (es ++ rest) w in
      let s = front es rest t.0 t.2 in
      (s.us, (s.vs, subst (λ z. IsWhole f z) s.split t.1), s.front)

  trace_to : (f : Flow M) (es : List E) → (ms : List M) × IsTrace f ms × (es ≡ map g ms) → IsTrace (mapped g f) es
  trace_to f es (ms, (rest, w), e) =
      (map g rest, subst (λ z. IsWhole (mapped g f) z) (map-append g ms rest ∙ ap (λ z. z ++ map g rest) (sym e)) (whole_mapped f (ms ++ rest) w))

  pub traces : (f : Flow M) (es : List E) → IsTrace (mapped g f) es ↔ ((ms : List M) × IsTrace f ms × (es ≡ map g ms))
  traces f es = (trace_of f es, trace_to f es)
