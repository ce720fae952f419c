-- The traces of a flow whose events carry a state.
use Rattle.std.proofs.Common.{◌≡◌, inl, inr, ◌↔◌, List, [], ◌∷◌, ◌++◌, refl, sym, ◌∙◌, ap, subst}
use Rattle.hv_rules.specs.Flow.{Flow, Skip, Do, Stop, Then, Either, Loop, Turns, none, more, Ends, Leaves, IsWhole, IsTrace}
use Rattle.hv_flow_traces.specs.Carried.{behind, Steady, carrying, without, after_each, Carries}

module _ {M S : Type 0} (next : M → S → S) where
  -- each event with what those before it leave
  abbrev pub zipped : List M → S → List (M × S)
  zipped [] s = []
  zipped (m ∷ ms) s = (m, s) ∷ zipped ms (next m s)

  after-append : (xs ys : List M) (s : S) → after_each next (xs ++ ys) s ≡ after_each next ys (after_each next xs s)
  after-append [] ys s = refl
  after-append (m ∷ xs) ys s = after-append xs ys (next m s)

  pub zipped-append : (xs ys : List M) (s : S) → zipped (xs ++ ys) s ≡ zipped xs s ++ zipped ys (after_each next xs s)
  zipped-append [] ys s = refl
  zipped-append (m ∷ xs) ys s = ap (λ w. (m, s) ∷ w) (zipped-append xs ys (next m s))

  pub without_zipped : (ms : List M) (s : S) → without (zipped ms s) ≡ ms
  without_zipped [] s = refl
  without_zipped (m ∷ ms) s = ap (λ w. m ∷ w) (without_zipped ms (next m s))

  pub zipped_carries : (ps : List (M × S)) (s : S) → Carries next ps s → ps ≡ zipped (without ps) s
  zipped_carries [] s c = refl
  zipped_carries (p ∷ ps) s c = ap (λ (z : S). (p.0, z) ∷ ps) c.0 ∙ ap (λ w. (p.0, s) ∷ w) (zipped_carries ps (next p.0 s) c.1)

  pub carries_zipped : (ms : List M) (s : S) → Carries next (zipped ms s) s
  carries_zipped [] s = tt
  carries_zipped (m ∷ ms) s = (refl, carries_zipped ms (next m s))

  pub without-append : (ps qs : List (M × S)) → without (ps ++ qs) ≡ without ps ++ without qs
  without-append [] qs = refl
  without-append (p ∷ ps) qs = ap (λ w. p.0 ∷ w) (without-append ps qs)

  pub carries_front : (ps qs : List (M × S)) (s : S) → Carries next (ps ++ qs) s → Carries next ps s
  carries_front [] qs s c = tt
  carries_front (p ∷ ps) qs s c = (c.0, carries_front ps qs (next p.0 s) c.1)

  carries_both : (ps qs : List (M × S)) (s : S) → Carries next ps s → Carries next qs (after_each next (without ps) s) → Carries next (ps ++ qs) s
  carries_both [] qs s c d = d
  carries_both (p ∷ ps) qs s c d = (c.0, carries_both ps qs (next p.0 s) c.1 d)

  -- ---- all runs leave what the text leaves

  turns_leave : (a : Flow M) (s : S) → ((ms : List M) → Ends a ms → after_each next ms s ≡ s) → (ms : List M) → Turns (Ends a) ms → after_each next ms s ≡ s
  turns_leave a s ih ms (none e) = ap (λ w. after_each next w s) e
  turns_leave a s ih ms (more xs ys p t e) = ap (λ w. after_each next w s) e ∙ (after-append xs ys s ∙ (ap (after_each next ys) (ih xs p) ∙ turns_leave a s ih ys t))

  pub leaves_behind : (f : Flow M) (s : S) → Steady next f s → (ms : List M) → Ends f ms → after_each next ms s ≡ behind next f s
  leaves_behind Skip s h ms e = ap (λ w. after_each next w s) e
  leaves_behind (Do m) s h ms e = ap (λ w. after_each next w s) e
  leaves_behind (Stop m) s h ms e = absurd e
  leaves_behind (Then a b) s h ms (xs, ys, p, q, e) =
      ap (λ w. after_each next w s) e ∙ (after-append xs ys s ∙ (ap (after_each next ys) (leaves_behind a s h.0 xs p) ∙ leaves_behind b (behind next a s) h.1 ys q))
  leaves_behind (Either a b) s h ms (inl p) = leaves_behind a s h.0 ms p ∙ h.1
  leaves_behind (Either a b) s h ms (inr p) = leaves_behind b s h.2 ms p ∙ h.3
  leaves_behind (Loop a) s h ms t = turns_leave a s (λ ms p. leaves_behind a s h.0 ms p ∙ h.1) ms t

  -- ---- a trace, with what its events carry

  turns_to : (a : Flow M) (s : S) → ((ms : List M) → Ends a ms → Ends (carrying next a s) (zipped ms s)) → ((ms : List M) → Ends a ms → after_each next ms s ≡ s) → (ms : List M) → Turns (Ends a) ms → Turns (Ends (carrying next a s)) (zipped ms s)
  turns_to a s ih l ms (none e) = none (ap (λ w. zipped w s) e)
  turns_to a s ih l ms (more xs ys p t e) =
      more (zipped xs s) (zipped ys s) (ih xs p) (turns_to a s ih l ys t) (ap (λ w. zipped w s) e ∙ (zipped-append xs ys s ∙ ap (λ (z : S). zipped xs s ++ zipped ys z) (l xs p)))

  ends_to : (f : Flow M) (s : S) → Steady next f s → (ms : List M) → Ends f ms → Ends (carrying next f s) (zipped ms s)
  ends_to Skip s h ms e = ap (λ w. zipped w s) e
  ends_to (Do m) s h ms e = ap (λ w. zipped w s) e
  ends_to (Stop m) s h ms e = e
  ends_to (Then a b) s h ms (xs, ys, p, q, e) = (
    zipped xs s,
    zipped ys (behind next a s),
    ends_to a s h.0 xs p,
    ends_to b (behind next a s) h.1 ys q,
    ap (λ w. zipped w s) e ∙ (zipped-append xs ys s ∙ ap (λ (z : S). zipped xs s ++ zipped ys z) (leaves_behind a s h.0 xs p)),
  )
  ends_to (Either a b) s h ms (inl p) = inl (ends_to a s h.0 ms p)
  ends_to (Either a b) s h ms (inr p) = inr (ends_to b s h.2 ms p)
  ends_to (Loop a) s h ms t = turns_to a s (ends_to a s h.0) (λ ms p. leaves_behind a s h.0 ms p ∙ h.1) ms t

  leaves_to : (f : Flow M) (s : S) → Steady next f s → (ms : List M) → Leaves f ms → Leaves (carrying next f s) (zipped ms s)
  leaves_to Skip s h ms e = e
  leaves_to (Do m) s h ms e = e
  leaves_to (Stop m) s h ms e = ap (λ w. zipped w s) e
  leaves_to (Then a b) s h ms (inl p) = inl (leaves_to a s h.0 ms p)
  leaves_to (Then a b) s h ms (inr (xs, ys, p, q, e)) =
      inr (
        zipped xs s,
        zipped ys (behind next a s),
        ends_to a s h.0 xs p,
        leaves_to b (behind next a s) h.1 ys q,
        ap (λ w. zipped w s) e ∙ (zipped-append xs ys s ∙ ap (λ (z : S). zipped xs s ++ zipped ys z) (leaves_behind a s h.0 xs p)),
      )
  leaves_to (Either a b) s h ms (inl p) = inl (leaves_to a s h.0 ms p)
  leaves_to (Either a b) s h ms (inr p) = inr (leaves_to b s h.2 ms p)
  leaves_to (Loop a) s h ms (xs, ys, t, q, e) = (
    zipped xs s,
    zipped ys s,
    turns_to a s (ends_to a s h.0) (λ ms p. leaves_behind a s h.0 ms p ∙ h.1) xs t,
    leaves_to a s h.0 ys q,
    ap (λ w. zipped w s) e ∙ (zipped-append xs ys s ∙ ap (λ (z : S). zipped xs s ++ zipped ys z) (turns_leave a s (λ ms p. leaves_behind a s h.0 ms p ∙ h.1) xs t)),
  )

  -- ---- and the other way

  abbrev Both : (List M → Type 0) → List (M × S) → S → Type 0
  Both Is ps s = Is (without ps) × Carries next ps s

  joined : (ps xs ys : List (M × S)) (s t : S) → ps ≡ xs ++ ys → Carries next xs s → after_each next (without xs) s ≡ t → Carries next ys t → Carries next ps s
  joined ps xs ys s t e c l d =
      subst (λ w. Carries next w s) (sym e) (carries_both xs ys s c (subst (λ (z : S). Carries next ys z) (sym l) d))

  parted : (ps xs ys : List (M × S)) → ps ≡ xs ++ ys → without ps ≡ without xs ++ without ys
  parted ps xs ys e = ap without e ∙ without-append xs ys

  turns_of : (a : Flow M) (s : S) → ((ps : List (M × S)) → Ends (carrying next a s) ps → Both (Ends a) ps s) → ((ms : List M) → Ends a ms → after_each next ms s ≡ s) → (ps : List (M × S)) → Turns (Ends (carrying next a s)) ps → Both (Turns (Ends a)) ps s
  turns_of a s ih l ps (none e) = (none (ap without e), subst (λ w. Carries next w s) (sym e) tt)
  turns_of a s ih l ps (more xs ys p t e) =
      let q = ih xs p in
      let r = turns_of a s ih l ys t in
      (more (without xs) (without ys) q.0 r.0 (parted ps xs ys e), joined ps xs ys s s e q.1 (l (without xs) q.0) r.1)

  ends_of : (f : Flow M) (s : S) → Steady next f s → (ps : List (M × S)) → Ends (carrying next f s) ps → Both (Ends f) ps s
  ends_of Skip s h ps e = (ap without e, subst (λ w. Carries next w s) (sym e) tt)
  ends_of (Do m) s h ps e = (ap without e, subst (λ w. Carries next w s) (sym e) (refl, tt))
  ends_of (Stop m) s h ps e = absurd e
  ends_of (Then a b) s h ps (xs, ys, p, q, e) =
      let t = ends_of a s h.0 xs p in
      let u = ends_of b (behind next a s) h.1 ys q in
      ((without xs, without ys, t.0, u.0, parted ps xs ys e), joined ps xs ys s (behind next a s) e t.1 (leaves_behind a s h.0 (without xs) t.0) u.1)
  ends_of (Either a b) s h ps (inl p) = let t = ends_of a s h.0 ps p in (inl t.0, t.1)
  ends_of (Either a b) s h ps (inr p) = let t = ends_of b s h.2 ps p in (inr t.0, t.1)
  ends_of (Loop a) s h ps t = turns_of a s (ends_of a s h.0) (λ ms p. leaves_behind a s h.0 ms p ∙ h.1) ps t

  leaves_of : (f : Flow M) (s : S) → Steady next f s → (ps : List (M × S)) → Leaves (carrying next f s) ps → Both (Leaves f) ps s
  leaves_of Skip s h ps e = absurd e
  leaves_of (Do m) s h ps e = absurd e
  leaves_of (Stop m) s h ps e = (ap without e, subst (λ w. Carries next w s) (sym e) (refl, tt))
  leaves_of (Then a b) s h ps (inl p) = let t = leaves_of a s h.0 ps p in (inl t.0, t.1)
  leaves_of (Then a b) s h ps (inr (xs, ys, p, q, e)) =
      let t = ends_of a s h.0 xs p in
      let u = leaves_of b (behind next a s) h.1 ys q in
      (inr (without xs, without ys, t.0, u.0, parted ps xs ys e), joined ps xs ys s (behind next a s) e t.1 (leaves_behind a s h.0 (without xs) t.0) u.1)
  leaves_of (Either a b) s h ps (inl p) = let t = leaves_of a s h.0 ps p in (inl t.0, t.1)
  leaves_of (Either a b) s h ps (inr p) = let t = leaves_of b s h.2 ps p in (inr t.0, t.1)
  leaves_of (Loop a) s h ps (xs, ys, t, q, e) =
      let u = turns_of a s (ends_of a s h.0) (λ ms p. leaves_behind a s h.0 ms p ∙ h.1) xs t in
      let v = leaves_of a s h.0 ys q in
      ((without xs, without ys, u.0, v.0, parted ps xs ys e), joined ps xs ys s s e u.1 (turns_leave a s (λ ms p. leaves_behind a s h.0 ms p ∙ h.1) (without xs) u.0) v.1)

  whole_to : (f : Flow M) (s : S) → Steady next f s → (ms : List M) → IsWhole f ms → IsWhole (carrying next f s) (zipped ms s)
  whole_to f s h ms (inl p) = inl (ends_to f s h ms p)
  whole_to f s h ms (inr p) = inr (leaves_to f s h ms p)

  whole_of : (f : Flow M) (s : S) → Steady next f s → (ps : List (M × S)) → IsWhole (carrying next f s) ps → Both (IsWhole f) ps s
  whole_of f s h ps (inl p) = let t = ends_of f s h ps p in (inl t.0, t.1)
  whole_of f s h ps (inr p) = let t = leaves_of f s h ps p in (inr t.0, t.1)

  pub trace_zipped : (f : Flow M) (s : S) → Steady next f s → (ms : List M) → IsTrace f ms → IsTrace (carrying next f s) (zipped ms s)
  trace_zipped f s h ms (rest, w) = (zipped rest (after_each next ms s), subst (λ z. IsWhole (carrying next f s) z) (zipped-append ms rest s) (whole_to f s h (ms ++ rest) w))

  pub trace_of : (f : Flow M) (s : S) → Steady next f s → (ps : List (M × S)) → IsTrace (carrying next f s) ps → IsTrace f (without ps) × Carries next ps s
  trace_of f s h ps (rest, w) =
      let t = whole_of f s h (ps ++ rest) w in
      ((without rest, subst (λ z. IsWhole f z) (without-append ps rest) t.0), carries_front ps rest s t.1)

  pub traces : (f : Flow M) (s : S) → Steady next f s → (ps : List (M × S)) → IsTrace (carrying next f s) ps ↔ (IsTrace f (without ps) × Carries next ps s)
  traces f s h ps = (trace_of f s h ps, λ t. subst (λ z. IsTrace (carrying next f s) z) (sym (zipped_carries ps s t.1)) (trace_zipped f s h (without ps) t.0))
