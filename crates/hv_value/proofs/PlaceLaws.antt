-- Reading and writing at paths. `put` leaves the tree as it is where the path doesn't fit, so only laws that say so have a premise.
use Rattle.std.proofs.Common.{◌≡◌, ℕ, suc, true, false, [], ◌∷◌, ◌++◌, append-nil, Option, Some, None, arith, option_map, option_and_then, ◌⊎◌, inl, inr, refl, sym, ap, ◌∙◌, subst, true≢false}
use Rattle.hv_value.specs.declared.value.PathStep.{PathStep}
use Rattle.hv_value.specs.ValueTree.{ValueTree}
use Rattle.hv_value.specs.Places.{Path, part, get, put, same_step, apart, one_more, reach}
use Rattle.hv_value.proofs.PartLaws.{step_tells, same_step-refl, same_step-sym, part-same, part-other, change-ext, change-twice, change-swap, change-agree, change-kept}

through : (o : Option ValueTree) (f : ValueTree → ValueTree) (g h : ValueTree → Option ValueTree) → ((c : ValueTree) → g (f c) ≡ h c) → option_and_then g (option_map f o) ≡ option_and_then h o
through None f g h k = refl
through (Some c) f g h k = k c

-- ---- apart

-- two paths that are apart part here, or further on
pub apart_here : (s r : PathStep) (p q : Path) → apart (s ∷ p) (r ∷ q) ≡ true → (same_step s r ≡ false) ⊎ ((s ≡ r) × (apart p q ≡ true))
apart_here s r p q h = go (step_tells s r)
  where
    go : ((same_step s r ≡ true) × (s ≡ r)) ⊎ (same_step s r ≡ false) → (same_step s r ≡ false) ⊎ ((s ≡ r) × (apart p q ≡ true))
    go (inl e) = inr (e.1, rw e.0 at h)
    go (inr e) = inl e

pub apart-sym : (p q : Path) → apart p q ≡ true → apart q p ≡ true
apart-sym [] q h = absurd (true≢false (sym h))
apart-sym (s ∷ p) [] h = absurd (true≢false (sym h))
apart-sym (s ∷ p) (r ∷ q) h = go r (apart-sym p q) (apart_here s r p q h)
  where
    go : (r : PathStep) → (apart p q ≡ true → apart q p ≡ true) → (same_step s r ≡ false) ⊎ ((s ≡ r) × (apart p q ≡ true)) → apart (r ∷ q) (s ∷ p) ≡ true
    go r ih (inl d) = rw (same_step-sym s r d) refl
    go r ih (inr e) = subst (λ x. apart (x ∷ q) (s ∷ p) ≡ true) e.0 (rw (same_step-refl s) (ih e.1))

-- what lies in one of the two is apart too
pub apart-append : (p q r : Path) → apart p q ≡ true → apart p (q ++ r) ≡ true
apart-append [] q r h = absurd (true≢false (sym h))
apart-append (s ∷ p) [] r h = absurd (true≢false (sym h))
apart-append (s ∷ p) (t ∷ q) r h = go t (apart-append p q r) (apart_here s t p q h)
  where
    go : (t : PathStep) → (apart p q ≡ true → apart p (q ++ r) ≡ true) → (same_step s t ≡ false) ⊎ ((s ≡ t) × (apart p q ≡ true)) → apart (s ∷ p) (t ∷ (q ++ r)) ≡ true
    go t ih (inl d) = rw d refl
    go t ih (inr e) = subst (λ x. apart (s ∷ p) (x ∷ (q ++ r)) ≡ true) e.0 (rw (same_step-refl s) (ih e.1))

pub apart-below : (r p q : Path) → apart (r ++ p) (r ++ q) ≡ apart p q
apart-below [] p q = refl
apart-below (s ∷ r) p q = rw (same_step-refl s) (apart-below r p q)

-- ---- reading

-- a part's part is the part at the joined path
pub get-append : (p q : Path) (t : ValueTree) → get t (p ++ q) ≡ option_and_then (λ c. get c q) (get t p)
get-append [] q t = refl
get-append (s ∷ p) q t = go (part t s) (get-append p q)
  where
    go : (o : Option ValueTree) → ((c : ValueTree) → get c (p ++ q) ≡ option_and_then (λ c. get c q) (get c p)) → option_and_then (λ c. get c (p ++ q)) o ≡ option_and_then (λ c. get c q) (option_and_then (λ c. get c p) o)
    go None ih = refl
    go (Some c) ih = ih c

-- a write inside a place, seen from the place
pub get-put_inside : (p q : Path) (t v : ValueTree) → get (put t (p ++ q) v) p ≡ option_map (λ u. put u q v) (get t p)
get-put_inside [] q t v = refl
get-put_inside (s ∷ p) q t v =
    ap (option_and_then (λ c. get c p)) (part-same t s (λ c. put c (p ++ q) v)) ∙ go (get-put_inside p q) (part t s)
  where
    go : ((t v : ValueTree) → get (put t (p ++ q) v) p ≡ option_map (λ u. put u q v) (get t p)) → (o : Option ValueTree) → option_and_then (λ c. get c p) (option_map (λ c. put c (p ++ q) v) o) ≡ option_map (λ u. put u q v) (option_and_then (λ c. get c p) o)
    go ih None = refl
    go ih (Some c) = ih c v

-- what was written at a path is read there
pub get-put : (p : Path) (t v : ValueTree) → get (put t p v) p ≡ option_map (λ u. v) (get t p)
get-put p t v = ap (λ q. get (put t q v) p) (sym (append-nil p)) ∙ get-put_inside p [] t v

pub get-put_there : (p : Path) (t u v : ValueTree) → get t p ≡ Some u → get (put t p v) p ≡ Some v
get-put_there p t u v h = get-put p t v ∙ ap (option_map (λ u. v)) h

-- a write at a path leaves every place that isn't inside or above it
pub get-put_apart : (p q : Path) (t v : ValueTree) → apart p q ≡ true → get (put t p v) q ≡ get t q
get-put_apart [] q t v h = absurd (true≢false (sym h))
get-put_apart (s ∷ p) [] t v h = absurd (true≢false (sym h))
get-put_apart (s ∷ p) (r ∷ q) t v h = go r (get-put_apart p q) (apart_here s r p q h)
  where
    go : (r : PathStep) → ((c v : ValueTree) → apart p q ≡ true → get (put c p v) q ≡ get c q) → (same_step s r ≡ false) ⊎ ((s ≡ r) × (apart p q ≡ true)) → get (put t (s ∷ p) v) (r ∷ q) ≡ get t (r ∷ q)
    go r ih (inl d) = ap (option_and_then (λ c. get c q)) (part-other t s r (λ c. put c p v) d)
    go r ih (inr e) =
        subst (λ r. get (put t (s ∷ p) v) (r ∷ q) ≡ get t (r ∷ q)) e.0
        (ap (option_and_then (λ c. get c q)) (part-same t s (λ c. put c p v))
        ∙ through (part t s) (λ c. put c p v) (λ c. get c q) (λ c. get c q) (λ c. ih c v e.1))

-- ---- writing

-- writes at paths that are apart commute
pub put-swap : (p q : Path) (t v w : ValueTree) → apart p q ≡ true → put (put t p v) q w ≡ put (put t q w) p v
put-swap [] q t v w h = absurd (true≢false (sym h))
put-swap (s ∷ p) [] t v w h = absurd (true≢false (sym h))
put-swap (s ∷ p) (r ∷ q) t v w h = go r (put-swap p q) (apart_here s r p q h)
  where
    go : (r : PathStep) → ((c v w : ValueTree) → apart p q ≡ true → put (put c p v) q w ≡ put (put c q w) p v) → (same_step s r ≡ false) ⊎ ((s ≡ r) × (apart p q ≡ true)) → put (put t (s ∷ p) v) (r ∷ q) w ≡ put (put t (r ∷ q) w) (s ∷ p) v
    go r ih (inl d) = change-swap t s r (λ c. put c p v) (λ c. put c q w) d
    go r ih (inr e) =
        subst (λ r. put (put t (s ∷ p) v) (r ∷ q) w ≡ put (put t (r ∷ q) w) (s ∷ p) v) e.0
        (change-twice t s (λ c. put c p v) (λ c. put c q w)
        ∙ change-ext t s (λ c. put (put c p v) q w) (λ c. put (put c q w) p v) (λ c. ih c v w e.1)
        ∙ sym (change-twice t s (λ c. put c q w) (λ c. put c p v)))

-- a write at a place covers one inside it
pub put-over : (p q : Path) (t v w : ValueTree) → put (put t (p ++ q) v) p w ≡ put t p w
put-over [] q t v w = refl
put-over (s ∷ p) q t v w =
    change-twice t s (λ c. put c (p ++ q) v) (λ c. put c p w)
    ∙ change-ext t s (λ c. put (put c (p ++ q) v) p w) (λ c. put c p w) (λ c. put-over p q c v w)

-- of two writes at one path the later stays
pub put-twice : (p : Path) (t v w : ValueTree) → put (put t p v) p w ≡ put t p w
put-twice p t v w = ap (λ q. put (put t q v) p w) (sym (append-nil p)) ∙ put-over p [] t v w

-- writing back what was read changes nothing
pub put-get : (p : Path) (t w : ValueTree) → get t p ≡ Some w → put t p w ≡ t
put-get [] t w h = let same : w ≡ t = grind (arith, h) in same
put-get (s ∷ p) t w h = go (put-get p) (part t s) refl h
  where
    go : ((t w : ValueTree) → get t p ≡ Some w → put t p w ≡ t) → (o : Option ValueTree) → part t s ≡ o → option_and_then (λ c. get c p) o ≡ Some w → put t (s ∷ p) w ≡ t
    go ih None e h = grind (arith, h)
    go ih (Some c) e h = change-agree t s (λ c. put c p w) (λ c. c) c e (ih c w h) ∙ change-kept t s

-- a write inside a place is a write of the changed part
pub put-append : (p q : Path) (t u v : ValueTree) → get t p ≡ Some u → put t (p ++ q) v ≡ put t p (put u q v)
put-append p q t u v h =
    sym (put-get p (put t (p ++ q) v) (put u q v) (get-put_inside p q t v ∙ ap (option_map (λ u. put u q v)) h))
    ∙ put-over p q t v (put u q v)

-- ---- how far a path reaches

more_map : (f g : ValueTree → ℕ) (h : ValueTree → ValueTree) (o : Option ValueTree) → ((c : ValueTree) → f (h c) ≡ g c) → one_more f (option_map h o) ≡ one_more g o
more_map f g h None k = refl
more_map f g h (Some c) k = ap suc (k c)

-- a write apart from a path doesn't change how many of its steps are there
pub reach-put : (p q : Path) (t v : ValueTree) → apart p q ≡ true → reach (put t p v) q ≡ reach t q
reach-put [] q t v h = absurd (true≢false (sym h))
reach-put (s ∷ p) [] t v h = absurd (true≢false (sym h))
reach-put (s ∷ p) (r ∷ q) t v h = go r (reach-put p q) (apart_here s r p q h)
  where
    go : (r : PathStep) → ((c v : ValueTree) → apart p q ≡ true → reach (put c p v) q ≡ reach c q) → (same_step s r ≡ false) ⊎ ((s ≡ r) × (apart p q ≡ true)) → reach (put t (s ∷ p) v) (r ∷ q) ≡ reach t (r ∷ q)
    go r ih (inl d) = ap (one_more (λ c. reach c q)) (part-other t s r (λ c. put c p v) d)
    go r ih (inr e) =
        subst (λ r. reach (put t (s ∷ p) v) (r ∷ q) ≡ reach t (r ∷ q)) e.0
        (ap (one_more (λ c. reach c q)) (part-same t s (λ c. put c p v))
        ∙ more_map (λ c. reach c q) (λ c. reach c q) (λ c. put c p v) (part t s) (λ c. ih c v e.1))

-- for other crates, whose attributes name no lemma with a dash
pub ruleset place_laws = (get-append, get-put_inside, get-put_there, get-put_apart, put-swap, put-over, put-twice, put-get, put-append, reach-put, apart-sym, apart-append)
