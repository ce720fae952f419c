-- Trees without holes, taking out and clearing.
use Rattle.std.proofs.Common.{◌≡◌, ℕ, zero, suc, Bool, true, false, if◌then◌else◌, [], ◌∷◌, Option, Some, None, option_map, option_and_then, arith, refl, sym, ap, ◌∙◌}
use Rattle.hv_value.specs.declared.value.PathStep.{PathStep}
use Rattle.hv_value.specs.declared.value.PathStep.TheVariants.{Field, At}
use Rattle.hv_value.specs.ValueTree.{ValueTree, Hole, Number, Truth, Fields, Elements, Closure, Parts, Nil, Cons}
use Rattle.hv_value.specs.Places.{Path, nth, change_nth, part, change_part, get, put, apart}
use Rattle.hv_value.specs.Holes.{is_whole, all_whole, fields_or_hole, emptied, all_emptied, put_if_there, clear, if_whole, leaving, take_out}
use Rattle.hv_lemmas.proofs.Bools.{and_first, and_second}
use Rattle.hv_value.proofs.PlaceLaws.{get-put, get-put_apart, put-swap, put-twice, put-get, apart-sym}

-- ---- trees without holes

whole-nth : (ts : Parts) (k : ℕ) (c : ValueTree) → nth ts k ≡ Some c → all_whole ts ≡ true → is_whole c ≡ true
whole-nth Nil k c e h = cc
whole-nth (Cons t ts) zero c e h = let same : t ≡ c = grind (arith, e) in ap is_whole (sym same) ∙ and_first (is_whole t) (all_whole ts) h
whole-nth (Cons t ts) (suc k) c e h = whole-nth ts k c e (and_second (is_whole t) (all_whole ts) h)

whole-part : (t : ValueTree) (s : PathStep) (c : ValueTree) → part t s ≡ Some c → is_whole t ≡ true → is_whole c ≡ true
whole-part (Fields ts) (Field k) c e h = whole-nth ts k c e h
whole-part (Elements ts) (At k) c e h = whole-nth ts k c e h
whole-part _ _ c e h = cc

-- a part of a tree without holes has none
pub is_whole-get : (p : Path) (t u : ValueTree) → get t p ≡ Some u → is_whole t ≡ true → is_whole u ≡ true
is_whole-get [] t u e h = let same : t ≡ u = grind (arith, e) in ap is_whole (sym same) ∙ h
is_whole-get (s ∷ p) t u e h = go (is_whole-get p) (part t s) refl e
  where
    go : ((t u : ValueTree) → get t p ≡ Some u → is_whole t ≡ true → is_whole u ≡ true) → (o : Option ValueTree) → part t s ≡ o → option_and_then (λ c. get c p) o ≡ Some u → is_whole u ≡ true
    go ih None i k = cc
    go ih (Some c) i k = ih c u k (whole-part t s c i h)

whole-changed : (ts : Parts) (k : ℕ) (f : ValueTree → ValueTree) → ((c : ValueTree) → is_whole c ≡ true → is_whole (f c) ≡ true) → all_whole ts ≡ true → all_whole (change_nth ts k f) ≡ true
whole-changed Nil k f g h = h
whole-changed (Cons t ts) zero f g h = rw (g t (and_first (is_whole t) (all_whole ts) h)) (and_second (is_whole t) (all_whole ts) h)
whole-changed (Cons t ts) (suc k) f g h = rw (and_first (is_whole t) (all_whole ts) h) (whole-changed ts k f g (and_second (is_whole t) (all_whole ts) h))

whole-change : (t : ValueTree) (s : PathStep) (f : ValueTree → ValueTree) → ((c : ValueTree) → is_whole c ≡ true → is_whole (f c) ≡ true) → is_whole t ≡ true → is_whole (change_part t s f) ≡ true
whole-change (Fields ts) (Field k) f g h = whole-changed ts k f g h
whole-change (Elements ts) (At k) f g h = whole-changed ts k f g h
whole-change _ _ f g h = h

-- a write of a tree without holes makes none
pub is_whole-put : (p : Path) (t v : ValueTree) → is_whole v ≡ true → is_whole t ≡ true → is_whole (put t p v) ≡ true
is_whole-put [] t v e h = e
is_whole-put (s ∷ p) t v e h = whole-change t s (λ c. put c p v) (λ c. is_whole-put p c v e) h

-- ---- empty trees

pub emptied-row : (ts : Parts) → emptied (fields_or_hole ts) ≡ fields_or_hole (all_emptied ts)
emptied-row Nil = refl
emptied-row (Cons t ts) = refl

mutual
  -- to empty twice is to empty once
  pub emptied-emptied : (t : ValueTree) → emptied (emptied t) ≡ emptied t
  emptied-emptied Hole = refl
  emptied-emptied (Number z) = refl
  emptied-emptied (Truth b) = refl
  emptied-emptied (Fields ts) = emptied-row (all_emptied ts) ∙ ap fields_or_hole (all_emptied-twice ts)
  emptied-emptied (Elements ts) = refl
  emptied-emptied (Closure f ts) = refl

  all_emptied-twice : (ts : Parts) → all_emptied (all_emptied ts) ≡ all_emptied ts
  all_emptied-twice Nil = refl
  all_emptied-twice (Cons t ts) = rw (emptied-emptied t) (rw (all_emptied-twice ts) refl)

-- what was emptied has a hole
pub is_whole-emptied : (t : ValueTree) → is_whole (emptied t) ≡ false
is_whole-emptied Hole = refl
is_whole-emptied (Number z) = refl
is_whole-emptied (Truth b) = refl
is_whole-emptied (Fields Nil) = refl
is_whole-emptied (Fields (Cons t ts)) = rw (is_whole-emptied t) refl
is_whole-emptied (Elements ts) = refl
is_whole-emptied (Closure f ts) = refl

-- ---- clearing

pub clear-there : (p : Path) (t u : ValueTree) → get t p ≡ Some u → clear t p ≡ put t p (emptied u)
clear-there p t u h = ap (λ o. put_if_there t p (option_map emptied o)) h

pub clear-absent : (p : Path) (t : ValueTree) → get t p ≡ None → clear t p ≡ t
clear-absent p t h = ap (λ o. put_if_there t p (option_map emptied o)) h

-- what was cleared is a hole for each leaf
pub get-clear : (p : Path) (t : ValueTree) → get (clear t p) p ≡ option_map emptied (get t p)
get-clear p t = go (get t p) refl
  where
    go : (o : Option ValueTree) → get t p ≡ o → get (put_if_there t p (option_map emptied o)) p ≡ option_map emptied o
    go None e = e
    go (Some u) e = get-put p t (emptied u) ∙ ap (option_map (λ x. emptied u)) e

-- and nothing else is changed
pub get-clear_apart : (p q : Path) (t : ValueTree) → apart p q ≡ true → get (clear t p) q ≡ get t q
get-clear_apart p q t h = go (get t p)
  where
    go : (o : Option ValueTree) → get (put_if_there t p (option_map emptied o)) q ≡ get t q
    go None = refl
    go (Some u) = get-put_apart p q t (emptied u) h

-- a write fills what was cleared
pub put-clear : (p : Path) (t v : ValueTree) → put (clear t p) p v ≡ put t p v
put-clear p t v = go (get t p)
  where
    go : (o : Option ValueTree) → put (put_if_there t p (option_map emptied o)) p v ≡ put t p v
    go None = refl
    go (Some u) = put-twice p t (emptied u) v

pub clear-put : (p : Path) (t u v : ValueTree) → get t p ≡ Some u → clear (put t p v) p ≡ put t p (emptied v)
clear-put p t u v h =
    clear-there p (put t p v) v (get-put p t v ∙ ap (option_map (λ x. v)) h) ∙ put-twice p t v (emptied v)

pub clear-clear : (p : Path) (t : ValueTree) → clear (clear t p) p ≡ clear t p
clear-clear p t = go (get t p) refl
  where
    go : (o : Option ValueTree) → get t p ≡ o → clear (clear t p) p ≡ clear t p
    go None e = ap (λ x. clear x p) (clear-absent p t e)
    go (Some u) e =
        ap (λ x. clear x p) (clear-there p t u e)
        ∙ clear-put p t u (emptied u) e
        ∙ ap (put t p) (emptied-emptied u)
        ∙ sym (clear-there p t u e)

-- a clearing and a write apart from it commute
pub clear-put_apart : (p q : Path) (t v : ValueTree) → apart p q ≡ true → clear (put t p v) q ≡ put (clear t q) p v
clear-put_apart p q t v h =
    ap (λ o. put_if_there (put t p v) q (option_map emptied o)) (get-put_apart p q t v h) ∙ go (get t q)
  where
    go : (o : Option ValueTree) → put_if_there (put t p v) q (option_map emptied o) ≡ put (put_if_there t q (option_map emptied o)) p v
    go None = refl
    go (Some u) = put-swap p q t v (emptied u) h

pub clear-swap : (p q : Path) (t : ValueTree) → apart p q ≡ true → clear (clear t p) q ≡ clear (clear t q) p
clear-swap p q t h = go (get t p) refl
  where
    go : (o : Option ValueTree) → get t p ≡ o → clear (clear t p) q ≡ clear (clear t q) p
    go None e =
        ap (λ x. clear x q) (clear-absent p t e)
        ∙ sym (clear-absent p (clear t q) (get-clear_apart q p t (apart-sym p q h) ∙ e))
    go (Some u) e =
        ap (λ x. clear x q) (clear-there p t u e)
        ∙ clear-put_apart p q t (emptied u) h
        ∙ sym (clear-there p (clear t q) u (get-clear_apart q p t (apart-sym p q h) ∙ e))

-- ---- taking out

-- what is taken out is there and has no hole
pub taken : (p : Path) (t u r : ValueTree) → take_out t p ≡ Some (u, r) → (get t p ≡ Some u) × (is_whole u ≡ true) × (r ≡ clear t p)
taken p t u r h = found (get t p) refl h
  where
    whole : (c : ValueTree) → (b : Bool) → is_whole c ≡ b → get t p ≡ Some c → option_map (leaving t p) (if b then Some c else None) ≡ Some (u, r) → (get t p ≡ Some u) × (is_whole u ≡ true) × (r ≡ clear t p)
    whole c true b e k = let pair : leaving t p c ≡ (u, r) = grind (arith, k) in (e ∙ ap (λ x. Some x.0) pair, ap (λ x. is_whole x.0) (sym pair) ∙ b, ap (λ x. x.1) (sym pair))
    whole c false b e k = cc

    found : (o : Option ValueTree) → get t p ≡ o → option_map (leaving t p) (option_and_then if_whole o) ≡ Some (u, r) → (get t p ≡ Some u) × (is_whole u ≡ true) × (r ≡ clear t p)
    found None e k = cc
    found (Some c) e k = whole c (is_whole c) refl e k

-- putting back what was taken out changes nothing
pub put-taken : (p : Path) (t u r : ValueTree) → take_out t p ≡ Some (u, r) → put r p u ≡ t
put-taken p t u r h =
    let facts : (get t p ≡ Some u) × (is_whole u ≡ true) × (r ≡ clear t p) = taken p t u r h in
    ap (λ x. put x p u) facts.2 ∙ put-clear p t u ∙ put-get p t u facts.0

-- for other crates, whose attributes name no lemma with a dash
pub ruleset hole_laws = (is_whole-get, is_whole-put, is_whole-emptied, emptied-emptied, clear-there, get-clear, get-clear_apart, put-clear, clear-put, clear-clear, clear-put_apart, clear-swap, put-taken)
