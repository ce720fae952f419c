-- Reading and changing one part of a tree.
use Rattle.std.proofs.Common.{◌≡◌, ◌≢◌, ℕ, zero, suc, true, false, Some, arith, ◌==◌, option_map, ◌⊎◌, inl, inr, refl, sym, ap, ◌∙◌, true≢false}
use Rattle.std.proofs.lemmas.Bool.Decides.{eqb_tells}
use Rattle.hv_value.specs.declared.value.PathStep.{PathStep}
use Rattle.hv_value.specs.declared.value.PathStep.TheVariants.{Field, At}
use Rattle.hv_value.specs.ValueTree.{ValueTree, Fields, Elements, Parts, Nil, Cons}
use Rattle.hv_value.specs.Places.{nth, change_nth, part, change_part, same_step}

-- ---- steps

pub step_tells : (s r : PathStep) → ((same_step s r ≡ true) × (s ≡ r)) ⊎ (same_step s r ≡ false)
step_tells (Field j) (Field k) = go (eqb_tells j k)
  where
    go : ((j == k) ≡ true) × (j ≡ k) ⊎ ((j == k) ≡ false) × (j ≢ k) → (((j == k) ≡ true) × (Field j ≡ Field k)) ⊎ ((j == k) ≡ false)
    go (inl e) = inl (e.0, ap Field e.1)
    go (inr e) = inr e.0
step_tells (At j) (At k) = go (eqb_tells j k)
  where
    go : ((j == k) ≡ true) × (j ≡ k) ⊎ ((j == k) ≡ false) × (j ≢ k) → (((j == k) ≡ true) × (At j ≡ At k)) ⊎ ((j == k) ≡ false)
    go (inl e) = inl (e.0, ap At e.1)
    go (inr e) = inr e.0
step_tells (Field j) (At k) = inr refl
step_tells (At j) (Field k) = inr refl

unlike : (j k : ℕ) → (j == k) ≡ false → j ≢ k
unlike j k h = go (eqb_tells j k)
  where
    go : ((j == k) ≡ true) × (j ≡ k) ⊎ ((j == k) ≡ false) × (j ≢ k) → j ≢ k
    go (inl e) = absurd (true≢false (sym e.0 ∙ h))
    go (inr e) = e.1

pub same_step-refl : (s : PathStep) → same_step s s ≡ true
same_step-refl s = go (step_tells s s)
  where
    itself : (r : PathStep) → same_step r r ≡ false → same_step r r ≡ true
    itself (Field k) h = absurd (unlike k k h refl)
    itself (At k) h = absurd (unlike k k h refl)

    go : ((same_step s s ≡ true) × (s ≡ s)) ⊎ (same_step s s ≡ false) → same_step s s ≡ true
    go (inl e) = e.0
    go (inr h) = itself s h

pub same_step-sym : (s r : PathStep) → same_step s r ≡ false → same_step r s ≡ false
same_step-sym s r h = go (step_tells r s)
  where
    go : ((same_step r s ≡ true) × (r ≡ s)) ⊎ (same_step r s ≡ false) → same_step r s ≡ false
    go (inl e) = absurd (true≢false (sym (same_step-refl s) ∙ ap (same_step s) (sym e.1) ∙ h))
    go (inr k) = k

-- ---- parts by number

nth-same : (ts : Parts) (k : ℕ) (f : ValueTree → ValueTree) → nth (change_nth ts k f) k ≡ option_map f (nth ts k)
nth-same Nil k f = refl
nth-same (Cons t ts) zero f = refl
nth-same (Cons t ts) (suc k) f = nth-same ts k f

nth-other : (ts : Parts) (j k : ℕ) (f : ValueTree → ValueTree) → j ≢ k → nth (change_nth ts j f) k ≡ nth ts k
nth-other Nil j k f h = refl
nth-other (Cons t ts) zero zero f h = absurd (h refl)
nth-other (Cons t ts) zero (suc k) f h = refl
nth-other (Cons t ts) (suc j) zero f h = refl
nth-other (Cons t ts) (suc j) (suc k) f h = nth-other ts j k f (λ e. h (ap suc e))

nth-ext : (ts : Parts) (k : ℕ) (f g : ValueTree → ValueTree) → ((c : ValueTree) → f c ≡ g c) → change_nth ts k f ≡ change_nth ts k g
nth-ext Nil k f g h = refl
nth-ext (Cons t ts) zero f g h = ap (λ c. Cons c ts) (h t)
nth-ext (Cons t ts) (suc k) f g h = ap (Cons t) (nth-ext ts k f g h)

nth-twice : (ts : Parts) (k : ℕ) (f g : ValueTree → ValueTree) → change_nth (change_nth ts k f) k g ≡ change_nth ts k (λ c. g (f c))
nth-twice Nil k f g = refl
nth-twice (Cons t ts) zero f g = refl
nth-twice (Cons t ts) (suc k) f g = ap (Cons t) (nth-twice ts k f g)

nth-swap : (ts : Parts) (j k : ℕ) (f g : ValueTree → ValueTree) → j ≢ k → change_nth (change_nth ts j f) k g ≡ change_nth (change_nth ts k g) j f
nth-swap Nil j k f g h = refl
nth-swap (Cons t ts) zero zero f g h = absurd (h refl)
nth-swap (Cons t ts) zero (suc k) f g h = refl
nth-swap (Cons t ts) (suc j) zero f g h = refl
nth-swap (Cons t ts) (suc j) (suc k) f g h = ap (Cons t) (nth-swap ts j k f g (λ e. h (ap suc e)))

nth-agree : (ts : Parts) (k : ℕ) (f g : ValueTree → ValueTree) (c : ValueTree) → nth ts k ≡ Some c → f c ≡ g c → change_nth ts k f ≡ change_nth ts k g
nth-agree Nil k f g c e h = refl
nth-agree (Cons t ts) zero f g c e h = let same : t ≡ c = grind (arith, e) in ap (λ x. Cons x ts) (ap f same ∙ h ∙ ap g (sym same))
nth-agree (Cons t ts) (suc k) f g c e h = ap (Cons t) (nth-agree ts k f g c e h)

nth-kept : (ts : Parts) (k : ℕ) → change_nth ts k (λ c. c) ≡ ts
nth-kept Nil k = refl
nth-kept (Cons t ts) zero = refl
nth-kept (Cons t ts) (suc k) = ap (Cons t) (nth-kept ts k)

-- ---- parts by a step

pub part-same : (t : ValueTree) (s : PathStep) (f : ValueTree → ValueTree) → part (change_part t s f) s ≡ option_map f (part t s)
part-same (Fields ts) (Field k) f = nth-same ts k f
part-same (Elements ts) (At k) f = nth-same ts k f
part-same _ _ f = refl

pub part-other : (t : ValueTree) (s r : PathStep) (f : ValueTree → ValueTree) → same_step s r ≡ false → part (change_part t s f) r ≡ part t r
part-other (Fields ts) (Field j) (Field k) f h = nth-other ts j k f (unlike j k h)
part-other (Elements ts) (At j) (At k) f h = nth-other ts j k f (unlike j k h)
part-other _ _ _ f h = refl

pub change-ext : (t : ValueTree) (s : PathStep) (f g : ValueTree → ValueTree) → ((c : ValueTree) → f c ≡ g c) → change_part t s f ≡ change_part t s g
change-ext (Fields ts) (Field k) f g h = ap Fields (nth-ext ts k f g h)
change-ext (Elements ts) (At k) f g h = ap Elements (nth-ext ts k f g h)
change-ext _ _ f g h = refl

pub change-twice : (t : ValueTree) (s : PathStep) (f g : ValueTree → ValueTree) → change_part (change_part t s f) s g ≡ change_part t s (λ c. g (f c))
change-twice (Fields ts) (Field k) f g = ap Fields (nth-twice ts k f g)
change-twice (Elements ts) (At k) f g = ap Elements (nth-twice ts k f g)
change-twice _ _ f g = refl

pub change-swap : (t : ValueTree) (s r : PathStep) (f g : ValueTree → ValueTree) → same_step s r ≡ false → change_part (change_part t s f) r g ≡ change_part (change_part t r g) s f
change-swap (Fields ts) (Field j) (Field k) f g h = ap Fields (nth-swap ts j k f g (unlike j k h))
change-swap (Elements ts) (At j) (At k) f g h = ap Elements (nth-swap ts j k f g (unlike j k h))
change-swap (Fields ts) (Field j) (At k) f g h = refl
change-swap (Fields ts) (At j) (Field k) f g h = refl
change-swap (Fields ts) (At j) (At k) f g h = refl
change-swap (Elements ts) (At j) (Field k) f g h = refl
change-swap (Elements ts) (Field j) (At k) f g h = refl
change-swap (Elements ts) (Field j) (Field k) f g h = refl
change-swap _ _ _ f g h = refl

-- only what the changes make of the part that is there matters
pub change-agree : (t : ValueTree) (s : PathStep) (f g : ValueTree → ValueTree) (c : ValueTree) → part t s ≡ Some c → f c ≡ g c → change_part t s f ≡ change_part t s g
change-agree (Fields ts) (Field k) f g c e h = ap Fields (nth-agree ts k f g c e h)
change-agree (Elements ts) (At k) f g c e h = ap Elements (nth-agree ts k f g c e h)
change-agree _ _ f g c e h = refl

pub change-kept : (t : ValueTree) (s : PathStep) → change_part t s (λ c. c) ≡ t
change-kept (Fields ts) (Field k) = ap Fields (nth-kept ts k)
change-kept (Elements ts) (At k) = ap Elements (nth-kept ts k)
change-kept _ _ = refl
