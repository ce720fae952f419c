-- What acts on the cells of handles do, and what they refuse.
use Rattle.std.proofs.Common.{◌≡◌, ◌⊎◌, inl, inr, ◌==◌, ◌+◌, ◌<◌, ◌≤◌, ◌&&◌, nat_le, nat_lt, ℕ, zero, suc, Bool, true, false, if◌then◌else◌, List, [], ◌∷◌, ◌++◌, map, refl, ap, ◌∙◌, arith}
use Rattle.std.proofs.lemmas.Bool.Decides.{nat_tests}
use Rattle.hv_tree.specs.declared.place.Place.{Place}
use Rattle.hv_tree.specs.declared.refusal.Rule.TheVariants as rule
use Rattle.hv_tree.specs.declared.refusal.Refusal.{Refusal}
use Rattle.hv_lemmas.proofs.Members.{Among, in_left, in_right, either_in}
use Rattle.hv_flow_pass.specs.Refused.{Values, covers, after_acts}
use Rattle.hv_rules.specs.States.{HandleState, with_handle}
use Rattle.hv_flow_ends.specs.declared.span.Span.{Span}
use Rattle.hv_flow_ends.specs.Ends.{numbers_from, numbers_in}
use Rattle.hv_await.specs.Acts.{cell, refusal, none_left}
use Rattle.hv_flow_ends.proofs.Playing.{AnyRefuses}

-- ---- one cell

cell_true : (h i : ℕ) → covers (cell h) i ≡ true → h ≡ i
cell_true h i e = grind (arith, nat_tests)

cell_same : (h : ℕ) → covers (cell h) h ≡ true
cell_same h = grind (arith, nat_tests)

same_cell : (h i : ℕ) (b : Bool) → (h == i) ≡ b → covers (cell h) i ≡ b
same_cell h i true e = grind (arith, nat_tests)
same_cell h i false e = grind (arith, nat_tests)

pub cell_covers : (h i : ℕ) → covers (cell h) i ≡ (h == i)
cell_covers h i = same_cell h i (h == i) refl

pub only_cell : (h i : ℕ) → covers (cell h) i ≡ true → h ≡ i
only_cell h i e = cell_true h i e

pub own_cell : (h : ℕ) → covers (cell h) h ≡ true
own_cell h = cell_same h

-- a handle gets a state, and its cell the value that says so
pub set_fits : (says : HandleState → Bool) (h : ℕ) (to : HandleState) (value : Bool) (handles : ℕ → HandleState) (v : Values) → value ≡ says to → ((i : ℕ) → v i ≡ says (handles i)) →
    (i : ℕ) → (if covers (cell h) i then value else v i) ≡ says (with_handle h to handles i)
set_fits says h to value handles v e f i = ap (λ b. if b then value else v i) (cell_covers h i) ∙ by (h == i)
  where
    by : (b : Bool) → (if b then value else v i) ≡ says (if b then to else handles i)
    by true = e
    by false = f i

-- ---- spans

in_span : (n k i : ℕ) → n ≤ i → i < n + k → Among (numbers_from n k) i
in_span n zero i h g = absurd (omega (arith, h, g))
in_span n (suc k) i h g = by (n == i) refl (λ l. in_span (suc n) k i l (omega (arith, g)))
  where
    by : (b : Bool) → (n == i) ≡ b → (suc n ≤ i → Among (numbers_from (suc n) k) i) → (n ≡ i) ⊎ Among (numbers_from (suc n) k) i
    by true e more = inl (grind (arith, nat_tests))
    by false e more = inr (more (grind (arith, nat_tests)))

of_span : (n k i : ℕ) → Among (numbers_from n k) i → (n ≤ i) × (i < n + k)
of_span n zero i h = absurd h
of_span n (suc k) i (inl e) = (omega (arith, e), omega (arith, e))
of_span n (suc k) i (inr h) = let t = of_span (suc n) k i h in (omega (arith, t.0), omega (arith, t.1))

covers_both : (n k i : ℕ) → (nat_le n i && nat_lt i (n + k)) ≡ true → (n ≤ i) × (i < n + k)
covers_both n k i h = (grind (arith, nat_tests), grind (arith, nat_tests))

both_cover : (n k i : ℕ) → n ≤ i → i < n + k → (nat_le n i && nat_lt i (n + k)) ≡ true
both_cover n k i h g = grind (arith, nat_tests)

-- one of these cells is a yes
abbrev pub Has : List ℕ → Values → Type 0
Has hs v = (h : ℕ) × Among hs h × (v h ≡ true)

more_in : (xs ys : List ℕ) (v : Values) → Has xs v ⊎ Has ys v → Has (xs ++ ys) v
more_in xs ys v (inl (h, i, e)) = (h, in_left xs ys h i, e)
more_in xs ys v (inr (h, i, e)) = (h, in_right xs ys h i, e)

-- what is refused at an end
pub ends_refuse : (at : Place) (spans : List Span) (v : Values) (r : Refusal) → AnyRefuses (map (none_left at) spans) v r → (r ≡ refusal rule.S1 at) × Has (numbers_in spans) v
ends_refuse at [] v r h = absurd h
ends_refuse at (s ∷ spans) v r (inl (e, (i, c, y))) =
    let t = covers_both s.first s.count i c in (e, more_in (numbers_from s.first s.count) (numbers_in spans) v (inl (i, in_span s.first s.count i t.0 t.1, y)))
ends_refuse at (s ∷ spans) v r (inr h) = let t = ends_refuse at spans v r h in (t.0, more_in (numbers_from s.first s.count) (numbers_in spans) v (inr t.1))

pub refused_at_end : (at : Place) (spans : List Span) (v : Values) → Has (numbers_in spans) v → AnyRefuses (map (none_left at) spans) v (refusal rule.S1 at)
refused_at_end at [] v (h, i, e) = absurd i
refused_at_end at (s ∷ spans) v (h, i, e) = by (either_in (numbers_from s.first s.count) (numbers_in spans) h i) (λ j. refused_at_end at spans v (h, j, e))
  where
    by : Among (numbers_from s.first s.count) h ⊎ Among (numbers_in spans) h → (Among (numbers_in spans) h → AnyRefuses (map (none_left at) spans) v (refusal rule.S1 at)) →
        AnyRefuses (map (none_left at) (s ∷ spans)) v (refusal rule.S1 at)
    by (inl j) more = let t = of_span s.first s.count h j in inl (refl, (h, both_cover s.first s.count h t.0 t.1, e))
    by (inr j) more = inr (more j)

-- refusing changes nothing
pub ends_keep : (at : Place) (spans : List Span) (v : Values) → after_acts (map (none_left at) spans) v ≡ v
ends_keep at [] v = refl
ends_keep at (s ∷ spans) v = ends_keep at spans v
