-- From what a call does with the state to what is seen of it.
use Rattle.std.proofs.Common.{◌≡◌, ℕ, zero, suc, ◌+◌, Bool, length, List, [], ◌∷◌, Result, Ok, Err, OnOk, OnErr, refl, sym, ◌∙◌, ap, subst, arith}
use Rattle.hv_flow_versions.specs.declared.cell.Cell.{Cell}
use Rattle.hv_flow_versions.specs.declared.state.State.{State}
use Rattle.hv_flow_versions.specs.Lists.{over}
use Rattle.hv_flow_versions.specs.Cells.{set_cell}
use Rattle.hv_flow_versions.specs.Levels.{Levels, set_level}
use Rattle.hv_flow_versions.specs.States.{Sound, seen_levels}
use Rattle.hv_flow_versions.proofs.ListLemmas.{over_nothing}
use Rattle.hv_flow_versions.proofs.Opening.{levels}

pub seen_by : (f : State → State) (g : Levels → Levels) (s new : State) (v : Levels) → seen_levels s ≡ v → seen_levels (f s) ≡ g (seen_levels s) → new ≡ f s → seen_levels new ≡ g v
seen_by f g s new v e h n = ap seen_levels n ∙ (h ∙ ap g e)

pub sound_by : (s new : State) → new ≡ s → Sound s → Sound new
sound_by s new e c = subst (λ (w : State). Sound w) (sym e) c

pub ok_then : {T E P Q : Type 0} (r : Result T E) → (P → Q) → OnOk r P → OnOk r Q
ok_then (Ok x) f p = f p
ok_then (Err e) f p = p

-- sound either way, also where there was no memory
pub sound_either : {T E : Type 0} (r : Result T E) (s t new : State) → OnOk r (new ≡ t) → OnErr r (new ≡ s) → Sound t → Sound s → Sound new
sound_either (Ok x) s t new p q c d = sound_by t new p c
sound_either (Err e) s t new p q c d = sound_by s new q d

-- ---- one cell more of a range

over_then_at : {A : Type 0} (g : A → A) (from n j : ℕ) (xs : List A) → j ≡ from + n → over (λ k. g) j 1 (over (λ k. g) from n xs) ≡ over (λ k. g) from (suc n) xs
over_then_at g from n j [] e = refl
over_then_at g (suc from) n zero (x ∷ xs) e = absurd (omega (arith, e))
over_then_at g (suc from) n (suc j) (x ∷ xs) e = ap (λ w. x ∷ w) (over_then_at g from n j xs (omega (arith, e)))
over_then_at g zero zero zero (x ∷ xs) e = refl
over_then_at g zero zero (suc j) (x ∷ xs) e = absurd (omega (arith, e))
over_then_at g zero (suc n) zero (x ∷ xs) e = absurd (omega (arith, e))
over_then_at g zero (suc n) (suc j) (x ∷ xs) e = ap (λ w. g x ∷ w) (over_then_at g zero n j xs (omega (arith, e)))

pub set_more : (v : Bool) (from n : ℕ) (l : Levels) → set_level v (from + n) 1 (set_level v from n l) ≡ set_level v from (n + 1) l
set_more v from n l =
    levels _ _ _ _ (over_then_at (set_cell v) from n (from + n) l.now refl ∙ ap (λ (m : ℕ). over (λ k. set_cell v) from m l.now) (omega arith)) refl

pub set_none : (v : Bool) (from : ℕ) (l : Levels) → set_level v from 0 l ≡ l
set_none v from l = levels _ _ _ _ (over_nothing (λ k. set_cell v) from l.now) refl

-- where nothing is reached, nothing is set
pub set_unreached : (v : Bool) (from n : ℕ) (l : Levels) → length l.now ≡ 0 → set_level v from n l ≡ l
set_unreached v from n l e = levels _ _ _ _ (unset l.now e) refl
  where
    unset : (cs : List Cell) → length cs ≡ 0 → over (λ k. set_cell v) from n cs ≡ cs
    unset [] h = refl
    unset (c ∷ cs) h = absurd (omega (arith, h))
