-- Locals by their numbers.
use Rattle.std.proofs.Common.{◌≡◌, ◌≢◌, ◌<◌, ◌≤◌, ℕ, zero, suc, List, [], ◌∷◌, ◌++◌, length, map, slice_get, slice_set, Some, None, ◌⊎◌, inl, inr, arith, refl, sym, ap, ◌∙◌}
use Rattle.std.specs.Prelude.{get_or}
use Rattle.hv_value.specs.ValueTree.{ValueTree, Hole}
use Rattle.hv_sem_copying.specs.Copying.{change_at}
use Rattle.hv_partial.specs.declared.tree.Held.{Held}
use Rattle.hv_partial.specs.declared.tree.Held.TheVariants as held
use Rattle.hv_partial.proofs.VariantLemmas.{tree-hole}
use Rattle.hv_value.specs.Places.{Path, get}
use Rattle.hv_value.specs.declared.value.PathStep.{PathStep}
use Rattle.hv_partial.specs.HeldTree.{held_tree}

-- ---- what is under a number

pub get_or-there : (hs : List Held) (x : ℕ) (h : Held) → slice_get hs x ≡ Some h → get_or (map held_tree hs) x Hole ≡ held_tree h
get_or-there [] x h e = cc
get_or-there (g ∷ hs) zero h e = let same : g ≡ h = grind (arith, e) in ap held_tree same
get_or-there (g ∷ hs) (suc x) h e = get_or-there hs x h e

pub get_or-past : (hs : List Held) (x : ℕ) → slice_get hs x ≡ None → get_or (map held_tree hs) x Hole ≡ Hole
get_or-past [] x e = refl
get_or-past (g ∷ hs) zero e = cc
get_or-past (g ∷ hs) (suc x) e = get_or-past hs x e

-- ---- the same of locals

pub set_within : (hs : List Held) (x : ℕ) (h : Held) → x < length hs → map held_tree (slice_set hs x h) ≡ change_at (map held_tree hs) x (held_tree h)
set_within [] x h e = absurd (omega arith)
set_within (g ∷ hs) zero h e = refl
set_within (g ∷ hs) (suc x) h e = ap (λ us. held_tree g ∷ us) (set_within hs x h (omega arith))

pub push_hole : (hs : List Held) (x : ℕ) (t : ValueTree) → length hs ≤ x → change_at (map held_tree (hs ++ held.Hole ∷ [])) x t ≡ change_at (map held_tree hs) x t
push_hole [] zero t e = refl
push_hole [] (suc x) t e = ap (λ u. u ∷ change_at [] x t) tree-hole
push_hole (g ∷ hs) zero t e = absurd (omega arith)
push_hole (g ∷ hs) (suc x) t e = ap (λ us. held_tree g ∷ us) (push_hole hs x t (omega arith))

pub set_hole : (hs : List Held) (x : ℕ) → map held_tree (slice_set hs x held.Hole) ≡ slice_set (map held_tree hs) x Hole
set_hole [] x = refl
set_hole (g ∷ hs) zero = ap (λ u. u ∷ map held_tree hs) tree-hole
set_hole (g ∷ hs) (suc x) = ap (λ us. held_tree g ∷ us) (set_hole hs x)

pub past_hole : (hs : List Held) (x : ℕ) → length hs ≤ x → held_tree held.Hole ≡ get_or (map held_tree hs) x Hole
past_hole [] x e = tree-hole
past_hole (g ∷ hs) zero e = absurd (omega arith)
past_hole (g ∷ hs) (suc x) e = past_hole hs x (omega arith)

pub there_tree : (hs : List Held) (x : ℕ) (h : Held) → slice_get hs x ≡ Some h → held_tree h ≡ get_or (map held_tree hs) x Hole
there_tree hs x h e = sym (get_or-there hs x h e)

pub ruleset by_change = (set_within, set_hole, past_hole, there_tree)

pub ruleset by_look = (get_or-there, get_or-past)

-- what was dropped doesn't matter to what is put there
pub change_dropped : (ts : List ValueTree) (x : ℕ) (u t : ValueTree) → change_at (slice_set ts x u) x t ≡ change_at ts x t
change_dropped [] x u t = refl
change_dropped (v ∷ ts) zero u t = refl
change_dropped (v ∷ ts) (suc x) u t = ap (λ us. v ∷ us) (change_dropped ts x u t)

-- where nothing is under the number, a place there is a hole or isn't there
pub hole_found : (t : ValueTree) (p : Path) → t ≡ Hole → (get t p ≡ None) ⊎ (get t p ≡ Some Hole)
hole_found t [] e = inr (ap Some e)
hole_found t (s ∷ p) e = inl (ap (λ u. get u (s ∷ p)) e)

pub get_hole : (t : ValueTree) (s : PathStep) (p : Path) → t ≡ Hole → get t (s ∷ p) ≡ None
get_hole t s p e = ap (λ u. get u (s ∷ p)) e

-- what was dropped doesn't matter to what is put elsewhere, and then there
pub get_or-other : (ts : List ValueTree) (x y : ℕ) (u : ValueTree) → x ≢ y → get_or (slice_set ts x u) y Hole ≡ get_or ts y Hole
get_or-other [] x y u h = refl
get_or-other (t ∷ ts) zero zero u h = absurd (h refl)
get_or-other (t ∷ ts) zero (suc y) u h = refl
get_or-other (t ∷ ts) (suc x) zero u h = refl
get_or-other (t ∷ ts) (suc x) (suc y) u h = get_or-other ts x y u (λ e. h (ap suc e))

pub change-over : (ts : List ValueTree) (x y : ℕ) (u v w : ValueTree) → x ≢ y → change_at (change_at (slice_set ts x u) y v) x w ≡ change_at (change_at ts y v) x w
change-over [] x y u v w h = refl
change-over (t ∷ ts) zero zero u v w h = absurd (h refl)
change-over (t ∷ ts) zero (suc y) u v w h = refl
change-over (t ∷ ts) (suc x) zero u v w h = ap (λ us. v ∷ us) (change_dropped ts x u w)
change-over (t ∷ ts) (suc x) (suc y) u v w h = ap (λ us. t ∷ us) (change-over ts x y u v w (λ e. h (ap suc e)))

pub change-twice : (ts : List ValueTree) (x : ℕ) (u v : ValueTree) → change_at (change_at ts x u) x v ≡ change_at ts x v
change-twice [] zero u v = refl
change-twice [] (suc x) u v = ap (λ us. Hole ∷ us) (change-twice [] x u v)
change-twice (t ∷ ts) zero u v = refl
change-twice (t ∷ ts) (suc x) u v = ap (λ us. t ∷ us) (change-twice ts x u v)

-- nothing is under the number: a hole stands there, and nothing in it
pub hole_past : (hs : List Held) (x : ℕ) → slice_get hs x ≡ None → held_tree held.Hole ≡ get_or (map held_tree hs) x Hole
hole_past hs x e = tree-hole ∙ sym (get_or-past hs x e)

pub hole_whole : (hs : List Held) (x : ℕ) (p : Path) → slice_get hs x ≡ None → length p ≡ 0 → Some (held_tree held.Hole) ≡ get (get_or (map held_tree hs) x Hole) p
hole_whole hs x [] e h = ap Some (hole_past hs x e)
hole_whole hs x (s ∷ p) e h = absurd (omega (arith, h))

pub hole_part : (hs : List Held) (x : ℕ) (p : Path) → slice_get hs x ≡ None → 0 < length p → None ≡ get (get_or (map held_tree hs) x Hole) p
hole_part hs x [] e h = absurd (omega arith)
hole_part hs x (s ∷ p) e h = sym (ap (λ u. get u (s ∷ p)) (get_or-past hs x e))

pub ruleset by_hole = (hole_past, hole_whole, hole_part)
