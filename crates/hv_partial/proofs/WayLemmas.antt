-- A way, step by step.
use Rattle.std.proofs.Common.{◌≡◌, pos, negsuc, ℕ, List, [], ◌∷◌, ◌++◌, Option, Some, None, refl, sym, ap, ◌∙◌, arith}
use Rattle.std.proofs.lemmas.List.{append_assoc}
use Rattle.hv_tree.specs.declared.place.Place.{Place}
use Rattle.hv_value.specs.declared.value.PathStep.{PathStep}
use Rattle.hv_value.specs.declared.value.PathStep.TheVariants.{Field, At}
use Rattle.hv_value.specs.ValueTree.{ValueTree, Hole, Number, Truth, Fields, Elements, Closure}
use Rattle.hv_value.specs.Places.{Path, nth}
use Rattle.hv_value.specs.Walk.{Link, ToField, ToIndex, Reached, Reaches, Outside, Lost, after_step, onward, step_on, walk}
use Rattle.hv_partial.specs.OneStep.{Taken, Onto, Off, Nowhere, onto, one_step}

-- a way on from a path that is behind it
abbrev pub behind : Path → Reached Place → Reached Place
behind p (Reaches q t) = Reaches (p ++ q) t
behind p (Outside at) = Outside at
behind p Lost = Lost

-- on from where one step leads
abbrev pub resumed : (ValueTree → Reached Place) → Taken → Reached Place
resumed go (Onto s c) = after_step s (go c)
resumed go (Off at) = Outside at
resumed go Nowhere = Lost

pub walk-step : (l : Link Place) (ls : List (Link Place)) (t : ValueTree) → walk (l ∷ ls) t ≡ resumed (walk ls) (one_step l t)
walk-step (ToField k) ls (Fields ts) = go (nth ts k)
  where
    go : (o : Option ValueTree) → onward (walk ls) (Field k) Lost o ≡ resumed (walk ls) (onto (Field k) Nowhere o)
    go None = refl
    go (Some c) = refl
walk-step (ToIndex (pos k) at) ls (Elements ts) = go (nth ts k)
  where
    go : (o : Option ValueTree) → onward (walk ls) (At k) (Outside at) o ≡ resumed (walk ls) (onto (At k) (Off at) o)
    go None = refl
    go (Some c) = refl
walk-step (ToIndex (negsuc k) at) ls (Elements ts) = refl
walk-step (ToField k) ls _ = refl
walk-step (ToIndex (pos k) at) ls _ = refl
walk-step (ToIndex (negsuc k) at) ls _ = refl

pub behind-step : (p : Path) (s : PathStep) (r : Reached Place) → behind (p ++ s ∷ []) r ≡ behind p (after_step s r)
behind-step p s (Reaches q t) = ap (λ x. Reaches x t) (append_assoc p (s ∷ []) q)
behind-step p s (Outside at) = refl
behind-step p s Lost = refl

pub behind-nothing : (r : Reached Place) → behind [] r ≡ r
behind-nothing (Reaches q t) = refl
behind-nothing (Outside at) = refl
behind-nothing Lost = refl

pub ruleset by_steps = (walk-step, behind-step, behind-nothing)
