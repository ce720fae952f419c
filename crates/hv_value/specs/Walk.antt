-- The way into a tree by steps whose indices have been evaluated.
use Rattle.std.specs.Prelude.{ℕ, ℤ, pos, negsuc, Bool, true, false, ◌==◌, if◌then◌else◌, List, [], ◌∷◌, Option, Some, None}
use Rattle.hv_value.specs.declared.value.PathStep.{PathStep}
use Rattle.hv_value.specs.declared.value.PathStep.TheVariants.{Field, At}
use Rattle.hv_value.specs.ValueTree.{ValueTree, Fields, Elements}
use Rattle.hv_value.specs.Places.{Path, nth}

-- a step with its index evaluated. The index carries a mark, as the place where it is written
pub data Link (A : Type 0) : Type 0 where
  ToField : ℕ → Link A
  ToIndex : ℤ → A → Link A

-- where a way leads
pub data Reached (A : Type 0) : Type 0 where
  -- the path, and what stands there
  Reaches : Path → ValueTree → Reached A
  -- the mark of the first index that is out of range
  Outside : A → Reached A
  -- a hole or a value of another kind stands before a step, or there is no such field
  Lost : Reached A

abbrev pub after_step : {A : Type 0} → PathStep → Reached A → Reached A
after_step s (Reaches p u) = Reaches (s ∷ p) u
after_step s (Outside a) = Outside a
after_step s Lost = Lost

-- on from a part, or the other answer where there is none
abbrev pub onward : {A : Type 0} → (ValueTree → Reached A) → PathStep → Reached A → Option ValueTree → Reached A
onward go s other None = other
onward go s other (Some c) = after_step s (go c)

abbrev pub step_on : {A : Type 0} → (ValueTree → Reached A) → Link A → ValueTree → Reached A
step_on go (ToField k) (Fields ts) = onward go (Field k) Lost (nth ts k)
step_on go (ToIndex (pos k) a) (Elements ts) = onward go (At k) (Outside a) (nth ts k)
step_on go (ToIndex (negsuc k) a) (Elements ts) = Outside a
step_on go _ _ = Lost

-- each index is tested in order
abbrev pub walk : {A : Type 0} → List (Link A) → ValueTree → Reached A
walk [] t = Reaches [] t
walk (l ∷ ls) t = step_on (walk ls) l t

abbrev pub leads : {A : Type 0} → PathStep → Link A → Bool
leads (Field j) (ToField k) = j == k
leads (At j) (ToIndex (pos k) a) = j == k
leads _ _ = false

-- the path and the way part at some step
abbrev pub parts_from : {A : Type 0} → Path → List (Link A) → Bool
parts_from [] ls = false
parts_from (s ∷ p) [] = false
parts_from (s ∷ p) (l ∷ ls) = if leads s l then parts_from p ls else true
