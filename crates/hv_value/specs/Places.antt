-- Places in a tree: what stands there, and the tree with another tree there.
use Rattle.std.specs.Prelude.{ℕ, zero, suc, Bool, true, false, List, [], ◌∷◌, Option, Some, None, ◌==◌, if◌then◌else◌, option_and_then}
use Rattle.hv_value.specs.declared.value.PathStep.{PathStep}
use Rattle.hv_value.specs.declared.value.PathStep.TheVariants.{Field, At}
use Rattle.hv_value.specs.ValueTree.{ValueTree, Fields, Elements, Parts, Nil, Cons}

abbrev pub Path : Type 0
Path = List PathStep

-- ---- one step

-- the part with this number, from 0
abbrev pub nth : Parts → ℕ → Option ValueTree
nth Nil k = None
nth (Cons t ts) zero = Some t
nth (Cons t ts) (suc k) = nth ts k

abbrev pub change_nth : Parts → ℕ → (ValueTree → ValueTree) → Parts
change_nth Nil k f = Nil
change_nth (Cons t ts) zero f = Cons (f t) ts
change_nth (Cons t ts) (suc k) f = Cons t (change_nth ts k f)

-- a field of a struct, or an element of an array
abbrev pub part : ValueTree → PathStep → Option ValueTree
part (Fields ts) (Field k) = nth ts k
part (Elements ts) (At k) = nth ts k
part _ _ = None

-- the tree with that part changed, or as it is where the step doesn't fit
abbrev pub change_part : ValueTree → PathStep → (ValueTree → ValueTree) → ValueTree
change_part (Fields ts) (Field k) f = Fields (change_nth ts k f)
change_part (Elements ts) (At k) f = Elements (change_nth ts k f)
change_part t _ f = t

-- ---- a whole path

-- what stands at a path, if the path fits the tree
abbrev pub get : ValueTree → Path → Option ValueTree
get t [] = Some t
get t (s ∷ p) = option_and_then (λ c. get c p) (part t s)

-- the tree with another one at a path, or as it is where the path doesn't fit
abbrev pub put : ValueTree → Path → ValueTree → ValueTree
put t [] v = v
put t (s ∷ p) v = change_part t s (λ c. put c p v)

-- ---- two paths

abbrev pub same_step : PathStep → PathStep → Bool
same_step (Field j) (Field k) = j == k
same_step (At j) (At k) = j == k
same_step _ _ = false

-- neither of the two paths is a prefix of the other
abbrev pub apart : Path → Path → Bool
apart [] q = false
apart (s ∷ p) [] = false
apart (s ∷ p) (t ∷ q) = if same_step s t then apart p q else true

abbrev pub one_more : (ValueTree → ℕ) → Option ValueTree → ℕ
one_more f None = 0
one_more f (Some c) = suc (f c)

-- how many steps of a path there are in the tree
abbrev pub reach : ValueTree → Path → ℕ
reach t [] = 0
reach t (s ∷ p) = one_more (λ c. reach c p) (part t s)
