-- Sizes add up.
use Rattle.std.proofs.Common.{◌≡◌, ◌<◌, ◌≤◌, ℕ, zero, suc, ◌+◌, ◌*◌, List, [], ◌∷◌, ◌++◌, sum_by, Option, Some, None, option_and_then, arith, refl, sym, ap, ◌∙◌}
use Rattle.std.proofs.lemmas.List.Sums.{sum_by-cons}
use Rattle.hv_value.specs.declared.value.Value.{Value}
use Rattle.hv_value.specs.declared.value.PathStep.{PathStep}
use Rattle.hv_value.specs.declared.value.PathStep.TheVariants.{Field, At}
use Rattle.hv_value.specs.ValueTree.{ValueTree, Hole, Number, Truth, Fields, Elements, Closure, Parts, Nil, Cons, row, tree_of, trees_of}
use Rattle.hv_value.specs.Places.{Path, nth, change_nth, part, change_part, get, put}
use Rattle.hv_value.specs.Sizes.{size, sizes, fill_cost}
use Rattle.hv_value.specs.Operators.{copies, count}

-- a row's size is the sum of its parts' sizes
pub sizes-row : (ts : List ValueTree) → sizes (row ts) ≡ sum_by size ts
sizes-row [] = refl
sizes-row (t ∷ ts) = ap (λ n. size t + n) (sizes-row ts) ∙ sym (sum_by-cons size t ts)

abbrev value_size : Value → ℕ
value_size v = size (tree_of v)

pub sizes-trees : (vs : List Value) → sizes (trees_of vs) ≡ sum_by value_size vs
sizes-trees [] = refl
sizes-trees (v ∷ vs) = ap (λ n. value_size v + n) (sizes-trees vs) ∙ sym (sum_by-cons value_size v vs)

pub sizes-append : (ts us : List ValueTree) → sizes (row (ts ++ us)) ≡ sizes (row ts) + sizes (row us)
sizes-append [] us = omega arith
sizes-append (t ∷ ts) us = omega (arith, sizes-append ts us)

pub sizes-copies : (n : ℕ) (t : ValueTree) → sizes (copies n t) ≡ n * size t
sizes-copies zero t = omega arith
sizes-copies (suc n) t = omega (arith, sizes-copies n t)

-- a filled array costs what it measures
pub size-filled : (n : ℕ) (t : ValueTree) → size (Elements (copies n t)) ≡ fill_cost n t
size-filled n t = omega (arith, sizes-copies n t)

pub size_positive : (t : ValueTree) → 0 < size t
size_positive Hole = omega arith
size_positive (Number z) = omega arith
size_positive (Truth b) = omega arith
size_positive (Fields ts) = omega arith
size_positive (Elements ts) = omega arith
size_positive (Closure f ts) = omega arith

-- each part measures 1 at least
pub count_le-sizes : (ts : Parts) → count ts ≤ sizes ts
count_le-sizes Nil = omega arith
count_le-sizes (Cons t ts) = omega (arith, size_positive t, count_le-sizes ts)

size-nth : (ts : Parts) (k : ℕ) (f : ValueTree → ValueTree) (c : ValueTree) → nth ts k ≡ Some c → sizes (change_nth ts k f) + size c ≡ sizes ts + size (f c)
size-nth Nil k f c h = cc
size-nth (Cons t ts) zero f c h = let same : t ≡ c = grind (arith, h) in omega (arith, ap size same, ap (λ x. size (f x)) same)
size-nth (Cons t ts) (suc k) f c h = omega (arith, size-nth ts k f c h)

size-part : (t : ValueTree) (s : PathStep) (f : ValueTree → ValueTree) (c : ValueTree) → part t s ≡ Some c → size (change_part t s f) + size c ≡ size t + size (f c)
size-part (Fields ts) (Field k) f c h = omega (arith, size-nth ts k f c h)
size-part (Elements ts) (At k) f c h = omega (arith, size-nth ts k f c h)
size-part _ _ f c h = cc

-- a write changes the size by the difference of the two parts' sizes
pub size-put : (p : Path) (t u v : ValueTree) → get t p ≡ Some u → size (put t p v) + size u ≡ size t + size v
size-put [] t u v h = let same : t ≡ u = grind (arith, h) in omega (arith, ap size same)
size-put (s ∷ p) t u v h = go (size-put p) (part t s) refl h
  where
    go : ((t u v : ValueTree) → get t p ≡ Some u → size (put t p v) + size u ≡ size t + size v) → (o : Option ValueTree) → part t s ≡ o → option_and_then (λ c. get c p) o ≡ Some u → size (put t (s ∷ p) v) + size u ≡ size t + size v
    go ih None e k = cc
    go ih (Some c) e k = omega (arith, size-part t s (λ c. put c p v) c e, ih c u v k)

size_le-nth : (ts : Parts) (k : ℕ) (c : ValueTree) → nth ts k ≡ Some c → size c ≤ sizes ts
size_le-nth Nil k c h = cc
size_le-nth (Cons t ts) zero c h = let same : t ≡ c = grind (arith, h) in omega (arith, ap size same)
size_le-nth (Cons t ts) (suc k) c h = omega (arith, size_le-nth ts k c h)

size_below-part : (t : ValueTree) (s : PathStep) (c : ValueTree) → part t s ≡ Some c → size c < size t
size_below-part (Fields ts) (Field k) c h = omega (arith, size_le-nth ts k c h)
size_below-part (Elements ts) (At k) c h = omega (arith, size_le-nth ts k c h)
size_below-part _ _ c h = cc

-- a part is no larger than the whole
pub size_le-get : (p : Path) (t u : ValueTree) → get t p ≡ Some u → size u ≤ size t
size_le-get [] t u h = let same : t ≡ u = grind (arith, h) in omega (arith, ap size same)
size_le-get (s ∷ p) t u h = go (size_le-get p) (part t s) refl h
  where
    go : ((t u : ValueTree) → get t p ≡ Some u → size u ≤ size t) → (o : Option ValueTree) → part t s ≡ o → option_and_then (λ c. get c p) o ≡ Some u → size u ≤ size t
    go ih None e k = cc
    go ih (Some c) e k = omega (arith, size_below-part t s c e, ih c u k)
