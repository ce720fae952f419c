-- The shape of a tree is the tree emptied.
use Rattle.std.proofs.Common.{◌≡◌, ℕ, zero, suc, ◌+◌, List, [], ◌∷◌, map, Option, Some, None, option_map, option_and_then, arith, refl, sym, ap, ◌∙◌, subst}
use Rattle.hv_value.specs.declared.value.Shape.{Shape}
use Rattle.hv_value.specs.declared.value.Shape.TheOpen.{Shape-F}
use Rattle.hv_value.specs.declared.value.Shape.TheViews.{roll-Shape}
use Rattle.hv_value.specs.declared.value.Shape.TheFolds.{ind-Shape, map-Shape, fold-roll-Shape}
use Rattle.hv_value.specs.declared.value.PathStep.{PathStep}
use Rattle.hv_value.specs.declared.value.PathStep.TheVariants.{Field, At}
use Rattle.hv_value.specs.ValueTree.{ValueTree, Hole, Number, Truth, Fields, Elements, Closure, Parts, Nil, Cons, row}
use Rattle.hv_value.specs.Places.{Path, nth, change_nth, part, change_part, get, put}
use Rattle.hv_value.specs.Holes.{fields_or_hole, emptied, all_emptied, put_if_there, clear, holes_step, holes_of, leaves, fields_leaves, rest_leaves}
use Rattle.hv_value.proofs.HoleLaws.{emptied-emptied, emptied-row}

-- ---- writes keep shapes

shape-nth : (ts : Parts) (k : ℕ) (f : ValueTree → ValueTree) (c : ValueTree) → nth ts k ≡ Some c → emptied (f c) ≡ emptied c → all_emptied (change_nth ts k f) ≡ all_emptied ts
shape-nth Nil k f c e h = refl
shape-nth (Cons t ts) zero f c e h = let same : t ≡ c = grind (arith, e) in ap (λ x. Cons x (all_emptied ts)) (ap (λ y. emptied (f y)) same ∙ h ∙ ap emptied (sym same))
shape-nth (Cons t ts) (suc k) f c e h = ap (Cons (emptied t)) (shape-nth ts k f c e h)

shape-part : (t : ValueTree) (s : PathStep) (f : ValueTree → ValueTree) (c : ValueTree) → part t s ≡ Some c → emptied (f c) ≡ emptied c → emptied (change_part t s f) ≡ emptied t
shape-part (Fields ts) (Field k) f c e h = ap fields_or_hole (shape-nth ts k f c e h)
shape-part (Elements ts) (At k) f c e h = refl
shape-part _ _ f c e h = refl

-- a write of a tree of the place's shape keeps the shape
pub emptied-put : (p : Path) (t u v : ValueTree) → get t p ≡ Some u → emptied v ≡ emptied u → emptied (put t p v) ≡ emptied t
emptied-put [] t u v e h = let same : t ≡ u = grind (arith, e) in h ∙ ap emptied (sym same)
emptied-put (s ∷ p) t u v e h = go (emptied-put p) (part t s) refl e
  where
    go : ((t u v : ValueTree) → get t p ≡ Some u → emptied v ≡ emptied u → emptied (put t p v) ≡ emptied t) → (o : Option ValueTree) → part t s ≡ o → option_and_then (λ c. get c p) o ≡ Some u → emptied (put t (s ∷ p) v) ≡ emptied t
    go ih None i k = cc
    go ih (Some c) i k = shape-part t s (λ c. put c p v) c i (ih c u v k h)

-- so does a write below an element of an array, whatever it writes
pub emptied-put_element : (p : Path) (k : ℕ) (t v : ValueTree) → emptied (put t (At k ∷ p) v) ≡ emptied t
emptied-put_element p k (Elements ts) v = refl
emptied-put_element p k _ v = refl

-- clearing keeps the shape
pub emptied-clear : (p : Path) (t : ValueTree) → emptied (clear t p) ≡ emptied t
emptied-clear p t = go (get t p) refl
  where
    go : (o : Option ValueTree) → get t p ≡ o → emptied (put_if_there t p (option_map emptied o)) ≡ emptied t
    go None e = refl
    go (Some u) e = emptied-put p t u (emptied u) e (emptied-emptied u)

-- ---- leaves

leaves-fields : (ts : Parts) → leaves (fields_or_hole ts) ≡ fields_leaves ts
leaves-fields Nil = refl
leaves-fields (Cons t ts) = refl

mutual
  -- a tree has as many leaves as its shape
  pub leaves-emptied : (t : ValueTree) → leaves (emptied t) ≡ leaves t
  leaves-emptied Hole = refl
  leaves-emptied (Number z) = refl
  leaves-emptied (Truth b) = refl
  leaves-emptied (Fields ts) = leaves-fields (all_emptied ts) ∙ leaves-all_emptied ts
  leaves-emptied (Elements ts) = refl
  leaves-emptied (Closure f ts) = refl

  leaves-all_emptied : (ts : Parts) → fields_leaves (all_emptied ts) ≡ fields_leaves ts
  leaves-all_emptied Nil = refl
  leaves-all_emptied (Cons t ts) = rw (leaves-emptied t) (ap (λ n. leaves t + n) (leaves-rest_emptied ts))

  leaves-rest_emptied : (ts : Parts) → rest_leaves (all_emptied ts) ≡ rest_leaves ts
  leaves-rest_emptied Nil = refl
  leaves-rest_emptied (Cons t ts) = rw (leaves-emptied t) (ap (λ n. leaves t + n) (leaves-rest_emptied ts))

-- ---- shapes of slots

abbrev IsEmpty : Shape → Type 0
IsEmpty s = emptied (holes_of s) ≡ holes_of s

-- a shape with the proof
abbrev Empty : Type 0
Empty = (s : Shape) × IsEmpty s

all_empty : (es : List Empty) → all_emptied (row (map holes_of (map (λ e. e.0) es))) ≡ row (map holes_of (map (λ e. e.0) es))
all_empty [] = refl
all_empty (e ∷ es) = rw e.1 (rw (all_empty es) refl)

empty_layer : (y : Shape-F Empty) → IsEmpty (roll-Shape (map-Shape Empty Shape (λ e. e.0) y))
empty_layer Shape-F.Leaf = ap emptied (fold-roll-Shape ValueTree holes_step Shape-F.Leaf) ∙ sym (fold-roll-Shape ValueTree holes_step Shape-F.Leaf)
empty_layer (Shape-F.Struct es) =
    let rolled : holes_of (roll-Shape (Shape-F.Struct (map (λ e. e.0) es))) ≡ fields_or_hole (row (map holes_of (map (λ e. e.0) es))) = fold-roll-Shape ValueTree holes_step (Shape-F.Struct (map (λ e. e.0) es)) in
    ap emptied rolled
    ∙ emptied-row (row (map holes_of (map (λ e. e.0) es)))
    ∙ ap fields_or_hole (all_empty es)
    ∙ sym rolled

-- a slot of holes alone is its own shape
pub emptied-holes_of : (s : Shape) → IsEmpty s
emptied-holes_of = ind-Shape IsEmpty (λ x y is. subst (λ z. IsEmpty (roll-Shape z)) is (empty_layer y))
