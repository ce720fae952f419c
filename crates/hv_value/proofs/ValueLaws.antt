-- A value and its tree are the same, and a tree without holes is that of a value.
use Rattle.std.proofs.Common.{◌≡◌, ℕ, true, ◌&&◌, true≢false, List, [], ◌∷◌, map, Option, Some, None, is_some, option_map, arith, refl, sym, ap, ◌∙◌, subst}
use Rattle.hv_value.specs.declared.value.Value.{Value}
use Rattle.hv_value.specs.declared.value.Value.TheOpen.{Value-F}
use Rattle.hv_value.specs.declared.value.Value.TheViews.{roll-Value}
use Rattle.hv_value.specs.declared.value.Value.TheVariants as value
use Rattle.hv_value.specs.declared.value.Value.TheVariants.{rolls-Int, rolls-Bool, rolls-Struct, rolls-Array, rolls-Fun}
use Rattle.hv_value.specs.declared.value.Value.TheFolds.{ind-Value, map-Value, fold-roll-Value}
use Rattle.hv_value.specs.ValueTree.{ValueTree, Hole, Number, Truth, Fields, Elements, Closure, Parts, Nil, Cons, tree_step, tree_of, trees_of, and_first, value_of, values_of}
use Rattle.hv_value.specs.Holes.{is_whole, all_whole}
use Rattle.hv_value.proofs.VariantLemmas.{tree-int, tree-bool, tree-struct, tree-array, tree-fun}

abbrev ReadsBack : Value → Type 0
ReadsBack v = value_of (tree_of v) ≡ Some v

-- a value with the proof
abbrev Read : Type 0
Read = (v : Value) × ReadsBack v

all_read : (es : List Read) → values_of (trees_of (map (λ e. e.0) es)) ≡ Some (map (λ e. e.0) es)
all_read [] = refl
all_read (e ∷ es) = rw e.1 (rw (all_read es) refl)

read_layer : (y : Value-F Read) → ReadsBack (roll-Value (map-Value Read Value (λ e. e.0) y))
read_layer (Value-F.Int z) = ap value_of (fold-roll-Value ValueTree tree_step (Value-F.Int z)) ∙ ap Some (sym (rolls-Int z))
read_layer (Value-F.Bool b) = ap value_of (fold-roll-Value ValueTree tree_step (Value-F.Bool b)) ∙ ap Some (sym (rolls-Bool b))
read_layer (Value-F.Struct es) =
    ap value_of (fold-roll-Value ValueTree tree_step (Value-F.Struct (map (λ e. e.0) es)))
    ∙ ap (option_map value.Struct) (all_read es) ∙ ap Some (sym (rolls-Struct (map (λ e. e.0) es)))
read_layer (Value-F.Array es) =
    ap value_of (fold-roll-Value ValueTree tree_step (Value-F.Array (map (λ e. e.0) es)))
    ∙ ap (option_map value.Array) (all_read es) ∙ ap Some (sym (rolls-Array (map (λ e. e.0) es)))
read_layer (Value-F.Fun f es) =
    ap value_of (fold-roll-Value ValueTree tree_step (Value-F.Fun f (map (λ e. e.0) es)))
    ∙ ap (option_map (value.Fun f)) (all_read es) ∙ ap Some (sym (rolls-Fun f (map (λ e. e.0) es)))

pub value_of-tree_of : (v : Value) → ReadsBack v
value_of-tree_of = ind-Value ReadsBack (λ x y is. subst (λ z. ReadsBack (roll-Value z)) is (read_layer y))

-- two values with one tree are equal
pub tree_of-injective : (v w : Value) → tree_of v ≡ tree_of w → v ≡ w
tree_of-injective v w h = let e : Some v ≡ Some w = sym (value_of-tree_of v) ∙ ap value_of h ∙ value_of-tree_of w in grind (arith, e)

struct_read : (ts : Parts) (v : Value) → ((vs : List Value) → values_of ts ≡ Some vs → trees_of vs ≡ ts) → (o : Option (List Value)) → values_of ts ≡ o → option_map value.Struct o ≡ Some v → tree_of v ≡ Fields ts
struct_read ts v ih None e h = cc
struct_read ts v ih (Some vs) e h = let same : value.Struct vs ≡ v = grind (arith, h) in ap tree_of (sym same) ∙ tree-struct vs ∙ ap Fields (ih vs e)

array_read : (ts : Parts) (v : Value) → ((vs : List Value) → values_of ts ≡ Some vs → trees_of vs ≡ ts) → (o : Option (List Value)) → values_of ts ≡ o → option_map value.Array o ≡ Some v → tree_of v ≡ Elements ts
array_read ts v ih None e h = cc
array_read ts v ih (Some vs) e h = let same : value.Array vs ≡ v = grind (arith, h) in ap tree_of (sym same) ∙ tree-array vs ∙ ap Elements (ih vs e)

fun_read : (f : ℕ) (ts : Parts) (v : Value) → ((vs : List Value) → values_of ts ≡ Some vs → trees_of vs ≡ ts) → (o : Option (List Value)) → values_of ts ≡ o → option_map (value.Fun f) o ≡ Some v → tree_of v ≡ Closure f ts
fun_read f ts v ih None e h = cc
fun_read f ts v ih (Some vs) e h = let same : value.Fun f vs ≡ v = grind (arith, h) in ap tree_of (sym same) ∙ tree-fun f vs ∙ ap (Closure f) (ih vs e)

first_read : (t : ValueTree) (ts : Parts) (vs : List Value) → ((v : Value) → value_of t ≡ Some v → tree_of v ≡ t) → ((us : List Value) → values_of ts ≡ Some us → trees_of us ≡ ts) → (o : Option Value) (os : Option (List Value)) → value_of t ≡ o → values_of ts ≡ os → and_first o os ≡ Some vs → trees_of vs ≡ Cons t ts
first_read t ts vs ih ihs None os e es h = cc
first_read t ts vs ih ihs (Some v) None e es h = cc
first_read t ts vs ih ihs (Some v) (Some us) e es h =
    let same : v ∷ us ≡ vs = grind (arith, h) in
    ap trees_of (sym same) ∙ ap (λ x. Cons x (trees_of us)) (ih v e) ∙ ap (Cons t) (ihs us es)

-- the value that a tree is has that tree
mutual
  pub tree_of-value_of : (t : ValueTree) (v : Value) → value_of t ≡ Some v → tree_of v ≡ t
  tree_of-value_of Hole v h = cc
  tree_of-value_of (Number z) v h = let same : value.Int z ≡ v = grind (arith, h) in ap tree_of (sym same) ∙ tree-int z
  tree_of-value_of (Truth b) v h = let same : value.Bool b ≡ v = grind (arith, h) in ap tree_of (sym same) ∙ tree-bool b
  tree_of-value_of (Fields ts) v h = struct_read ts v (trees_of-values_of ts) (values_of ts) refl h
  tree_of-value_of (Elements ts) v h = array_read ts v (trees_of-values_of ts) (values_of ts) refl h
  tree_of-value_of (Closure f ts) v h = fun_read f ts v (trees_of-values_of ts) (values_of ts) refl h

  pub trees_of-values_of : (ts : Parts) (vs : List Value) → values_of ts ≡ Some vs → trees_of vs ≡ ts
  trees_of-values_of Nil vs h = let same : [] ≡ vs = grind (arith, h) in ap trees_of (sym same)
  trees_of-values_of (Cons t ts) vs h = first_read t ts vs (tree_of-value_of t) (trees_of-values_of ts) (value_of t) (values_of ts) refl refl h

mapped : {A B : Type 0} (f : A → B) (o : Option A) → is_some (option_map f o) ≡ is_some o
mapped f None = refl
mapped f (Some a) = refl

both : (o : Option Value) (os : Option (List Value)) → is_some (and_first o os) ≡ (is_some o && is_some os)
both None os = refl
both (Some v) None = refl
both (Some v) (Some vs) = refl

-- a tree is a value exactly where it has no hole
mutual
  pub is_whole-value : (t : ValueTree) → is_whole t ≡ is_some (value_of t)
  is_whole-value Hole = refl
  is_whole-value (Number z) = refl
  is_whole-value (Truth b) = refl
  is_whole-value (Fields ts) = all_whole-values ts ∙ sym (mapped value.Struct (values_of ts))
  is_whole-value (Elements ts) = all_whole-values ts ∙ sym (mapped value.Array (values_of ts))
  is_whole-value (Closure f ts) = all_whole-values ts ∙ sym (mapped (value.Fun f) (values_of ts))

  pub all_whole-values : (ts : Parts) → all_whole ts ≡ is_some (values_of ts)
  all_whole-values Nil = refl
  all_whole-values (Cons t ts) = rw (is_whole-value t) (rw (all_whole-values ts) (sym (both (value_of t) (values_of ts))))

-- a value's tree has no hole
pub is_whole-tree_of : (v : Value) → is_whole (tree_of v) ≡ true
is_whole-tree_of v = is_whole-value (tree_of v) ∙ ap is_some (value_of-tree_of v)

-- a tree without holes is the tree of a value
pub value_there : (t : ValueTree) → is_whole t ≡ true → (v : Value) × (tree_of v ≡ t)
value_there t h = go (value_of t) refl (sym (is_whole-value t) ∙ h)
  where
    go : (o : Option Value) → value_of t ≡ o → is_some o ≡ true → (v : Value) × (tree_of v ≡ t)
    go None e k = absurd (true≢false (sym k))
    go (Some v) e k = (v, tree_of-value_of t v e)

-- for other crates, whose attributes name no lemma with a dash
pub ruleset value_laws = (value_of-tree_of, tree_of-value_of, is_whole-tree_of)
