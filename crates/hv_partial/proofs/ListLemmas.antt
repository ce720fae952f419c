-- Parts of a tree, as parts of what it is the tree of.
use Rattle.std.proofs.Common.{◌≡◌, ◌<◌, ◌≤◌, ◌≢◌, ℕ, zero, suc, Bool, true, false, ◌&&◌, List, [], ◌∷◌, ◌++◌, length, map, replicate, slice_get, slice_set, Option, Some, None, option_map, arith, refl, sym, ap, ◌∙◌}
use Rattle.std.proofs.lemmas.List.{append_assoc}
use Rattle.hv_value.specs.declared.value.Value.{Value}
use Rattle.hv_value.specs.declared.value.PathStep.{PathStep}
use Rattle.hv_value.specs.declared.value.PathStep.TheVariants.{Field, At}
use Rattle.hv_value.specs.ValueTree.{ValueTree, Hole, Number, Truth, Fields, Elements, Closure, Parts, Nil, Cons, row, value_of, values_of, and_first}
use Rattle.hv_value.specs.Equality.{same, all_same}
use Rattle.hv_value.specs.Holes.{emptied, all_emptied}
use Rattle.hv_value.specs.Operators.{count, copies}
use Rattle.hv_value.specs.Places.{Path, nth, change_nth, part, change_part, put}
use Rattle.hv_value.proofs.PartLaws.{part-same, change-twice, change-agree}
use Rattle.hv_partial.specs.declared.tree.Held.{Held}
use Rattle.hv_partial.specs.HeldTree.{held_tree, held_trees}

-- ---- comparing

-- rows of different lengths differ
pub all_same_lengths : (a b : List Held) → length a ≢ length b → all_same (held_trees a) (held_trees b) ≡ false
all_same_lengths [] [] h = absurd (h refl)
all_same_lengths [] (y ∷ b) h = refl
all_same_lengths (x ∷ a) [] h = refl
all_same_lengths (x ∷ a) (y ∷ b) h = rw (all_same_lengths a b (λ e. h (ap suc e))) (none (same (held_tree x) (held_tree y)))
  where
    none : (t : Bool) → (t && false) ≡ false
    none true = refl
    none false = refl

-- ---- holes, counts and copies

pub all_emptied_row : (ts : List ValueTree) → all_emptied (row ts) ≡ row (map emptied ts)
all_emptied_row [] = refl
all_emptied_row (t ∷ ts) = ap (Cons (emptied t)) (all_emptied_row ts)

pub count_row : (hs : List Held) → count (held_trees hs) ≡ length hs
count_row [] = refl
count_row (h ∷ hs) = ap suc (count_row hs)

pub copies_row : (n : ℕ) (h : Held) → held_trees (replicate n h) ≡ copies n (held_tree h)
copies_row zero h = refl
copies_row (suc n) h = ap (Cons (held_tree h)) (copies_row n h)

-- ---- values

abbrev pub behind_values : List Value → Option (List Value) → Option (List Value)
behind_values vs None = None
behind_values vs (Some ws) = Some (vs ++ ws)

pub behind_none : (vs : List Value) (o : Option (List Value)) → behind_values vs (and_first None o) ≡ None
behind_none vs o = refl

pub behind_one : (vs : List Value) (v : Value) (o : Option (List Value)) → behind_values (vs ++ v ∷ []) o ≡ behind_values vs (and_first (Some v) o)
behind_one vs v None = refl
behind_one vs v (Some ws) = ap Some (append_assoc vs (v ∷ []) ws)

-- ---- parts by number

pub nth-trees : (hs : List Held) (k : ℕ) → nth (held_trees hs) k ≡ option_map held_tree (slice_get hs k)
nth-trees [] k = refl
nth-trees (h ∷ hs) zero = refl
nth-trees (h ∷ hs) (suc k) = nth-trees hs k

pub trees-set : (hs : List Held) (k : ℕ) (h : Held) → held_trees (slice_set hs k h) ≡ change_nth (held_trees hs) k (λ _. held_tree h)
trees-set [] k h = refl
trees-set (g ∷ hs) zero h = refl
trees-set (g ∷ hs) (suc k) h = ap (Cons (held_tree g)) (trees-set hs k h)

-- behind the last part nothing is and nothing changes
pub nth-past : (hs : List Held) (k : ℕ) → length hs ≤ k → nth (held_trees hs) k ≡ None
nth-past [] k h = refl
nth-past (g ∷ hs) zero h = absurd (omega arith)
nth-past (g ∷ hs) (suc k) h = nth-past hs k (omega arith)

pub change-past : (hs : List Held) (k : ℕ) (f : ValueTree → ValueTree) → length hs ≤ k → change_nth (held_trees hs) k f ≡ held_trees hs
change-past [] k f h = refl
change-past (g ∷ hs) zero f h = absurd (omega arith)
change-past (g ∷ hs) (suc k) f h = ap (Cons (held_tree g)) (change-past hs k f (omega arith))

pub ruleset by_number = (nth-trees, trees-set, nth-past, change-past)

-- ---- whole paths

-- a part is taken out, changed inside and put back
pub put_back : (t u w c d x v : ValueTree) (s : PathStep) (p : Path) → part t s ≡ Some c → u ≡ change_part t s (λ _. x) → d ≡ put c p v → w ≡ change_part u s (λ _. d) → w ≡ put t (s ∷ p) v
put_back t u w c d x v s p h e f g =
    g ∙ ap (λ y. change_part y s (λ _. d)) e
    ∙ change-twice t s (λ _. x) (λ _. d)
    ∙ change-agree t s (λ _. d) (λ y. put y p v) c h f

-- where there is no such part, no change of it changes anything
same_nth : (ts : Parts) (k : ℕ) (f g : ValueTree → ValueTree) → nth ts k ≡ None → change_nth ts k f ≡ change_nth ts k g
same_nth Nil k f g h = refl
same_nth (Cons t ts) zero f g h = cc
same_nth (Cons t ts) (suc k) f g h = ap (Cons t) (same_nth ts k f g h)

same_part : (t : ValueTree) (s : PathStep) (f g : ValueTree → ValueTree) → part t s ≡ None → change_part t s f ≡ change_part t s g
same_part (Fields ts) (Field k) f g h = ap Fields (same_nth ts k f g h)
same_part (Elements ts) (At k) f g h = ap Elements (same_nth ts k f g h)
same_part (Fields ts) (At k) f g h = refl
same_part (Elements ts) (Field k) f g h = refl
same_part Hole s f g h = refl
same_part (Number z) s f g h = refl
same_part (Truth b) s f g h = refl
same_part (Closure n ts) s f g h = refl

pub put_nowhere : (t w x v : ValueTree) (s : PathStep) (p : Path) → None ≡ part t s → w ≡ change_part t s (λ _. x) → w ≡ put t (s ∷ p) v
put_nowhere t w x v s p h e = e ∙ same_part t s (λ _. x) (λ y. put y p v) (sym h)
