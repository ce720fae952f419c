-- Parts of a value, as parts of its tree.
use Rattle.std.proofs.Common.{◌≡◌, ◌<◌, ℕ, zero, suc, List, [], ◌∷◌, length, slice_get, slice_set, IsSome, Some, option_map, arith, refl, ap, ◌∙◌}
use Rattle.hv_value.specs.declared.value.Value.{Value}
use Rattle.hv_value.specs.declared.value.PathStep.{PathStep}
use Rattle.hv_value.specs.ValueTree.{ValueTree, Cons, tree_of, trees_of}
use Rattle.hv_value.specs.Places.{Path, nth, change_nth, part, change_part, put}
use Rattle.hv_value.proofs.PartLaws.{part-same, change-twice, change-agree}

pub nth-trees : (vs : List Value) (k : ℕ) → nth (trees_of vs) k ≡ option_map tree_of (slice_get vs k)
nth-trees [] k = refl
nth-trees (v ∷ vs) zero = refl
nth-trees (v ∷ vs) (suc k) = nth-trees vs k

pub nth_within : (vs : List Value) (k : ℕ) → IsSome (nth (trees_of vs) k) → k < length vs
nth_within [] k h = cc
nth_within (v ∷ vs) zero h = omega arith
nth_within (v ∷ vs) (suc k) h = omega (arith, nth_within vs k h)

pub trees-set : (vs : List Value) (k : ℕ) (v : Value) → trees_of (slice_set vs k v) ≡ change_nth (trees_of vs) k (λ _. tree_of v)
trees-set [] k v = refl
trees-set (u ∷ vs) zero v = refl
trees-set (u ∷ vs) (suc k) v = ap (Cons (tree_of u)) (trees-set vs k v)

-- a part that was put is there
pub put_there : (t u : ValueTree) (s : PathStep) (c x : ValueTree) → part t s ≡ Some c → u ≡ change_part t s (λ _. x) → IsSome (part u s)
put_there t u s c x h e = rw e (rw (part-same t s (λ _. x)) (rw h refl))

-- a part is taken out, changed inside and put back
pub put_back : (t u w c d x v : ValueTree) (s : PathStep) (p : Path) → part t s ≡ Some c → u ≡ change_part t s (λ _. x) → d ≡ put c p v → w ≡ change_part u s (λ _. d) → w ≡ put t (s ∷ p) v
put_back t u w c d x v s p h e f g =
    g ∙ ap (λ y. change_part y s (λ _. d)) e
    ∙ change-twice t s (λ _. x) (λ _. d)
    ∙ change-agree t s (λ _. d) (λ y. put y p v) c h f

pub ruleset by_number = (nth-trees, nth_within, trees-set)
