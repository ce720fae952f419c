-- The order of refusals, and the first of a list.
use Rattle.std.proofs.Common.{◌≡◌, ◌⊎◌, inl, inr, ◌+◌, ◌<◌, ◌≤◌, ℕ, zero, suc, List, [], ◌∷◌, ◌++◌, length, take, get_or, Option, Some, None, Contains, refl, ap, ◌∙◌, arith}
use Rattle.std.proofs.lemmas.List.{take_more}
use Rattle.hv_tree.specs.declared.refusal.Refusal.{Refusal}
use Rattle.hv_tree.specs.Earlier.{NotAfter, IsEarlier, IsFirst}
use Rattle.hv_lemmas.proofs.Members.{Among, in_left, in_right, either_in, listed, contained}

-- ---- the first of a list

same_order : (x : Refusal) → NotAfter x x
same_order x = inr (refl, omega arith)

pub through : (x y z : Refusal) → NotAfter x y → NotAfter y z → NotAfter x z
through x y z (inl a) (inl b) = inl (omega (arith, a, b))
through x y z (inl a) (inr (b, c)) = inl (omega (arith, a, b))
through x y z (inr (a, b)) (inl c) = inl (omega (arith, a, c))
through x y z (inr (a, b)) (inr (c, d)) = inr (a ∙ c, omega (arith, b, d))

last_or : (xs : List Refusal) (x r : Refusal) → Among (xs ++ x ∷ []) r → Among xs r ⊎ (x ≡ r)
last_or xs x r h = by (either_in xs (x ∷ []) r h)
  where
    by : Among xs r ⊎ Among (x ∷ []) r → Among xs r ⊎ (x ≡ r)
    by (inl i) = inl i
    by (inr (inl e)) = inr e
    by (inr (inr i)) = absurd i

-- one more
more : (xs : List Refusal) (x : Refusal) (a b : Option Refusal) → IsFirst (Among xs) a → IsEarlier a (Some x) b → IsFirst (Among (xs ++ x ∷ [])) b
more xs x None b none e = rw e (in_right xs (x ∷ []) x (inl refl), λ r h. by r (last_or xs x r h))
  where
    by : (r : Refusal) → Among xs r ⊎ (x ≡ r) → NotAfter x r
    by r (inl i) = absurd (none r i)
    by r (inr f) = rw f (same_order r)
more xs x (Some a) b (is, least) (inl (e, before)) = rw e (in_left xs (x ∷ []) a is, λ r h. by r (last_or xs x r h))
  where
    by : (r : Refusal) → Among xs r ⊎ (x ≡ r) → NotAfter a r
    by r (inl i) = least r i
    by r (inr f) = rw (← f) before
more xs x (Some a) b (is, least) (inr (e, before)) = rw e (in_right xs (x ∷ []) x (inl refl), λ r h. by r (last_or xs x r h))
  where
    by : (r : Refusal) → Among xs r ⊎ (x ≡ r) → NotAfter x r
    by r (inl i) = through x a r before (least r i)
    by r (inr f) = rw f (same_order r)

-- the first of the front of a list, and one more
pub turn : (xs : List Refusal) (i : ℕ) (d : Refusal) (a b : Option Refusal) → i < length xs → IsFirst (Among (take i xs)) a → IsEarlier a (Some (get_or xs i d)) b → IsFirst (Among (take (i + 1) xs)) b
turn xs i d a b h first earlier = rw (take_more xs i d h) (more (take i xs) (get_or xs i d) a b first earlier)

pub of_list : (xs : List Refusal) (v : Option Refusal) → IsFirst (Among xs) v → IsFirst (Contains xs) v
of_list xs None none = λ r c. none r (listed xs r c)
of_list xs (Some a) (is, least) = (contained xs a is, λ r c. least r (listed xs r c))

all_taken : (xs : List Refusal) (i : ℕ) → length xs ≤ i → take i xs ≡ xs
all_taken [] zero h = refl
all_taken [] (suc i) h = refl
all_taken (x ∷ xs) zero h = absurd (omega (arith, h))
all_taken (x ∷ xs) (suc i) h = ap (λ l. x ∷ l) (all_taken xs i (omega (arith, h)))

-- the first of the front is that of the whole list where the front is all of it
pub at_end : (xs : List Refusal) (i : ℕ) (v : Option Refusal) → length xs ≤ i → IsFirst (Among (take i xs)) v → IsFirst (Contains xs) v
at_end xs i v h first = of_list xs v (rw (← all_taken xs i h) first)
