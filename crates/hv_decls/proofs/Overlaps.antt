-- The test of two paths says whether they overlap.
use Rattle.std.proofs.Common.{◌≡◌, ◌⊎◌, inl, inr, ℤ, pos, negsuc, true, ◌&&◌, List, [], ◌∷◌, refl, sym, ap}
use Rattle.std.proofs.lemmas.Bool.{eq-eqb, eqb-true}
use Rattle.hv_decls.specs.declared.path.StaticStep.{StaticStep}
use Rattle.hv_decls.specs.declared.path.StaticStep.TheVariants as step
use Rattle.hv_decls.specs.Paths.{Compatible, IsPrefix, same_int, compatible, steps_meet}
use Rattle.hv_lemmas.proofs.Bools.{and_parts, and_both}

-- ---- one step

same_to : (x y : ℤ) → same_int x y ≡ true → x ≡ y
same_to (pos x) (pos y) e = ap pos (eqb-true x y e)
same_to (pos x) (negsuc y) e = cc
same_to (negsuc x) (pos y) e = cc
same_to (negsuc x) (negsuc y) e = ap negsuc (eqb-true x y e)

same_from : (x y : ℤ) → x ≡ y → same_int x y ≡ true
same_from (pos x) (pos y) e = eq-eqb x y (cc)
same_from (pos x) (negsuc y) e = cc
same_from (negsuc x) (pos y) e = cc
same_from (negsuc x) (negsuc y) e = eq-eqb x y (cc)

to : (a b : StaticStep) → compatible a b ≡ true → Compatible a b
to (step.Field x) (step.Field y) e = eqb-true x y e
to (step.Field x) (step.Literal y) e = cc
to (step.Field x) step.Any e = cc
to (step.Literal x) (step.Field y) e = cc
to (step.Literal x) (step.Literal y) e = same_to x y e
to (step.Literal x) step.Any e = tt
to step.Any (step.Field y) e = cc
to step.Any (step.Literal y) e = tt
to step.Any step.Any e = tt

from : (a b : StaticStep) → Compatible a b → compatible a b ≡ true
from (step.Field x) (step.Field y) e = eq-eqb x y e
from (step.Field x) (step.Literal y) e = absurd e
from (step.Field x) step.Any e = absurd e
from (step.Literal x) (step.Field y) e = absurd e
from (step.Literal x) (step.Literal y) e = same_from x y e
from (step.Literal x) step.Any e = refl
from step.Any (step.Field y) e = absurd e
from step.Any (step.Literal y) e = refl
from step.Any step.Any e = refl

from_other : (a b : StaticStep) → Compatible b a → compatible a b ≡ true
from_other (step.Field x) (step.Field y) e = eq-eqb x y (sym e)
from_other (step.Field x) (step.Literal y) e = absurd e
from_other (step.Field x) step.Any e = absurd e
from_other (step.Literal x) (step.Field y) e = absurd e
from_other (step.Literal x) (step.Literal y) e = same_from x y (sym e)
from_other (step.Literal x) step.Any e = refl
from_other step.Any (step.Field y) e = absurd e
from_other step.Any (step.Literal y) e = refl
from_other step.Any step.Any e = refl

to_other : (a b : StaticStep) → compatible a b ≡ true → Compatible b a
to_other (step.Field x) (step.Field y) e = sym (eqb-true x y e)
to_other (step.Field x) (step.Literal y) e = cc
to_other (step.Field x) step.Any e = cc
to_other (step.Literal x) (step.Field y) e = cc
to_other (step.Literal x) (step.Literal y) e = sym (same_to x y e)
to_other (step.Literal x) step.Any e = tt
to_other step.Any (step.Field y) e = cc
to_other step.Any (step.Literal y) e = tt
to_other step.Any step.Any e = tt

-- ---- lists of steps

pub meets : (xs ys : List StaticStep) → steps_meet xs ys ≡ true → IsPrefix xs ys ⊎ IsPrefix ys xs
meets [] ys e = inl tt
meets (x ∷ xs) [] e = inr tt
meets (x ∷ xs) (y ∷ ys) e = let s = and_parts (compatible x y) (steps_meet xs ys) e in joined x y xs ys s.0 (meets xs ys s.1)
  where
    joined : (x y : StaticStep) (xs ys : List StaticStep) → compatible x y ≡ true → IsPrefix xs ys ⊎ IsPrefix ys xs → IsPrefix (x ∷ xs) (y ∷ ys) ⊎ IsPrefix (y ∷ ys) (x ∷ xs)
    joined x y xs ys c (inl p) = inl (to x y c, p)
    joined x y xs ys c (inr p) = inr (to_other x y c, p)

pub prefix_meets : (xs ys : List StaticStep) → IsPrefix xs ys → steps_meet xs ys ≡ true
prefix_meets [] ys p = refl
prefix_meets (x ∷ xs) [] p = absurd p
prefix_meets (x ∷ xs) (y ∷ ys) p = and_both _ _ (from x y p.0) (prefix_meets xs ys p.1)

pub meets_prefix : (xs ys : List StaticStep) → IsPrefix ys xs → steps_meet xs ys ≡ true
meets_prefix [] ys p = refl
meets_prefix (x ∷ xs) [] p = refl
meets_prefix (x ∷ xs) (y ∷ ys) p = and_both _ _ (from_other x y p.0) (meets_prefix xs ys p.1)

pub meet_of : (xs ys : List StaticStep) → IsPrefix xs ys ⊎ IsPrefix ys xs → steps_meet xs ys ≡ true
meet_of xs ys (inl p) = prefix_meets xs ys p
meet_of xs ys (inr p) = meets_prefix xs ys p
