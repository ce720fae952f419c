-- Lists that nothing is done to, and one item more.
use Rattle.std.proofs.Common.{◌≡◌, ℕ, zero, suc, ◌+◌, List, [], ◌∷◌, ◌++◌, replicate, refl, ◌∙◌, ap, arith}
use Rattle.hv_flow_versions.specs.Lists.{over, merge}

pub over_nothing : {A : Type 0} (f : ℕ → A → A) (from : ℕ) (xs : List A) → over f from 0 xs ≡ xs
over_nothing f from [] = refl
over_nothing f (suc from) (x ∷ xs) = ap (λ w. x ∷ w) (over_nothing (λ k. f (suc k)) from xs)
over_nothing f zero (x ∷ xs) = refl

pub merge_nothing : {A B : Type 0} (f : A → B → A) (xs : List A) → merge f xs [] ≡ xs
merge_nothing f [] = refl
merge_nothing f (x ∷ xs) = refl

pub replicate_more : {A : Type 0} (n : ℕ) (x : A) → replicate (n + 1) x ≡ replicate n x ++ x ∷ []
replicate_more n x = let e : n + 1 ≡ suc n = omega arith in ap (λ (m : ℕ). replicate m x) e ∙ more n
  where
    more : (m : ℕ) → replicate (suc m) x ≡ replicate m x ++ x ∷ []
    more zero = refl
    more (suc m) = ap (λ w. x ∷ w) (more m)
