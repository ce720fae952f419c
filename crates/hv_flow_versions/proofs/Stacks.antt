-- A stack whose last item comes first.
use Rattle.std.proofs.Common.{◌≡◌, ℕ, zero, suc, ◌+◌, ◌-◌, ◌<◌, List, [], ◌∷◌, ◌++◌, length, get_or, reverse, Some, None, refl, sym, ◌∙◌, ap, arith}
use Rattle.std.proofs.Math.ListN.{set}
use Rattle.std.proofs.lemmas.List.{length-reverse, get_or-reverse}
use Rattle.std.proofs.lemmas.Grind.{reverse_onto}
use Rattle.hv_flow_versions.specs.Stacks.{first_of, rest_of, with_first}

pub length_reversed : {A : Type 0} (xs : List A) → length (reverse xs) ≡ length xs
length_reversed xs = length-reverse xs

first_get : {A : Type 0} (ys : List A) (d : A) → 0 < length ys → first_of ys ≡ Some (get_or ys 0 d)
first_get [] d h = absurd (omega (arith, h))
first_get (y ∷ ys) d h = refl

second_get : {A : Type 0} (ys : List A) (d : A) → 1 < length ys → first_of (rest_of ys) ≡ Some (get_or ys 1 d)
second_get [] d h = absurd (omega (arith, h))
second_get (y ∷ []) d h = absurd (omega (arith, h))
second_get (y ∷ z ∷ ys) d h = refl

pub first_reversed : {A : Type 0} (xs : List A) (j : ℕ) (d : A) → j + 1 ≡ length xs → first_of (reverse xs) ≡ Some (get_or xs j d)
first_reversed xs j d h =
    let e : length xs - 1 - 0 ≡ j = omega arith in
    first_get (reverse xs) d (omega (arith, h, length-reverse xs)) ∙ ap (λ w. Some w) (get_or-reverse xs 0 d (omega (arith, h)) ∙ ap (λ (k : ℕ). get_or xs k d) e)

pub second_reversed : {A : Type 0} (xs : List A) (j : ℕ) (d : A) → j + 2 ≡ length xs → first_of (rest_of (reverse xs)) ≡ Some (get_or xs j d)
second_reversed xs j d h =
    let e : length xs - 1 - 1 ≡ j = omega arith in
    second_get (reverse xs) d (omega (arith, h, length-reverse xs)) ∙ ap (λ w. Some w) (get_or-reverse xs 1 d (omega (arith, h)) ∙ ap (λ (k : ℕ). get_or xs k d) e)

pub none_reversed : {A : Type 0} (xs : List A) → length xs ≡ 0 → xs ≡ []
none_reversed [] h = refl
none_reversed (x ∷ xs) h = absurd (omega (arith, h))

no_second : {A : Type 0} (ys : List A) → length ys < 2 → first_of (rest_of ys) ≡ None
no_second [] h = refl
no_second (y ∷ []) h = refl
no_second (y ∷ z ∷ ys) h = absurd (omega (arith, h))

pub no_second_reversed : {A : Type 0} (xs : List A) → length xs < 2 → first_of (rest_of (reverse xs)) ≡ None
no_second_reversed xs h = no_second (reverse xs) (omega (arith, h, length-reverse xs))

first_append : {A : Type 0} (y : A) (zs ws : List A) → 0 < length zs → with_first y zs ++ ws ≡ with_first y (zs ++ ws)
first_append y [] ws h = absurd (omega (arith, h))
first_append y (z ∷ zs) ws h = refl

pub set_reversed : {A : Type 0} (xs : List A) (j : ℕ) (y : A) → j + 1 ≡ length xs → reverse (set xs j y) ≡ with_first y (reverse xs)
set_reversed [] j y h = absurd (omega (arith, h))
set_reversed (x ∷ []) zero y h = refl
set_reversed (x ∷ []) (suc j) y h = absurd (omega (arith, h))
set_reversed (x ∷ z ∷ xs) zero y h = absurd (omega (arith, h))
set_reversed (x ∷ z ∷ xs) (suc j) y h =
    reverse_onto (set (z ∷ xs) j y) x [] ∙
    (ap (λ w. w ++ x ∷ []) (set_reversed (z ∷ xs) j y (omega (arith, h))) ∙
    (first_append y (reverse (z ∷ xs)) (x ∷ []) (omega (arith, length-reverse (z ∷ xs))) ∙
    ap (λ w. with_first y w) (sym (reverse_onto (z ∷ xs) x []))))
