-- One more number behind a dot.
use Rattle.std.proofs.Common.{◌≡◌, ℕ, List, [], ◌∷◌, ◌++◌, map, take, length, get_or, ◌+◌, ◌<◌, ◌≤◌, refl, sym, ap, ◌∙◌, arith}
use Rattle.std.specs.List.{join_with_byte}
use Rattle.std.specs.Fmt.{decimal}
use Rattle.std.proofs.lemmas.List.{append_assoc, take_more, map-append, length-map, length-take-le}

regroup : (x : List ℕ) (c : ℕ) (t d y : List ℕ) → x ++ (c ∷ ((t ++ d) ++ y)) ≡ ((x ++ (c ∷ t)) ++ d) ++ y
regroup x c t d y = simp append_assoc

join_push : (c : ℕ) (x : List ℕ) (xs : List (List ℕ)) (y : List ℕ) → join_with_byte c ((x ∷ xs) ++ y ∷ []) ≡ (join_with_byte c (x ∷ xs) ++ c ∷ []) ++ y
join_push c x [] y = sym (append_assoc x (c ∷ []) y)
join_push c x (z ∷ xs) y = ap (λ (t : List ℕ). x ++ (c ∷ t)) (join_push c z xs y) ∙ regroup x c (join_with_byte c (z ∷ xs)) (c ∷ []) y

join_after : (c : ℕ) (ts : List (List ℕ)) (y : List ℕ) → 0 < length ts → join_with_byte c (ts ++ y ∷ []) ≡ (join_with_byte c ts ++ c ∷ []) ++ y
join_after c [] y h = absurd (omega (arith, h))
join_after c (x ∷ xs) y h = join_push c x xs y

first_of : (ns : List ℕ) → 0 < length ns → join_with_byte 46 (map decimal (take (0 + 1) ns)) ≡ decimal (get_or ns 0 0)
first_of [] h = absurd (omega (arith, h))
first_of (n ∷ ns) h = refl

pub first_number : (ns : List ℕ) (i : ℕ) → i ≤ 0 → i < length ns →
    join_with_byte 46 (map decimal (take (i + 1) ns)) ≡ join_with_byte 46 (map decimal (take i ns)) ++ decimal (get_or ns i 0)
first_number ns i z h = let e : i ≡ 0 = omega arith in rw e (first_of ns (omega arith))

pub further_number : (ns : List ℕ) (i : ℕ) → 0 < i → i < length ns →
    join_with_byte 46 (map decimal (take (i + 1) ns)) ≡ (join_with_byte 46 (map decimal (take i ns)) ++ 46 ∷ []) ++ decimal (get_or ns i 0)
further_number ns i h k =
    ap (λ (t : List ℕ). join_with_byte 46 (map decimal t)) (take_more ns i 0 k) ∙
    ap (join_with_byte 46) (map-append decimal (take i ns) (get_or ns i 0 ∷ [])) ∙
    join_after 46 (map decimal (take i ns)) (decimal (get_or ns i 0)) (omega (arith, length-map (take i ns) decimal, length-take-le i ns (omega arith)))
