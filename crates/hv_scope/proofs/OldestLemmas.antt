-- The oldest items of a list that has the newest first.
use Rattle.std.proofs.Common.{◌≡◌, ℕ, zero, suc, ◌+◌, ◌-◌, ◌≤◌, ◌<◌, List, [], ◌∷◌, ◌++◌, length, drop, sym, ap, ◌∙◌, arith}
use Rattle.std.proofs.Math.Seq.{drop-nil}
use Rattle.std.proofs.lemmas.List.{length-append, length-drop, drop_at}
use Rattle.hv_scope.specs.Oldest.{oldest}

module _ {A : Type 0} where
  -- what lies below newer items
  pub oldest_below : (ys xs : List A) → oldest (length xs) (ys ++ xs) ≡ xs
  unfolding oldest
  oldest_below ys xs = let e : length ys ≡ length (ys ++ xs) - length xs = omega (arith, length-append ys xs) in drop_at ys xs (length (ys ++ xs) - length xs) e

  pub oldest_all : (n : ℕ) (xs : List A) → length xs ≤ n → oldest n xs ≡ xs
  unfolding oldest
  oldest_all n xs h = let e : length xs - n ≡ 0 = omega (arith, h) in ap (λ k. drop k xs) e

  -- the newest one isn't one of them
  pub oldest_next : (n : ℕ) (xs : List A) → n < length xs → oldest n (drop 1 xs) ≡ oldest n xs
  unfolding oldest
  oldest_next n [] h = absurd (omega (arith, h))
  oldest_next n (x ∷ xs) h = let e : suc (length xs) - n ≡ suc (length xs - n) = omega (arith, h) in sym (ap (λ k. drop k (x ∷ xs)) e)

  pub oldest_one : (x : A) (xs : List A) → oldest (length xs) (x ∷ xs) ≡ xs
  oldest_one x xs = oldest_below (x ∷ []) xs

  pub oldest_same : (xs : List A) → oldest (length xs) xs ≡ xs
  oldest_same xs = oldest_below [] xs

  dropped : (m k : ℕ) (xs : List A) → drop (m + k) xs ≡ drop k (drop m xs)
  dropped zero k xs = let e : 0 + k ≡ k = omega arith in ap (λ j. drop j xs) e
  dropped (suc m) k [] = drop-nil {A = A} (suc m + k) ∙ sym (drop-nil {A = A} k)
  dropped (suc m) k (x ∷ xs) = let e : suc m + k ≡ suc (m + k) = omega arith in ap (λ j. drop j (x ∷ xs)) e ∙ dropped m k xs

  -- what lies below lies below what lies above
  pub oldest_twice : (a b c : List A) → oldest (length b) c ≡ b → oldest (length a) b ≡ a → oldest (length a) c ≡ a
  unfolding oldest
  oldest_twice a b c e f =
      let ls : length b ≡ length c - (length c - length b) = sym (ap length e) ∙ length-drop (length c - length b) c in
      let ks : length a ≡ length b - (length b - length a) = sym (ap length f) ∙ length-drop (length b - length a) b in
      let g : length c - length a ≡ (length c - length b) + (length b - length a) = omega (arith, ls, ks) in
      ap (λ j. drop j c) g ∙ dropped (length c - length b) (length b - length a) c ∙ ap (drop (length b - length a)) e ∙ f
