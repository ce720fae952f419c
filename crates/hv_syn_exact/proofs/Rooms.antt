-- Room for brackets, beside the count of those that are open.
use Rattle.std.proofs.Common.{◌≡◌, ℕ, zero, suc, ◌+◌, ◌<◌, ◌≤◌, Bool, true, false, ◌||◌, List, [], ◌∷◌, ◌++◌, length, Option, Some, None, ◌⊎◌, inl, inr, refl, sym, ◌∙◌, ap, arith}
use Rattle.std.specs.Prelude.{count_by, cond, codes, if◌then◌else◌}
use Rattle.std.proofs.lemmas.List.Sums.{sum_by_from}
use Rattle.hv_tree.specs.declared.token.Token.{Token}
use Rattle.hv_tree.specs.Tokens.{Tokens, mark}
use Rattle.hv_tree.specs.Refusal.{is_mark, is_opening, is_closing, TooManyAt}
use Rattle.hv_syn_grammar.specs.Room.{room, room_by, one_less, option_then}
use Rattle.hv_syn_exact.proofs.Lexemes.{a_mark}
use Rattle.hv_lemmas.proofs.Bools.{or_either}

-- a closing bracket is no opening one
closing_off : (k : Token) → is_closing k ≡ true → is_opening k ≡ false
closing_off k e = last (or_either (is_mark (codes ")") k || is_mark (codes "]") k) (is_mark (codes "}") k) e)
  where
    at : (s : List ℕ) → is_opening (mark s k.place) ≡ false → is_mark s k ≡ true → is_opening k ≡ false
    at s off m = ap is_opening ((a_mark s).known k m) ∙ off

    first : ((is_mark (codes ")") k ≡ true) ⊎ (is_mark (codes "]") k ≡ true)) → is_opening k ≡ false
    first (inl m) = at (codes ")") refl m
    first (inr m) = at (codes "]") refl m

    last : (((is_mark (codes ")") k || is_mark (codes "]") k) ≡ true) ⊎ (is_mark (codes "}") k ≡ true)) → is_opening k ≡ false
    last (inl m) = first (or_either (is_mark (codes ")") k) (is_mark (codes "]") k) m)
    last (inr m) = at (codes "}") refl m

-- the room after a token, by what it is
by_token : (d e : ℕ) (a b : Bool) → (b ≡ true → a ≡ false) → (if a then one_less d else (if b then Some (suc d) else Some d)) ≡ Some e → d + cond b 1 0 ≡ e + cond a 1 0
by_token zero e true b apart h = absurd (cc)
by_token (suc d) e true true apart h = let q : true ≡ false = apart refl in absurd (cc)
by_token (suc d) e true false apart h = let q : d ≡ e = cc in omega (arith, q)
by_token d e false true apart h = let q : suc d ≡ e = cc in omega (arith, q)
by_token d e false false apart h = let q : d ≡ e = cc in omega (arith, q)

counted : (test : Token → Bool) (k : Token) (ts : Tokens) → count_by test (k ∷ ts) ≡ cond (test k) 1 0 + count_by test ts
counted test k ts = sum_by_from (λ x. cond (test x) 1 0) (0 + cond (test k) 1 0) ts ∙ ap (λ n. n + count_by test ts) (omega arith)

counts_after : (d e : ℕ) (k : Token) (ts : Tokens) (o : Option ℕ) → room_by k d ≡ o → ((f : ℕ) → room f ts ≡ Some e → f + count_by is_closing ts ≡ e + count_by is_opening ts) → option_then o (λ f. room f ts) ≡ Some e → d + count_by is_closing (k ∷ ts) ≡ e + count_by is_opening (k ∷ ts)
counts_after d e k ts None q ih h = absurd (cc)
counts_after d e k ts (Some f) q ih h = omega (arith, by_token d f (is_opening k) (is_closing k) (closing_off k) q, ih f h, counted is_closing k ts, counted is_opening k ts)

-- what is left and what was opened is what there was and what was closed
pub room_counts : (d e : ℕ) (ts : Tokens) → room d ts ≡ Some e → d + count_by is_closing ts ≡ e + count_by is_opening ts
room_counts d e [] h = let q : d ≡ e = cc in omega (arith, q)
room_counts d e (k ∷ ts) h = counts_after d e k ts (room_by k d) refl (λ f g. room_counts f e ts g) h

parts_after : (d e : ℕ) (k : Token) (x y : Tokens) (o : Option ℕ) → room_by k d ≡ o → ((n : ℕ) → room n (x ++ y) ≡ Some e → (f : ℕ) × (room n x ≡ Some f) × (room f y ≡ Some e)) → option_then o (λ f. room f (x ++ y)) ≡ Some e → (f : ℕ) × (room d (k ∷ x) ≡ Some f) × (room f y ≡ Some e)
parts_after d e k x y None q ih h = absurd (cc)
parts_after d e k x y (Some n) q ih h = let r = ih n h in (r.0, ap (λ o. option_then o (λ f. room f x)) q ∙ r.1, r.2)

room_parts : (d e : ℕ) (x y : Tokens) → room d (x ++ y) ≡ Some e → (f : ℕ) × (room d x ≡ Some f) × (room f y ≡ Some e)
room_parts d e [] y h = (d, refl, h)
room_parts d e (k ∷ x) y h = parts_after d e k x y (room_by k d) refl (λ n g. room_parts n e x y g) h

-- an opening bracket has room before it
opened_room : (f e : ℕ) (k : Token) (y : Tokens) → is_opening k ≡ true → room f (k ∷ y) ≡ Some e → 0 < f
opened_room zero e k y o h = let q : option_then (if is_opening k then one_less 0 else (if is_closing k then Some 1 else Some 0)) (λ f. room f y) ≡ None = ap (λ b. option_then (if b then one_less 0 else (if is_closing k then Some 1 else Some 0)) (λ f. room f y)) o in absurd (cc)
opened_room (suc f) e k y o h = omega arith

-- no bracket of a list with room makes one too many
pub has_room : (d e : ℕ) (ts x y : Tokens) (k : Token) → room d ts ≡ Some e → ts ≡ x ++ k ∷ y → is_opening k ≡ true → count_by is_opening x < d + count_by is_closing x
has_room d e ts x y k fits is o =
    let r = room_parts d e x (k ∷ y) (ap (room d) (sym is) ∙ fits) in
    omega (arith, room_counts d r.0 x r.1, opened_room r.0 e k y o r.2)

-- the longer of two fronts goes on with what the other's rest begins with
pub longer_front : (b r x s : Tokens) → b ++ r ≡ x ++ s → length x < length b → (k : Token) × (w : Tokens) × (b ≡ x ++ k ∷ w) × (s ≡ k ∷ (w ++ r))
longer_front [] r x s e h = absurd (omega (arith, h))
longer_front (k ∷ b) r [] s e h = (k, b, refl, sym e)
longer_front (k ∷ b) r (j ∷ x) s e h =
    let p : k ≡ j = cc in
    let q : b ++ r ≡ x ++ s = cc in
    let n = longer_front b r x s q (omega (arith, h)) in
    (n.0, n.1, ap (λ l. k ∷ l) n.2 ∙ ap (λ j. j ∷ (x ++ n.0 ∷ n.1)) p, n.3)

pub less_or : (m n : ℕ) → (m < n) ⊎ (n ≤ m)
less_or m zero = inr (omega arith)
less_or zero (suc n) = inl (omega arith)
less_or (suc m) (suc n) = by (less_or m n)
  where
    by : ((m < n) ⊎ (n ≤ m)) → (suc m < suc n) ⊎ (suc n ≤ suc m)
    by (inl h) = inl (omega (arith, h))
    by (inr h) = inr (omega (arith, h))

-- a bracket that is one too many stands behind a front with room
pub behind_room : (d e : ℕ) (ts before rest x y : Tokens) → room d before ≡ Some e → ts ≡ before ++ rest → TooManyAt d ts x y → length before ≤ length x
behind_room d e ts before rest x y fits is t = by (less_or (length x) (length before))
  where
    inside : ((k : Token) × (w : Tokens) × (before ≡ x ++ k ∷ w) × (y ≡ k ∷ (w ++ rest))) → length before ≤ length x
    inside n =
        let same : n.0 ≡ t.bracket = cc in
        absurd (omega (arith, has_room d e before x n.1 n.0 fits n.2 (ap is_opening same ∙ t.opening), t.full))

    by : ((length x < length before) ⊎ (length before ≤ length x)) → length before ≤ length x
    by (inl h) = inside (longer_front before rest x y (sym is ∙ t.is) h)
    by (inr h) = h
