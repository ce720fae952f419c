-- A parser that repeats, beside a loop that counts its turns up.
use Rattle.std.proofs.Common.{◌≡◌, ℕ, zero, suc, ◌+◌, ◌-◌, ◌<◌, ◌≤◌, Bool, true, false, List, [], ◌∷◌, ◌++◌, length, refl, sym, ◌∙◌, ap, arith, append_assoc, append-nil}
use Rattle.std.specs.Prelude.{if◌then◌else◌}
use Rattle.hv_tree.specs.declared.token.Token.{Token}
use Rattle.hv_tree.specs.Tokens.{Tokens}
use Rattle.hv_syn_grammar.specs.Parser.{Read, Got, Off, Deep, Parser, read_then, ◌>>=◌, done, passes, choose, many_within, many}

same_read : {A : Type 0} (q : Read (List A)) → q ≡ read_then q (λ more. done ([] ++ more))
same_read (Got a ts) = refl
same_read (Off ts) = refl
same_read (Deep ts) = refl

pub many_begins : {A : Type 0} (test : Token → Bool) (p : Parser A) (ts : Tokens) → many test p ts ≡ read_then (many_within (length ts - 0) test p ts) (λ more. done ([] ++ more))
unfolding many
many_begins test p ts = let e : length ts - 0 ≡ length ts = omega arith in same_read (many_within (length ts) test p ts) ∙ ap (λ n. read_then (many_within n test p ts) (λ more. done ([] ++ more))) (sym e)

ends_at : {A : Type 0} (n : ℕ) (test : Token → Bool) (p : Parser A) (ts : Tokens) → passes test ts ≡ false → many_within n test p ts ≡ Got [] ts
ends_at zero test p ts e = refl
ends_at (suc n) test p ts e = ap (λ b. if b then read_then (p ts) (λ a. many_within n test p >>= (λ more. done (a ∷ more))) else Got [] ts) e

pub turn_none : {A : Type 0} (n : ℕ) (test : Token → Bool) (p : Parser A) (ts : Tokens) (found : List A) → passes test ts ≡ false → read_then (many_within n test p ts) (λ more. done (found ++ more)) ≡ Got found ts
turn_none n test p ts found e = ap (λ q. read_then q (λ more. done (found ++ more))) (ends_at n test p ts e) ∙ ap (λ l. Got l ts) (append-nil found)

pub turn_end : {A : Type 0} (n : ℕ) (test : Token → Bool) (p : Parser A) (ts : Tokens) (found : List A) → n ≡ 0 → read_then (many_within n test p ts) (λ more. done (found ++ more)) ≡ Got found ts
turn_end n test p ts found e = ap (λ n. read_then (many_within n test p ts) (λ more. done (found ++ more))) e ∙ ap (λ l. Got l ts) (append-nil found)

moved : {A : Type 0} (a : A) (found : List A) (q : Read (List A)) → read_then (read_then q (λ more. done (a ∷ more))) (λ more. done (found ++ more)) ≡ read_then q (λ more. done ((found ++ a ∷ []) ++ more))
moved a found (Got more ts) = ap (λ l. Got l ts) (sym (append_assoc found (a ∷ []) more))
moved a found (Off ts) = refl
moved a found (Deep ts) = refl

opened : {A : Type 0} (n : ℕ) (test : Token → Bool) (p : Parser A) (ts : Tokens) (q : Read A) → passes test ts ≡ true → p ts ≡ q → many_within (suc n) test p ts ≡ read_then q (λ a. many_within n test p >>= (λ more. done (a ∷ more)))
opened n test p ts q e f = ap (λ b. if b then read_then (p ts) (λ a. many_within n test p >>= (λ more. done (a ∷ more))) else Got [] ts) e ∙ ap (λ q. read_then q (λ a. many_within n test p >>= (λ more. done (a ∷ more)))) f

-- one turn of the loop: what is left to read after it
pub turn_more : {A : Type 0} (n at : ℕ) (test : Token → Bool) (p : Parser A) (ts rest : Tokens) (found : List A) (a : A) → at < n → passes test ts ≡ true → p ts ≡ Got a rest → read_then (many_within (n - at) test p ts) (λ more. done (found ++ more)) ≡ read_then (many_within (n - (at + 1)) test p rest) (λ more. done ((found ++ a ∷ []) ++ more))
turn_more n at test p ts rest found a below e f =
    let turn : n - at ≡ suc (n - (at + 1)) = omega arith in
    ap (λ n. read_then (many_within n test p ts) (λ more. done (found ++ more))) turn
    ∙ ap (λ q. read_then q (λ more. done (found ++ more))) (opened (n - (at + 1)) test p ts (Got a rest) e f)
    ∙ moved a found (many_within (n - (at + 1)) test p rest)

pub turn_off : {A : Type 0} (n at : ℕ) (test : Token → Bool) (p : Parser A) (ts rest : Tokens) (found : List A) → at < n → passes test ts ≡ true → p ts ≡ Off rest → read_then (many_within (n - at) test p ts) (λ more. done (found ++ more)) ≡ Off rest
turn_off n at test p ts rest found below e f =
    let turn : n - at ≡ suc (n - (at + 1)) = omega arith in
    ap (λ n. read_then (many_within n test p ts) (λ more. done (found ++ more))) turn
    ∙ ap (λ q. read_then q (λ more. done (found ++ more))) (opened (n - (at + 1)) test p ts (Off rest) e f)

pub turn_deep : {A : Type 0} (n at : ℕ) (test : Token → Bool) (p : Parser A) (ts rest : Tokens) (found : List A) → at < n → passes test ts ≡ true → p ts ≡ Deep rest → read_then (many_within (n - at) test p ts) (λ more. done (found ++ more)) ≡ Deep rest
turn_deep n at test p ts rest found below e f =
    let turn : n - at ≡ suc (n - (at + 1)) = omega arith in
    ap (λ n. read_then (many_within n test p ts) (λ more. done (found ++ more))) turn
    ∙ ap (λ q. read_then q (λ more. done (found ++ more))) (opened (n - (at + 1)) test p ts (Deep rest) e f)
