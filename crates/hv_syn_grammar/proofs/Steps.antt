-- What the parsers of single tokens give.
use Rattle.std.proofs.Common.{◌≡◌, ℕ, zero, suc, ◌<◌, Bool, true, false, List, [], ◌∷◌, refl, ap, sym, ◌∙◌, arith}
use Rattle.std.specs.Prelude.{if◌then◌else◌}
use Rattle.hv_tree.specs.declared.token.Token.{Token}
use Rattle.hv_tree.specs.Tokens.{Tokens}
use Rattle.hv_syn_grammar.specs.Parser.{Read, Got, Off, Deep, passes, take, enter, if_room, read_then, done}
use Rattle.hv_syn_grammar.specs.Lexemes.{expect, expect_opening}

pub expect_none : {V : Type 0} (test : Token → Bool) (get : Token → V) (ts : Tokens) → passes test ts ≡ false → expect test get ts ≡ Off ts
unfolding expect
expect_none test get [] e = refl
expect_none test get (k ∷ ts) e = ap (λ b. read_then (if b then Got k ts else Off (k ∷ ts)) (λ k. done (get k))) e

pub expect_some : {V : Type 0} (test : Token → Bool) (get : Token → V) (k : Token) (ts : Tokens) → test k ≡ true → expect test get (k ∷ ts) ≡ Got (get k) ts
unfolding expect
expect_some test get k ts e = ap (λ b. read_then (if b then Got k ts else Off (k ∷ ts)) (λ k. done (get k))) e

pub opening_none : {V : Type 0} (d : ℕ) (test : Token → Bool) (get : Token → V) (ts : Tokens) → passes test ts ≡ false → expect_opening d test get ts ≡ Off ts
unfolding expect_opening
opening_none d test get [] e = refl
opening_none d test get (k ∷ ts) e = ap (λ b. read_then (if b then if_room d k ts else Off (k ∷ ts)) (λ k. done (get k))) e

pub opening_full : {V : Type 0} (d : ℕ) (test : Token → Bool) (get : Token → V) (ts : Tokens) → d ≡ 0 → passes test ts ≡ true → expect_opening d test get ts ≡ Deep ts
unfolding expect_opening
opening_full d test get [] z e = absurd (cc)
opening_full d test get (k ∷ ts) z e = ap (λ d. read_then (if test k then if_room d k ts else Off (k ∷ ts)) (λ k. done (get k))) z ∙ ap (λ b. read_then (if b then if_room 0 k ts else Off (k ∷ ts)) (λ k. done (get k))) e

pub opening_some : {V : Type 0} (d : ℕ) (test : Token → Bool) (get : Token → V) (k : Token) (ts : Tokens) → (d ≡ 0 → ⊥) → test k ≡ true → expect_opening d test get (k ∷ ts) ≡ Got (get k) ts
unfolding expect_opening
opening_some zero test get k ts nz e = absurd (nz refl)
opening_some (suc d) test get k ts nz e = ap (λ b. read_then (if b then if_room (suc d) k ts else Off (k ∷ ts)) (λ k. done (get k))) e
