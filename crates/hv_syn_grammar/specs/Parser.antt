-- Parsers as functions on lists of tokens, and the steps that each rule is made of.
use Rattle.std.specs.Prelude.{◌≡◌, ℕ, zero, suc, Bool, true, false, if◌then◌else◌, List, [], ◌∷◌, ◌++◌, length}
use Rattle.hv_tree.specs.declared.token.Token.{Token}
use Rattle.hv_tree.specs.Tokens.{Tokens}

pub data Read (A : Type 0) : Type 0 where
  -- the value, and the tokens after it
  Got : A → Tokens → Read A
  -- what was read cannot go on with the first of these tokens, or cannot end here
  Off : Tokens → Read A
  -- the first of these tokens is one opening bracket too many
  Deep : Tokens → Read A

abbrev pub Parser : Type 0 → Type 0
Parser A = Tokens → Read A

abbrev pub read_then : {A B : Type 0} → Read A → (A → Parser B) → Read B
read_then (Got a rest) f = f a rest
read_then (Off rest) f = Off rest
read_then (Deep rest) f = Deep rest

infixl 10 ◌>>=◌
abbrev pub ◌>>=◌ : {A B : Type 0} → Parser A → (A → Parser B) → Parser B
p >>= f = λ ts. read_then (p ts) f

abbrev pub done : {A : Type 0} → A → Parser A
done a = λ ts. Got a ts

-- the next token, which passes the test
abbrev pub take : (Token → Bool) → Parser Token
take test [] = Off []
take test (k ∷ ts) = if test k then Got k ts else Off (k ∷ ts)

abbrev pub if_room : ℕ → Token → Tokens → Read Token
if_room zero k ts = Deep (k ∷ ts)
if_room (suc d) k ts = Got k ts

-- an opening bracket, where d more of them may be open
abbrev pub enter : ℕ → (Token → Bool) → Parser Token
enter d test [] = Off []
enter d test (k ∷ ts) = if test k then if_room d k ts else Off (k ∷ ts)

-- whether there is a next token, and it passes the test
abbrev pub passes : (Token → Bool) → Tokens → Bool
passes test [] = false
passes test (k ∷ ts) = test k

-- by the next token
abbrev pub choose : {A : Type 0} → (Token → Bool) → Parser A → Parser A → Parser A
choose test p q = λ ts. if passes test ts then p ts else q ts

abbrev pub many_within : {A : Type 0} → ℕ → (Token → Bool) → Parser A → Parser (List A)
many_within zero test p ts = Got [] ts
many_within (suc n) test p ts = choose test (p >>= (λ a. many_within n test p >>= (λ more. done (a ∷ more)))) (done []) ts

-- as many as there are, each of which begins with a token that passes the test
unfoldable pub many : {A : Type 0} → (Token → Bool) → Parser A → Parser (List A)
many test p ts = many_within (length ts) test p ts

abbrev pub unless_last : {A : Type 0} → Bool → A → Parser (List A) → Parser (List A)
unless_last true a p = done (a ∷ [])
unless_last false a p = p >>= (λ more. done (a ∷ more))

abbrev pub until_within : {A : Type 0} → ℕ → (Token → Bool) → (A → Bool) → Parser A → Parser (List A)
until_within zero test last p ts = Got [] ts
until_within (suc n) test last p ts = choose test (p >>= (λ a. unless_last (last a) a (until_within n test last p))) (done []) ts

-- the same, but for one that is the last
unfoldable pub until : {A : Type 0} → (Token → Bool) → (A → Bool) → Parser A → Parser (List A)
until test last p ts = until_within (length ts) test last p ts
