-- Short forms for what a list of tokens begins with and what stops it, and for lists that a relation has.
use Rattle.std.proofs.Common.{◌≡◌, ℕ, Bool, true, false, ◌||◌, List, [], ◌∷◌, ◌++◌, ◌⊎◌, inl, inr, refl, sym, ◌∙◌, ap, subst}
use Rattle.hv_tree.specs.declared.place.Place.{Place}
use Rattle.hv_tree.specs.declared.token.Token.{Token}
use Rattle.hv_tree.specs.Tokens.{Tokens, mark, keyword}
use Rattle.hv_tree.specs.Refusal.{is_mark}
use Rattle.hv_syn_grammar.specs.Lexemes.{is_keyword}
use Rattle.hv_syn_exact.proofs.Exact.{Stops, Begins, Then, Either, Nothing}
use Rattle.hv_syn_exact.proofs.Lexemes.{After, Lexeme, a_mark, a_keyword}
use Rattle.hv_lemmas.proofs.Bools.{or_neither}

abbrev pub zero_at : Place
zero_at = record { start = 0 }

-- ---- a first token that is known

pub off_at : (on : Token → Bool) (k : Token) (y z rest : Tokens) → y ≡ k ∷ z → on k ≡ false → Stops on (y ++ rest)
off_at on k y z rest e off = subst (λ l. Stops on (l ++ rest)) (sym e) off

pub on_at : (on : Token → Bool) (k : Token) (y z : Tokens) → y ≡ k ∷ z → on k ≡ true → Begins on y
on_at on k y z e passed = subst (Begins on) (sym e) passed

-- ---- what cannot go on

-- nothing, and then what stops
pub empty_stops : (on : Token → Bool) (y rest : Tokens) → y ≡ [] → Stops on rest → Stops on (y ++ rest)
empty_stops on y rest e s = subst (λ l. Stops on (l ++ rest)) (sym e) s

pub after_off : {V B : Type 0} (spell : V → Token) (S : V → B → Tokens → Type 0) (on : Token → Bool) → ((v : V) → on (spell v) ≡ false) → (b : B) (ts rest : Tokens) → After spell S b ts → Stops on (ts ++ rest)
after_off spell S on off b ts rest h = off_at on (spell h.0) ts h.1 rest h.3 (off h.0)

pub either_off : {A : Type 0} (R S : A → Tokens → Type 0) (on : Token → Bool) → ((a : A) (ts rest : Tokens) → R a ts → Stops on (ts ++ rest)) → ((a : A) (ts rest : Tokens) → S a ts → Stops on (ts ++ rest)) → (a : A) (ts rest : Tokens) → Either R S a ts → Stops on (ts ++ rest)
either_off R S on left right a ts rest (inl h) = left a ts rest h
either_off R S on left right a ts rest (inr h) = right a ts rest h

-- ---- one of two tests

pub stops_left : (on on' : Token → Bool) (rest : Tokens) → Stops (λ k. on k || on' k) rest → Stops on rest
stops_left on on' [] h = tt
stops_left on on' (k ∷ rest) h = (or_neither (on k) (on' k) h).0

pub stops_right : (on on' : Token → Bool) (rest : Tokens) → Stops (λ k. on k || on' k) rest → Stops on' rest
stops_right on on' [] h = tt
stops_right on on' (k ∷ rest) h = (or_neither (on k) (on' k) h).1

-- ---- a test that another follows from, or excludes

pub begins_more : (test : Token → Bool) (u v ts : Tokens) → Begins test u → ts ≡ u ++ v → Begins test ts
begins_more test [] v ts b e = absurd b
begins_more test (k ∷ u) v ts b e = subst (Begins test) (sym e) b

pub begins_wider : (test wider : Token → Bool) → ((k : Token) → test k ≡ true → wider k ≡ true) → (ts : Tokens) → Begins test ts → Begins wider ts
begins_wider test wider h [] b = b
begins_wider test wider h (k ∷ ts) b = h k b

pub begins_stops : (test on : Token → Bool) → ((k : Token) → test k ≡ true → on k ≡ false) → (ts rest : Tokens) → Begins test ts → Stops on (ts ++ rest)
begins_stops test on h [] rest b = absurd b
begins_stops test on h (k ∷ ts) rest b = h k b

-- what begins with a token that passes the test, and may have more after it
pub front_stops : (test on : Token → Bool) → ((k : Token) → test k ≡ true → on k ≡ false) → (u v ts rest : Tokens) → Begins test u → ts ≡ u ++ v → Stops on (ts ++ rest)
front_stops test on h u v ts rest b e = begins_stops test on h ts rest (begins_more test u v ts b e)

-- a token that passes another test is not spelled so
pub excludes_by : {V : Type 0} (spell : V → Token) (test : Token → Bool) (get : Token → V) → Lexeme spell test get → (other : Token → Bool) → ((v : V) → other (spell v) ≡ false) → (k : Token) → other k ≡ true → test k ≡ false
excludes_by spell test get l other off k passed = at_case (test k) refl
  where
    at_case : (b : Bool) → test k ≡ b → test k ≡ false
    at_case false e = e
    at_case true e = let h : other k ≡ false = ap other (l.known k e) ∙ off (get k) in absurd (cc)

-- a token that is spelled so fails another test
pub fails_by : {V : Type 0} (spell : V → Token) (test : Token → Bool) (get : Token → V) → Lexeme spell test get → (other : Token → Bool) → ((v : V) → other (spell v) ≡ false) → (k : Token) → test k ≡ true → other k ≡ false
fails_by spell test get l other off k e = ap other (l.known k e) ∙ off (get k)

-- a token that passes another test is not this mark
pub excludes : (s : List ℕ) (test : Token → Bool) → ((at : Place) → test (mark s at) ≡ false) → (k : Token) → test k ≡ true → is_mark s k ≡ false
excludes s test off k passed = excludes_by (mark s) (is_mark s) _ (a_mark s) test off k passed

-- this mark fails another test
pub fails : (s : List ℕ) (test : Token → Bool) → ((at : Place) → test (mark s at) ≡ false) → (k : Token) → is_mark s k ≡ true → test k ≡ false
fails s test off k e = fails_by (mark s) (is_mark s) _ (a_mark s) test off k e

-- a token that passes another test is not this keyword
pub excludes_keyword : (s : List ℕ) (test : Token → Bool) → ((at : Place) → test (keyword s at) ≡ false) → (k : Token) → test k ≡ true → is_keyword s k ≡ false
excludes_keyword s test off k passed = excludes_by (keyword s) (is_keyword s) _ (a_keyword s) test off k passed

-- this keyword fails another test
pub fails_keyword : (s : List ℕ) (test : Token → Bool) → ((at : Place) → test (keyword s at) ≡ false) → (k : Token) → is_keyword s k ≡ true → test k ≡ false
fails_keyword s test off k e = fails_by (keyword s) (is_keyword s) _ (a_keyword s) test off k e

-- ---- lists that a relation has

abbrev pub Can : {A : Type 0} → (A → Tokens → Type 0) → Type 0
Can R = (a : _) × (x : Tokens) × R a x

pub can_nothing : {A : Type 0} (a : A) → Can (Nothing a)
can_nothing a = (a, [], (refl, refl))

pub can_after : {V B : Type 0} (spell : V → Token) (S : V → B → Tokens → Type 0) (v : V) → Can (S v) → Can (After spell S)
can_after spell S v c = (c.0, spell v ∷ c.1, (v, c.1, c.2, refl))

pub can_then : {A B : Type 0} (R : A → Tokens → Type 0) (S : A → B → Tokens → Type 0) → (c : Can R) → Can (S c.0) → Can (Then R S)
can_then R S c h = (h.0, c.1 ++ h.1, (c.0, c.1, h.1, c.2, h.2, refl))
