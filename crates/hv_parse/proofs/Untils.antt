-- A parser that repeats up to a last part, beside a loop that counts its turns up.
use Rattle.std.proofs.Common.{◌≡◌, ℕ, zero, suc, ◌+◌, ◌-◌, ◌<◌, Bool, true, false, List, [], ◌∷◌, length, refl, sym, ◌∙◌, ap, arith}
use Rattle.std.specs.Prelude.{if◌then◌else◌}
use Rattle.hv_tree.specs.declared.token.Token.{Token}
use Rattle.hv_tree.specs.Tokens.{Tokens}
use Rattle.hv_syn_grammar.specs.Parser.{Read, Got, Off, Deep, Parser, read_then, done, passes, unless_last, until_within, until}

module _ {A : Type 0} (test : Token → Bool) (last : A → Bool) (p : Parser A) where
  pub until_begins : {C : Type 0} (f : List A → C) (ts : Tokens) → read_then (until test last p ts) (λ more. done (f more)) ≡ read_then (until_within (length ts - 0) test last p ts) (λ more. done (f more))
  unfolding until
  until_begins f ts = let e : length ts - 0 ≡ length ts = omega arith in ap (λ n. read_then (until_within n test last p ts) (λ more. done (f more))) (sym e)

  ends_at : (n : ℕ) (ts : Tokens) → passes test ts ≡ false → until_within n test last p ts ≡ Got [] ts
  ends_at zero ts e = refl
  ends_at (suc n) ts e = ap (λ b. if b then read_then (p ts) (λ a. unless_last (last a) a (until_within n test last p)) else Got [] ts) e

  pub until_none : {C : Type 0} (n : ℕ) (f : List A → C) (ts : Tokens) → passes test ts ≡ false → read_then (until_within n test last p ts) (λ more. done (f more)) ≡ Got (f []) ts
  until_none n f ts e = ap (λ q. read_then q (λ more. done (f more))) (ends_at n ts e)

  pub until_end : {C : Type 0} (n : ℕ) (f : List A → C) (ts : Tokens) → n ≡ 0 → read_then (until_within n test last p ts) (λ more. done (f more)) ≡ Got (f []) ts
  until_end n f ts e = ap (λ n. read_then (until_within n test last p ts) (λ more. done (f more))) e

  opened : (n : ℕ) (ts : Tokens) (q : Read A) → passes test ts ≡ true → p ts ≡ q → until_within (suc n) test last p ts ≡ read_then q (λ a. unless_last (last a) a (until_within n test last p))
  opened n ts q e f =
      ap (λ b. if b then read_then (p ts) (λ a. unless_last (last a) a (until_within n test last p)) else Got [] ts) e
      ∙ ap (λ q. read_then q (λ a. unless_last (last a) a (until_within n test last p))) f

  turned : {C : Type 0} (n at : ℕ) (f : List A → C) (ts : Tokens) (q : Read A) → at < n → passes test ts ≡ true → p ts ≡ q → read_then (until_within (n - at) test last p ts) (λ more. done (f more)) ≡ read_then (read_then q (λ a. unless_last (last a) a (until_within (n - (at + 1)) test last p))) (λ more. done (f more))
  turned n at f ts q below e g =
      let turn : n - at ≡ suc (n - (at + 1)) = omega arith in
      ap (λ n. read_then (until_within n test last p ts) (λ more. done (f more))) turn
      ∙ ap (λ q. read_then q (λ more. done (f more))) (opened (n - (at + 1)) ts q e g)

  moved : {C : Type 0} (a : A) (f : List A → C) (q : Read (List A)) → read_then (read_then q (λ more. done (a ∷ more))) (λ more. done (f more)) ≡ read_then q (λ more. done (f (a ∷ more)))
  moved a f (Got more ts) = refl
  moved a f (Off ts) = refl
  moved a f (Deep ts) = refl

  pub until_more : {C : Type 0} (n at : ℕ) (f : List A → C) (ts rest : Tokens) (a : A) → at < n → passes test ts ≡ true → p ts ≡ Got a rest → last a ≡ false → read_then (until_within (n - at) test last p ts) (λ more. done (f more)) ≡ read_then (until_within (n - (at + 1)) test last p rest) (λ more. done (f (a ∷ more)))
  until_more n at f ts rest a below e g h =
      turned n at f ts (Got a rest) below e g
      ∙ ap (λ b. read_then (unless_last b a (until_within (n - (at + 1)) test last p) rest) (λ more. done (f more))) h
      ∙ moved a f (until_within (n - (at + 1)) test last p rest)

  pub until_last : {C : Type 0} (n at : ℕ) (f : List A → C) (ts rest : Tokens) (a : A) → at < n → passes test ts ≡ true → p ts ≡ Got a rest → last a ≡ true → read_then (until_within (n - at) test last p ts) (λ more. done (f more)) ≡ Got (f (a ∷ [])) rest
  until_last n at f ts rest a below e g h =
      turned n at f ts (Got a rest) below e g
      ∙ ap (λ b. read_then (unless_last b a (until_within (n - (at + 1)) test last p) rest) (λ more. done (f more))) h

  pub until_off : {C : Type 0} (n at : ℕ) (f : List A → C) (ts rest : Tokens) → at < n → passes test ts ≡ true → p ts ≡ Off rest → read_then (until_within (n - at) test last p ts) (λ more. done (f more)) ≡ Off rest
  until_off n at f ts rest below e g = turned n at f ts (Off rest) below e g

  pub until_deep : {C : Type 0} (n at : ℕ) (f : List A → C) (ts rest : Tokens) → at < n → passes test ts ≡ true → p ts ≡ Deep rest → read_then (until_within (n - at) test last p ts) (λ more. done (f more)) ≡ Deep rest
  until_deep n at f ts rest below e g = turned n at f ts (Deep rest) below e g

-- a value that is given in two ways
pub given : {A C : Type 0} (f g : List A → C) (q : Read (List A)) → ((xs : List A) → f xs ≡ g xs) → read_then q (λ more. done (f more)) ≡ read_then q (λ more. done (g more))
given f g (Got xs ts) same = ap (λ c. Got c ts) (same xs)
given f g (Off ts) same = refl
given f g (Deep ts) same = refl
