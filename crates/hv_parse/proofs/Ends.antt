-- A parser of all tokens, at its end.
use Rattle.std.proofs.Common.{◌≡◌, [], ◌∷◌, length, refl}
use Rattle.hv_tree.specs.Tokens.{Tokens}
use Rattle.hv_syn_grammar.specs.Parser.{Got, Off}
use Rattle.hv_syn_grammar.specs.Declarations.{end_after}

pub at_end : {A : Type 0} (a : A) (ts : Tokens) → length ts ≡ 0 → end_after a ts ≡ Got a ts
at_end a [] e = refl
at_end a (k ∷ ts) e = absurd (cc)

pub before_end : {A : Type 0} (a : A) (ts : Tokens) → (length ts ≡ 0 → ⊥) → end_after a ts ≡ Off ts
before_end a [] e = absurd (e refl)
before_end a (k ∷ ts) e = refl
