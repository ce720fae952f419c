-- An optional semicolon is read exactly.
use Rattle.std.proofs.Common.{◌≡◌, ℕ, Bool, false, ◌||◌, [], ◌∷◌, ◌++◌, inl, inr, refl, ap, ◌∙◌}
use Rattle.std.specs.Prelude.{codes}
use Rattle.hv_tree.specs.declared.place.Place.{Place}
use Rattle.hv_tree.specs.declared.token.Token.{Token}
use Rattle.hv_tree.specs.Tokens.{Tokens, mark}
use Rattle.hv_tree.specs.Grammar.{IsOptionalSemicolon, no_semicolon, one_semicolon}
use Rattle.hv_tree.specs.Refusal.{is_mark}
use Rattle.hv_syn_grammar.specs.Statements.{semicolon}
use Rattle.hv_syn_exact.proofs.Exact.{Exact, Stops, Either, Nothing, done_exact, choose_exact, exact_by, nowhere, never}
use Rattle.hv_syn_exact.proofs.Lexemes.{After, a_mark, next_exact}
use Rattle.hv_syn_exact.proofs.Shorts.{off_at, on_at, empty_stops, stops_right}

abbrev pub IsSemicolon : Unit {0} → Tokens → Type 0
IsSemicolon u ts = IsOptionalSemicolon ts

abbrev pub on_semicolon : Token → Bool
on_semicolon = is_mark (codes ";")

abbrev Semicolon : Unit {0} → Tokens → Type 0
Semicolon = Either (After (mark (codes ";")) (λ at. Nothing tt)) (Nothing tt)

to_semicolon : (u : Unit {0}) (ts : Tokens) → Semicolon u ts → IsSemicolon u ts
to_semicolon u ts (inl c) = one_semicolon c.0 (c.3 ∙ ap (λ y. mark (codes ";") c.0 ∷ y) c.2.1)
to_semicolon u ts (inr n) = no_semicolon n.1

from_semicolon : (u : Unit {0}) (ts : Tokens) → IsSemicolon u ts → Semicolon u ts
from_semicolon u ts (no_semicolon is) = inr (refl, is)
from_semicolon u ts (one_semicolon at is) = inl (at, [], (refl, refl), is)

pub semicolon_exact : (d : ℕ) → Exact d d on_semicolon IsSemicolon semicolon
unfolding semicolon
semicolon_exact d =
    exact_by d d on_semicolon Semicolon IsSemicolon _
    (choose_exact d d on_semicolon _ (Nothing tt) _ _ on_semicolon nowhere nowhere
    (next_exact _ _ _ (a_mark (codes ";")) _ _ d d d nowhere (λ v. refl) (λ at. done_exact d nowhere tt)) (done_exact d nowhere tt)
    (λ u ts c. on_at on_semicolon _ ts c.1 c.3 refl) (λ u ts rest n h. empty_stops on_semicolon ts rest n.1 h) (λ rest h. never rest) (λ rest h. never rest))
    to_semicolon from_semicolon

-- what is read before an optional semicolon stops there
pub semicolon_stops : (on : Token → Bool) → ((at : Place) → on (mark (codes ";") at) ≡ false) → (y rest : Tokens) → IsOptionalSemicolon y → Stops (λ k. on_semicolon k || on k) rest → Stops on (y ++ rest)
semicolon_stops on off y rest (no_semicolon is) h = empty_stops on y rest is (stops_right on_semicolon on rest h)
semicolon_stops on off y rest (one_semicolon at is) h = off_at on _ y [] rest is (off at)
