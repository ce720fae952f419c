-- The place at which a source is refused.
use Rattle.std.proofs.Common.{◌≡◌, ◌⊎◌, inl, inr, ◌+◌, ℕ, List, [], ◌∷◌, ◌++◌, length, Option, Some, None, Contains, refl, sym, ap, subst}
use Rattle.hv_tree.specs.declared.place.Place.{Place}
use Rattle.hv_tree.specs.declared.token.Token.{Token}
use Rattle.hv_tree.specs.declared.refusal.Rule.TheVariants as rule
use Rattle.hv_tree.specs.declared.refusal.Refusal.{Refusal}
use Rattle.hv_tree.specs.declared.ast.Tree.{Tree}
use Rattle.hv_tree.specs.Tokens.{Tokens}
use Rattle.hv_tree.specs.Core.{core_tree}
use Rattle.hv_token.specs.Lexes.{Lexes}
use Rattle.hv_parse.specs.Answers.{IsRefused, unexpected, unfinished, too_deep, lexical, refused}
use Rattle.hv_rules.specs.Accepted.{Phase, IsViolated, IsFirstOf}
use Rattle.hv_lemmas.proofs.Members.{in_right, contained}
use Rattle.hv_check.specs.Checks.{IsRead, IsFirst, unread, judged, judged_phases}
use Rattle.hv_law_checked.specs.Inside.{LiesIn}
use Rattle.hv_law_checked.proofs.Begins.{tokens_begin, stop_lies}
use Rattle.hv_law_checked.proofs.Inside.{names_inside, types_inside, events_inside}
use Rattle.hv_law_checked.specs.Placed.{IsPlaced}

-- ---- tokens and grammar

inside : (bytes : List ℕ) (r : Refusal) (place : Place) → r.place ≡ place → LiesIn bytes place → IsPlaced bytes r
inside bytes r place e h = inl (subst (LiesIn bytes) (sym e) h)

token_inside : (bytes : List ℕ) (tokens : Tokens) (stop : Option Refusal) (before : Tokens) (k : Token) (after : Tokens) → Lexes bytes tokens stop → tokens ≡ before ++ k ∷ after → LiesIn bytes k.place
token_inside bytes tokens stop before k after l e = tokens_begin bytes tokens stop l k (subst (λ ts. Contains ts k) (sym e) (contained (before ++ k ∷ after) k (in_right before (k ∷ after) k (inl refl))))

grammar_placed : (bytes : List ℕ) (tokens : Tokens) (stop : Option Refusal) (r : Refusal) → Lexes bytes tokens stop → IsRefused tokens stop (record { start = length bytes }) r → IsPlaced bytes r
grammar_placed bytes tokens stop r l (unexpected before k after h e) = inside bytes r k.place (ap (λ (r : Refusal). r.place) e) (token_inside bytes tokens stop before k after l h.violated.is)
grammar_placed bytes tokens stop r l (unfinished before s h e) = inr (inl (ap (λ (r : Refusal). r.rule) e, ap (λ (r : Refusal). r.place.start) e))
grammar_placed bytes tokens stop r l (too_deep before k after h e) = inside bytes r k.place (ap (λ (r : Refusal). r.place) e) (token_inside bytes tokens stop before k after l h.violated.is)
grammar_placed bytes tokens stop r l (lexical s h n) = inl (stop_lies bytes tokens r (subst (λ o. Lexes bytes tokens o) s l))

-- ---- names and types

-- a first violation is a violation
pub violated : (phases : List Phase) (tree : Tree) (r : Refusal) → IsFirstOf phases (core_tree tree) (Some r) → IsViolated (core_tree tree) r.rule r.place
violated [] tree r h = cc
violated (phase ∷ phases) tree r (inl h) = h.1.0.1
violated (phase ∷ phases) tree r (inr h) = violated phases tree r h.1

module _ (bytes : List ℕ) (tree : Tree) (read : IsRead bytes tree) where
  violation_placed : (r : Refusal) → IsViolated (core_tree tree) r.rule r.place → IsPlaced bytes r
  violation_placed r (inl v) = by (names_inside bytes read.tokens None tree read.lexes read.parsed.spells r.rule r.place v)
    where
      by : LiesIn bytes r.place ⊎ ((r.rule ≡ rule.N3) × (r.place.start ≡ 0)) → IsPlaced bytes r
      by (inl i) = inl i
      by (inr e) = inr (inr e)
  violation_placed r (inr (inl v)) = inl (types_inside bytes read.tokens None tree read.lexes read.parsed.spells r.rule r.place v)
  violation_placed r (inr (inr v)) = inl (events_inside bytes read.tokens None tree read.lexes read.parsed.spells r.rule r.place v)

pub first_placed : (bytes : List ℕ) (r : Refusal) → IsFirst bytes r → IsPlaced bytes r
first_placed bytes r (unread h) = grammar_placed bytes h.tokens h.stop r h.lexes h.refused
first_placed bytes r (judged tree read h) = violation_placed bytes tree read r (violated judged_phases tree r h)
