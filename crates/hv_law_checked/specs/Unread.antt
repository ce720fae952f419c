-- Where a source violates the rules on tokens and on the grammar, whichever of these counts.
use Rattle.std.specs.Prelude.{◌≡◌, ℕ, List, [], ◌∷◌, length, Option, None}
use Rattle.hv_tree.specs.declared.refusal.Rule.TheVariants as rule
use Rattle.hv_tree.specs.declared.refusal.Refusal.{Refusal}
use Rattle.hv_tree.specs.declared.token.Token.{Token}
use Rattle.hv_tree.specs.Tokens.{Tokens}
use Rattle.hv_tree.specs.Refusal.{IsP1, IsP2}
use Rattle.hv_token.specs.Pieces.{width}
use Rattle.hv_token.specs.Lexes.{order_mark, Violates, Lexes}
use Rattle.hv_parse.specs.Answers.{refused}

pub data IsViolatedBy (bytes : List ℕ) (r : Refusal) : Type 0 where
  -- a rule on tokens, by the bytes or by one of the pieces that they are cut into
  on_tokens : (tokens : Tokens) (stop : Option Refusal) (l : Lexes bytes tokens stop) → Violates bytes (width (order_mark l.characters)) l.texts l.rest r → IsViolatedBy bytes r
  -- a token with which no program goes on
  unexpected : (tokens : Tokens) (stop : Option Refusal) → Lexes bytes tokens stop → (before : Tokens) (k : Token) (after : Tokens) → IsP1 tokens before (k ∷ after) → r ≡ refused rule.P1 k.place → IsViolatedBy bytes r
  -- the end, where it counts as a last token
  unfinished : (tokens : Tokens) → Lexes bytes tokens None → (before : Tokens) → IsP1 tokens before [] → r ≡ refused rule.P1 (record { start = length bytes }) → IsViolatedBy bytes r
  -- an opening bracket that is one too many
  too_deep : (tokens : Tokens) (stop : Option Refusal) → Lexes bytes tokens stop → (before : Tokens) (k : Token) (after : Tokens) → IsP2 tokens before (k ∷ after) → r ≡ refused rule.P2 k.place → IsViolatedBy bytes r
