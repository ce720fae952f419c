-- What `parse` answers, from the tokens, the refusal that stopped the lexer and the place of the source's end.
use Rattle.std.specs.Prelude.{◌≡◌, [], ◌∷◌, Option, Some, None, Result, Ok, Err}
use Rattle.hv_tree.specs.declared.place.Place.{Place}
use Rattle.hv_tree.specs.declared.refusal.Rule.{Rule}
use Rattle.hv_tree.specs.declared.refusal.Rule.TheVariants as rule
use Rattle.hv_tree.specs.declared.refusal.Refusal.{Refusal}
use Rattle.hv_tree.specs.declared.token.Token.{Token}
use Rattle.hv_tree.specs.declared.ast.Tree.{Tree}
use Rattle.hv_tree.specs.Tokens.{Tokens}
use Rattle.hv_tree.specs.Grammar.{Spells}
use Rattle.hv_tree.specs.Refusal.{CanGoOn, IsP1, IsP2, CountsAsP1, CountsAsP2}
use Rattle.hv_parse.specs.declared.parsed.ParseEnd.{ParseEnd}
use Rattle.hv_parse.specs.declared.parsed.ParseEnd.TheVariants as end

abbrev pub refused : Rule → Place → Refusal
refused r at = record { rule = r; place = at }

-- Nothing stopped the lexer, so that the end counts as a last token, and neither rule is violated.
pub record IsParsed (tokens : Tokens) (stop : Option Refusal) (tree : Tree) : Type 0 where
  pub whole : stop ≡ None
  pub spells : Spells tree tokens
  pub only : (other : Tree) → Spells other tokens → other ≡ tree
  pub no_p1 : (x y : Tokens) → IsP1 tokens x y → ⊥
  pub no_p2 : (x y : Tokens) → IsP2 tokens x y → ⊥

pub data IsRefused (tokens : Tokens) (stop : Option Refusal) (end : Place) (r : Refusal) : Type 0 where
  -- a token with which no program goes on
  unexpected : (before : Tokens) (k : Token) (after : Tokens) → CountsAsP1 tokens before (k ∷ after) → r ≡ refused rule.P1 k.place → IsRefused tokens stop end r
  -- the end, where it counts as a last token
  unfinished : (before : Tokens) → stop ≡ None → CountsAsP1 tokens before [] → r ≡ refused rule.P1 end → IsRefused tokens stop end r
  -- an opening bracket that is one too many
  too_deep : (before : Tokens) (k : Token) (after : Tokens) → CountsAsP2 tokens before (k ∷ after) → r ≡ refused rule.P2 k.place → IsRefused tokens stop end r
  -- what stopped the lexer, where all its tokens go on
  lexical : stop ≡ Some r → CanGoOn Spells tokens → ((x y : Tokens) → IsP2 tokens x y → ⊥) → IsRefused tokens stop end r

abbrev pub Parses : Tokens → Option Refusal → Place → Result Tree ParseEnd → Type 0
Parses tokens stop at (Ok tree) = IsParsed tokens stop tree
Parses tokens stop at (Err (end.Refused r)) = IsRefused tokens stop at r
Parses tokens stop at (Err end.NoMemory) = Unit {0}
