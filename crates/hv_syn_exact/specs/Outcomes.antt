-- What the parser's outcome on a whole list of tokens says of programs.
use Rattle.std.specs.Prelude.{◌≡◌, [], ◌∷◌}
use Rattle.hv_tree.specs.declared.token.Token.{Token}
use Rattle.hv_tree.specs.declared.ast.Tree.{Tree}
use Rattle.hv_tree.specs.Tokens.{Tokens}
use Rattle.hv_tree.specs.Grammar.{Spells}
use Rattle.hv_tree.specs.Refusal.{CanGoOn, IsP1, IsP2, CountsAsP1, CountsAsP2}
use Rattle.hv_syn_grammar.specs.Parser.{Read, Got, Off, Deep}

-- the tokens are those of this program alone, and no rule of the grammar is violated
pub record IsProgram (ts : Tokens) (tree : Tree) : Type 0 where
  pub spells : Spells tree ts
  pub only : (other : Tree) → Spells other ts → other ≡ tree
  pub no_p1 : (x y : Tokens) → IsP1 ts x y → ⊥
  pub no_p2 : (x y : Tokens) → IsP2 ts x y → ⊥

-- the rest begins with a token with which no program goes on
pub record Unexpected (ts rest : Tokens) : Type 0 where
  pub before : Tokens
  pub counts : CountsAsP1 ts before rest

-- the tokens end where some list goes on
pub record Unfinished (ts : Tokens) : Type 0 where
  pub counts : CountsAsP1 ts ts []
  pub goes_on : CanGoOn Spells ts
  pub no_p2 : (x y : Tokens) → IsP2 ts x y → ⊥

-- the rest begins with an opening bracket that is one too many
pub record TooManyOpen (ts rest : Tokens) : Type 0 where
  pub before : Tokens
  pub bracket : Token
  pub after : Tokens
  pub begins : rest ≡ bracket ∷ after
  pub counts : CountsAsP2 ts before rest

-- by what was read
abbrev pub Outcome : Tokens → Read Tree → Type 0
Outcome ts (Got tree rest) = (rest ≡ []) × IsProgram ts tree
Outcome ts (Off []) = Unfinished ts
Outcome ts (Off (k ∷ rest)) = Unexpected ts (k ∷ rest)
Outcome ts (Deep rest) = TooManyOpen ts rest
