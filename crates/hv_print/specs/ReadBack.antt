-- What is read of the printed form of a program.
use Rattle.std.specs.Prelude.{◌≡◌, ◌≤◌, ℕ, List, length, None}
use Rattle.hv_tree.specs.declared.ast.Tree.{Tree}
use Rattle.hv_tree.specs.Tokens.{Tokens}
use Rattle.hv_tree.specs.Grammar.{Spells}
use Rattle.hv_tree.specs.Printed.{Printed}
use Rattle.hv_token.specs.Lexes.{most_bytes, Lexes}
use Rattle.hv_print.specs.Aside.{Aside}
use Rattle.hv_print.specs.Spellings.{AreSpelled}

-- some tokens spell the tree, each of a spelling that a lexer makes
pub record IsWritten (tree : Tree) : Type 0 where
  pub tokens : Tokens
  pub spells : Spells tree tokens
  pub spelled : AreSpelled tokens

-- its printed form is no longer than a source may be
abbrev pub IsShort : Tree → Type 0
IsShort tree = length (Printed tree) ≤ most_bytes

-- the bytes are read, with no stop, as tokens that spell a tree that is the same, places aside
pub record ReadsAs (bytes : List ℕ) (tree : Tree) : Type 0 where
  pub tokens : Tokens
  pub again : Tree
  pub lexes : Lexes bytes tokens None
  pub spells : Spells again tokens
  pub same : Aside again ≡ Aside tree
