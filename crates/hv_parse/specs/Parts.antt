-- Parts of the grammar as functions that only the code has.
use Rattle.std.specs.Prelude.{◌≡◌, ℕ, Bool, false, ◌||◌, List, [], ◌∷◌, ◌++◌, Option, Result, Ok, Err, codes}
use Rattle.hv_tree.specs.declared.token.Token.{Token}
use Rattle.hv_tree.specs.declared.ast.Block.{Block}
use Rattle.hv_tree.specs.declared.ast.Branch.{Branch}
use Rattle.hv_tree.specs.declared.ast.Stmt.{Stmt}
use Rattle.hv_tree.specs.Tokens.{Tokens}
use Rattle.hv_tree.specs.Refusal.{is_mark}
use Rattle.hv_syn_grammar.specs.declared.stop.Stop.{Stop}
use Rattle.hv_syn_grammar.specs.declared.stop.Stop.TheVariants as stop
use Rattle.hv_syn_grammar.specs.Parser.{Parser, Read, Got, Off, Deep, ◌>>=◌, done}
use Rattle.hv_syn_grammar.specs.Lexemes.{is_keyword, is_word, after_keyword}
use Rattle.hv_syn_grammar.specs.Expressions.{Inner}
use Rattle.hv_syn_grammar.specs.Statements.{Item, after_return, other_stmt, semicolon}

-- the first token of the statements with which `begins_stmt` ends
abbrev pub begins_other : Token → Bool
begins_other k = is_keyword (codes "print") k || (is_keyword (codes "task") k || (is_keyword (codes "await") k || (is_word k || is_mark (codes "{") k)))

-- the branches behind a first one
abbrev pub parts_after : Branch → Parser (List Branch × Option Block) → Parser (List Branch × Option Block)
parts_after first parts = parts >>= (λ more. done (first ∷ more.0, more.1))

-- a `return` with what follows it
abbrev pub return_item : ℕ → Inner → Parser Item
return_item d i = after_keyword (codes "return") (after_return d i)

-- any other statement, with its `;`
abbrev pub other_item : ℕ → Inner → Parser Item
other_item d i = other_stmt d i >>= (λ x. semicolon >>= (λ u. done (x, false)))

-- A statement was read and stands behind those that were found. The answer is whether it has to be the last.
abbrev pub Adds : Read Item → List Stmt → Result Bool Stop → Tokens → List Stmt → Type 0
Adds read found (Ok last) rest new = (x : Stmt) × (read ≡ Got (x, last) rest) × (new ≡ found ++ x ∷ [])
Adds read found (Err stop.Off) rest new = read ≡ Off rest
Adds read found (Err stop.Deep) rest new = read ≡ Deep rest
Adds read found (Err stop.NoMemory) rest new = Unit {0}
