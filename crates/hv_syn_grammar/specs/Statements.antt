-- Statements, read from lists of tokens. What stands right inside a bracket is a parameter.
use Rattle.std.specs.Prelude.{ℕ, zero, suc, ◌-◌, Bool, true, false, not, ◌||◌, List, [], ◌∷◌, map, Option, Some, None, codes}
use Rattle.hv_tree.specs.declared.place.Place.{Place}
use Rattle.hv_tree.specs.declared.token.Token.{Token}
use Rattle.hv_tree.specs.declared.types.Name.{Name}
use Rattle.hv_tree.specs.declared.types.Ty.{Ty}
use Rattle.hv_tree.specs.declared.ast.Expr.{Expr}
use Rattle.hv_tree.specs.declared.ast.Block.{Block}
use Rattle.hv_tree.specs.declared.ast.Branch.{Branch, roll-Branch}
use Rattle.hv_tree.specs.declared.ast.Stmt.{Stmt}
use Rattle.hv_tree.specs.declared.ast.StmtKind.TheVariants as stmt
use Rattle.hv_tree.specs.Grammar.{stmt_at}
use Rattle.hv_tree.specs.Refusal.{is_mark}
use Rattle.hv_syn_grammar.specs.declared.parts.ElsePart.{ElsePart}
use Rattle.hv_syn_grammar.specs.declared.parts.ElsePart.TheVariants as part
use Rattle.hv_syn_grammar.specs.Parser.{Parser, ◌>>=◌, done, choose, until}
use Rattle.hv_syn_grammar.specs.Lexemes.{is_word, is_keyword, after_mark, after_keyword, after_word, after_bracket}
use Rattle.hv_syn_grammar.specs.Signatures.{type_at}
use Rattle.hv_syn_grammar.specs.Expressions.{Inner, place, call, block, placed_block, disjunction}

-- ---- tests of the next token

abbrev pub begins_stmt : Token → Bool
begins_stmt k =
    is_keyword (codes "var") k || (is_keyword (codes "let") k || (is_keyword (codes "inout") k || (is_mark (codes "&") k || (is_keyword (codes "if") k || (is_keyword (codes "while") k
    || (is_keyword (codes "print") k || (is_keyword (codes "task") k || (is_keyword (codes "await") k || (is_word k || is_mark (codes "{") k)))))))))

abbrev pub begins_item : Token → Bool
begins_item k = is_keyword (codes "return") k || begins_stmt k

abbrev pub not_closing : Token → Bool
not_closing k = not (is_mark (codes "}") k)

-- ';'?
unfoldable pub semicolon : Parser (Unit {0})
semicolon = choose (is_mark (codes ";")) (after_mark (codes ";") (λ at. done tt)) (done tt)

-- ---- the parts of an `if` after its first block
abbrev pub is_last : ElsePart → Bool
is_last (part.Test branch) = false
is_last (part.Last final) = true

abbrev pub branches_of : List ElsePart → List Branch
branches_of [] = []
branches_of (part.Test branch ∷ parts) = branch ∷ branches_of parts
branches_of (part.Last final ∷ parts) = []

abbrev pub otherwise_of : List ElsePart → Option Block
otherwise_of [] = None
otherwise_of (part.Test branch ∷ parts) = otherwise_of parts
otherwise_of (part.Last final ∷ parts) = Some final

-- a statement, and whether it has to be the last
abbrev pub Item : Type 0
Item = Stmt × Bool

abbrev pub return_item : Place → Option Expr → Bool → Item
return_item at v last = (stmt_at at (stmt.Return v), last)

module _ (d : ℕ) (i : Inner) where
  -- Word ':' type
  unfoldable pub typed_name : Parser (Name × Ty)
  typed_name = after_word (λ name. after_mark (codes ":") (λ colon. type_at d >>= (λ t. done (name, t))))

  -- ('=' expr)?
  unfoldable pub initial : Parser (Option Expr)
  initial = choose (is_mark (codes "=")) (after_mark (codes "=") (λ equals. disjunction d i >>= (λ v. done (Some v)))) (done None)

  unfoldable pub var_stmt : Parser Stmt
  var_stmt = after_keyword (codes "var") (λ at. typed_name >>= (λ n. initial >>= (λ v. done (stmt_at at (stmt.Var n.0 n.1 v)))))

  unfoldable pub let_stmt : Parser Stmt
  let_stmt = after_keyword (codes "let") (λ at. typed_name >>= (λ n. after_mark (codes "=") (λ equals. disjunction d i >>= (λ v. done (stmt_at at (stmt.Let n.0 n.1 v))))))

  unfoldable pub inout_stmt : Parser Stmt
  inout_stmt =
      after_keyword (codes "inout") (λ at. typed_name >>= (λ n. after_mark (codes "=") (λ equals. after_mark (codes "&") (λ ref.
      place d i >>= (λ p. done (stmt_at at (stmt.Inout n.0 n.1 p)))))))

  unfoldable pub assign_stmt : Parser Stmt
  assign_stmt = after_mark (codes "&") (λ at. place d i >>= (λ p. after_mark (codes "=") (λ equals. disjunction d i >>= (λ v. done (stmt_at at (stmt.Assign p v))))))

  -- 'if' expr block
  unfoldable pub branch : Parser Branch
  branch = after_keyword (codes "if") (λ at. disjunction d i >>= (λ test. block d i >>= (λ body. done (roll-Branch (record { test = test; body = body })))))

  -- 'else' and one more test, or the last block
  unfoldable pub else_part : Parser ElsePart
  else_part = after_keyword (codes "else") (λ else. choose (is_keyword (codes "if")) (branch >>= (λ b. done (part.Test b))) (block d i >>= (λ b. done (part.Last b))))

  unfoldable pub else_parts : Parser (List Branch × Option Block)
  else_parts = until (is_keyword (codes "else")) is_last else_part >>= (λ parts. done (branches_of parts, otherwise_of parts))

  unfoldable pub if_stmt : Parser Stmt
  if_stmt =
      after_keyword (codes "if") (λ at. disjunction d i >>= (λ test. block d i >>= (λ body.
      else_parts >>= (λ more. done (stmt_at at (stmt.If (roll-Branch (record { test = test; body = body }) ∷ more.0) more.1))))))

  unfoldable pub while_stmt : Parser Stmt
  while_stmt = after_keyword (codes "while") (λ at. disjunction d i >>= (λ test. block d i >>= (λ body. done (stmt_at at (stmt.While test body)))))

  unfoldable pub print_stmt : Parser Stmt
  print_stmt = after_keyword (codes "print") (λ at. after_bracket d (codes "(") (λ left. i.expr >>= (λ v. after_mark (codes ")") (λ right. done (stmt_at at (stmt.Print v))))))

  -- (':' type)?
  unfoldable pub task_type : Parser (Option Ty)
  task_type = choose (is_mark (codes ":")) (after_mark (codes ":") (λ colon. type_at d >>= (λ t. done (Some t)))) (done None)

  -- 'spawn' '(' expr ')', with the place of the word
  unfoldable pub budget : Parser (Place × Expr)
  budget = after_keyword (codes "spawn") (λ spawn. after_bracket d (codes "(") (λ left. i.expr >>= (λ b. after_mark (codes ")") (λ right. done (spawn, b)))))

  unfoldable pub task_stmt : Parser Stmt
  task_stmt =
      after_keyword (codes "task") (λ at. after_word (λ name. task_type >>= (λ result. after_mark (codes "=") (λ equals. budget >>= (λ b.
      call d i >>= (λ c. done (stmt_at at (stmt.Task name result b.0 b.1 c.1))))))))

  unfoldable pub await_stmt : Parser Stmt
  await_stmt = after_keyword (codes "await") (λ at. after_word (λ name. done (stmt_at at (stmt.Await name))))

  unfoldable pub call_stmt : Parser Stmt
  call_stmt = call d i >>= (λ c. done (stmt_at c.0 (stmt.Call c.1)))

  unfoldable pub block_stmt : Parser Stmt
  block_stmt = placed_block d i >>= (λ b. done (stmt_at b.0 (stmt.Block b.1)))

  -- the statements that begin with a name or a mark
  unfoldable pub plain_stmt : Parser Stmt
  plain_stmt = choose (is_mark (codes "&")) assign_stmt (choose is_word call_stmt block_stmt)

  -- the statements other than bindings and those
  unfoldable pub action : Parser Stmt
  action =
      choose (is_keyword (codes "if")) if_stmt
      (choose (is_keyword (codes "while")) while_stmt
      (choose (is_keyword (codes "print")) print_stmt
      (choose (is_keyword (codes "task")) task_stmt
      (choose (is_keyword (codes "await")) await_stmt plain_stmt))))

  -- a statement other than a `return`
  unfoldable pub other_stmt : Parser Stmt
  other_stmt = choose (is_keyword (codes "var")) var_stmt (choose (is_keyword (codes "let")) let_stmt (choose (is_keyword (codes "inout")) inout_stmt action))

  unfoldable pub valued_return : Place → Parser Item
  valued_return at = disjunction d i >>= (λ v. semicolon >>= (λ u. done (return_item at (Some v) false)))

  -- what follows the word `return`
  unfoldable pub after_return : Place → Parser Item
  after_return at =
      choose not_closing
      (choose (is_mark (codes ";")) (after_mark (codes ";") (λ s. done (return_item at None false))) (valued_return at))
      (done (return_item at None true))

  unfoldable pub item : Parser Item
  item = choose (is_keyword (codes "return")) (after_keyword (codes "return") after_return) (other_stmt >>= (λ x. semicolon >>= (λ u. done (x, false))))

  unfoldable pub items : Parser (List Item)
  items = until begins_item (λ x. x.1) item

  -- (stmt ';'?)*
  unfoldable pub stmts : Parser (List Stmt)
  stmts = items >>= (λ found. done (map (λ x. x.0) found))
