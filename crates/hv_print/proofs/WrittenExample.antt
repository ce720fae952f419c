-- A program that meets what the laws ask for: `fun main(){print((1+2)*3);}`.
use Rattle.std.proofs.Common.{◌≡◌, ◌≤◌, ℕ, pos, length, true, false, List, [], ◌∷◌, ◌++◌, None, codes, refl, ap, ◌∙◌, arith}
use Rattle.std.specs.Fmt.{digits}
use Rattle.std.proofs.lemmas.Str.{IsUtf8-from_ascii, chars-IsAscii}
use Rattle.hv_tree.specs.declared.place.Place.{Place}
use Rattle.hv_tree.specs.declared.types.Name.{Name}
use Rattle.hv_tree.specs.declared.ast.Operator.TheVariants as operator
use Rattle.hv_tree.specs.declared.ast.Block.{Block, roll-Block}
use Rattle.hv_tree.specs.declared.ast.Decl.{Decl}
use Rattle.hv_tree.specs.declared.ast.Decl.TheVariants as decl
use Rattle.hv_tree.specs.declared.ast.Expr.{Expr}
use Rattle.hv_tree.specs.declared.ast.ExprKind.TheVariants as expr
use Rattle.hv_tree.specs.declared.ast.Stmt.{Stmt}
use Rattle.hv_tree.specs.declared.ast.StmtKind.TheVariants as stmt
use Rattle.hv_tree.specs.declared.ast.Tree.{Tree}
use Rattle.hv_tree.specs.declared.token.Token.{Token}
use Rattle.hv_tree.specs.Tokens.{Tokens, mark, keyword, word, number, Ors, Sums, add_sign, mul_sign}
use Rattle.hv_tree.specs.Types.{no_params, no_return}
use Rattle.hv_tree.specs.Grammar.{expr_at, stmt_at, IsLevel, alone_level, chain_level, and_operand, comparison_operand, sum_operand, product_operand, unary_operand, last_link, IsUnary, plain_unary, numeral_primary, group_primary, is_block, none_stmts, more_stmts, print_stmt, one_semicolon, fun_decl, no_decls, more_decls, Spells}
use Rattle.hv_tree.specs.Core.{CoreExpr, Number, Chain, NoLinks, LinkOf, CoreBlock, BlockOf, NoStmts, StmtOf, Print, FunOf, core_of, core_block}
use Rattle.hv_tree.specs.Printed.{decls_text, Printed}
use Rattle.hv_token.specs.Characters.{is_keyword}
use Rattle.hv_token.specs.Pieces.{is_word}
use Rattle.hv_print.specs.Spellings.{IsWordText, IsNumeral, AreSpelled}
use Rattle.hv_print.specs.ReadBack.{IsWritten, IsShort, ReadsAs}
use Rattle.hv_tree.proofs.CoreParts.{core_int, core_chain, core_print, core_body}
use Rattle.hv_print.proofs.PieceReads.{ascii_from, from_ascii_word}
use Rattle.hv_print.proofs.ReadsBack.{reads_back}

module _ (p : Place) where
  -- ---- the tree

  abbrev literal : ℕ → Expr
  literal n = expr_at p (expr.Int (pos n))

  abbrev inner : Expr
  inner = expr_at p (expr.Chain (literal 1) ((operator.Add, p, literal 2) ∷ []))

  abbrev value : Expr
  value = expr_at p (expr.Chain inner ((operator.Mul, p, literal 3) ∷ []))

  abbrev statement : Stmt
  statement = stmt_at p (stmt.Print value)

  abbrev main : Name
  main = record { text = codes "main"; place = p }

  abbrev body : Block
  body = roll-Block (record { stmts = statement ∷ []; end = p })

  abbrev function : Decl
  function = decl.Fun (record { name = main; params = []; result = None; body = body })

  abbrev tree : Tree
  tree = record { decls = function ∷ [] }

  -- ---- its tokens

  abbrev m : List ℕ → Token
  m s = mark s p

  abbrev sum_tokens : Tokens
  sum_tokens = number (pos 1) p ∷ m (codes "+") ∷ number (pos 2) p ∷ []

  abbrev value_tokens : Tokens
  value_tokens = m (codes "(") ∷ (sum_tokens ++ m (codes ")") ∷ []) ++ m (codes "*") ∷ number (pos 3) p ∷ []

  abbrev stmt_tokens : Tokens
  stmt_tokens = keyword (codes "print") p ∷ m (codes "(") ∷ (value_tokens ++ m (codes ")") ∷ [])

  abbrev body_tokens : Tokens
  body_tokens = m (codes "{") ∷ ((stmt_tokens ++ (m (codes ";") ∷ [] ++ [])) ++ m (codes "}") ∷ [])

  abbrev fun_tokens : Tokens
  fun_tokens = keyword (codes "fun") p ∷ word main ∷ m (codes "(") ∷ ([] ++ m (codes ")") ∷ ([] ++ body_tokens))

  abbrev tokens : Tokens
  tokens = fun_tokens ++ []

  -- ---- they spell it

  unary : (n : ℕ) → IsUnary (literal n) (number (pos n) p ∷ [])
  unary n = plain_unary (numeral_primary p (pos n) refl refl)

  from_sum : (x : Expr) (ts : Tokens) → IsLevel Sums x ts → IsLevel Ors x ts
  from_sum x ts h = alone_level (and_operand refl (alone_level (comparison_operand refl (alone_level (sum_operand refl h)))))

  sum : IsLevel Ors inner sum_tokens
  sum = from_sum inner sum_tokens
      (chain_level (literal 1) ((operator.Add, p, literal 2) ∷ []) (number (pos 1) p ∷ []) (m (codes "+") ∷ number (pos 2) p ∷ [])
      (product_operand refl (alone_level (unary_operand refl (unary 1))))
      (last_link operator.Add p (m (codes "+")) (literal 2) (number (pos 2) p ∷ []) add_sign (product_operand refl (alone_level (unary_operand refl (unary 2)))) refl refl) refl refl)

  product : IsLevel Ors value value_tokens
  product = from_sum value value_tokens (alone_level (product_operand refl
      (chain_level inner ((operator.Mul, p, literal 3) ∷ []) (m (codes "(") ∷ (sum_tokens ++ m (codes ")") ∷ [])) (m (codes "*") ∷ number (pos 3) p ∷ [])
      (unary_operand refl (plain_unary (group_primary p p sum_tokens sum refl)))
      (last_link operator.Mul p (m (codes "*")) (literal 3) (number (pos 3) p ∷ []) mul_sign (unary_operand refl (unary 3)) refl refl) refl refl)))

  spells : Spells tree tokens
  spells = record {
    decls = more_decls function [] fun_tokens []
        (fun_decl p p p main [] None body [] [] body_tokens (no_params refl refl) (no_return refl refl)
        (is_block p p (statement ∷ []) (stmt_tokens ++ (m (codes ";") ∷ [] ++ []))
        (more_stmts statement [] stmt_tokens (m (codes ";") ∷ []) [] (print_stmt p p p value value_tokens product refl refl) (one_semicolon p refl) (none_stmts refl refl) refl refl) refl refl) refl refl)
        (no_decls refl refl) refl refl;
  }

  -- ---- each is of a lexer's spelling

  numeral : (n : ℕ) → n ≤ 9223372036854775807 → IsNumeral (pos n)
  numeral n le = record { value = n; is = refl; fits = le }

  free : is_keyword (codes "main") ≡ false
  unfolding is_keyword
  free = refl

  main_word : IsWordText (codes "main")
  main_word = record {
    utf8 = IsUtf8-from_ascii (codes "main") (ascii_from (codes "main") refl);
    word = ap is_word (chars-IsAscii (codes "main") (ascii_from (codes "main") refl)) ∙ from_ascii_word (codes "main") refl;
    free = free;
  }

  known_fun : is_keyword (codes "fun") ≡ true
  unfolding is_keyword
  known_fun = refl

  known_print : is_keyword (codes "print") ≡ true
  unfolding is_keyword
  known_print = refl

  spelled : AreSpelled tokens
  spelled = (
    known_fun,
    (main_word, (refl, (refl, (refl, (known_print, (refl, (refl, (numeral 1 (omega arith), (refl, (numeral 2 (omega arith), (refl, (refl, (numeral 3 (omega arith), (refl, (refl, (refl, tt)))))))))))))))),
  )

  pub written : IsWritten tree
  written = record { tokens = tokens; spells = spells; spelled = spelled }

  -- ---- its printed form

  abbrev core_value : CoreExpr
  core_value = Chain p (Chain p (Number p (pos 1)) (LinkOf operator.Add p (Number p (pos 2)) NoLinks)) (LinkOf operator.Mul p (Number p (pos 3)) NoLinks)

  of_inner : core_of inner ≡ Chain p (Number p (pos 1)) (LinkOf operator.Add p (Number p (pos 2)) NoLinks)
  of_inner =
      core_chain p (literal 1) ((operator.Add, p, literal 2) ∷ [])
      ∙ ap (λ x. Chain p x (LinkOf operator.Add p (core_of (literal 2)) NoLinks)) (core_int p (pos 1))
      ∙ ap (λ x. Chain p (Number p (pos 1)) (LinkOf operator.Add p x NoLinks)) (core_int p (pos 2))

  of_value : core_of value ≡ core_value
  of_value =
      core_chain p inner ((operator.Mul, p, literal 3) ∷ [])
      ∙ ap (λ x. Chain p x (LinkOf operator.Mul p (core_of (literal 3)) NoLinks)) of_inner
      ∙ ap (λ x. Chain p (Chain p (Number p (pos 1)) (LinkOf operator.Add p (Number p (pos 2)) NoLinks)) (LinkOf operator.Mul p x NoLinks)) (core_int p (pos 3))

  abbrev core_main : CoreBlock
  core_main = BlockOf (StmtOf (Print p core_value) NoStmts) p

  of_body : core_block body ≡ core_main
  of_body = core_body (statement ∷ []) p ∙ ap (λ s. BlockOf (StmtOf s NoStmts) p) (core_print p value ∙ ap (Print p) of_value)

  abbrev program_of : CoreBlock → List ℕ
  program_of b = decls_text (FunOf (record { name = main; params = []; result = None; body = b }) ∷ [])

  -- three lines
  pub printed : Printed tree ≡ codes "fun main() {" ++ (10 ∷ (codes "  print((1 + 2) * 3)" ++ (10 ∷ (codes "}" ++ 10 ∷ []))))
  unfolding digits
  printed = ap program_of of_body

  pub short : IsShort tree
  short = omega (arith, ap length printed)

  -- and so it is read back
  pub read : ReadsAs (Printed tree) tree
  read = reads_back tree written short
