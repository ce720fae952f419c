-- Places, calls, expressions and blocks, read from lists of tokens. What stands right inside a bracket is a parameter.
use Rattle.std.specs.Prelude.{ℕ, zero, suc, ◌-◌, Bool, true, false, ◌||◌, List, [], ◌∷◌, Option, Some, None, codes}
use Rattle.hv_tree.specs.declared.place.Place.{Place}
use Rattle.hv_tree.specs.declared.token.Token.{Token}
use Rattle.hv_tree.specs.declared.types.Name.{Name}
use Rattle.hv_tree.specs.declared.ast.Operator.{Operator}
use Rattle.hv_tree.specs.declared.ast.Operator.TheVariants as operator
use Rattle.hv_tree.specs.declared.ast.Expr.{Expr}
use Rattle.hv_tree.specs.declared.ast.ExprKind.TheVariants as expr
use Rattle.hv_tree.specs.declared.ast.PlaceExpr.{PlaceExpr}
use Rattle.hv_tree.specs.declared.ast.Step.{Step}
use Rattle.hv_tree.specs.declared.ast.Step.TheVariants as step
use Rattle.hv_tree.specs.declared.ast.Call.{Call}
use Rattle.hv_tree.specs.declared.ast.Arg.{Arg}
use Rattle.hv_tree.specs.declared.ast.Arg.TheVariants as arg
use Rattle.hv_tree.specs.declared.ast.Block.{Block, roll-Block}
use Rattle.hv_tree.specs.declared.ast.Stmt.{Stmt}
use Rattle.hv_tree.specs.Tokens.{Level, Ors, Ands, Comparisons, Sums, Products}
use Rattle.hv_tree.specs.Grammar.{expr_at, place_of, call_of, path_of}
use Rattle.hv_tree.specs.Refusal.{is_mark}
use Rattle.hv_syn_grammar.specs.Parser.{Parser, ◌>>=◌, done, take, choose, many}
use Rattle.hv_syn_grammar.specs.Levels.{is_infix, operator_of}
use Rattle.hv_syn_grammar.specs.Lexemes.{is_word, is_number, is_keyword, after_mark, after_keyword, after_word, after_number, after_bracket, separated}
use Rattle.hv_syn_grammar.specs.Signatures.{names, bracketed_params, returned}

-- ---- tests of the next token

abbrev pub begins_step : Token → Bool
begins_step k = is_mark (codes ".") k || is_mark (codes "[") k

abbrev pub begins_primary : Token → Bool
begins_primary k =
    is_number k || (is_word k || (is_mark (codes "(") k || (is_mark (codes "[") k || (is_keyword (codes "true") k || (is_keyword (codes "false") k
    || (is_keyword (codes "await") k || (is_keyword (codes "filled") k || (is_keyword (codes "count") k || is_keyword (codes "fun") k))))))))

abbrev pub begins_expr : Token → Bool
begins_expr k = is_mark (codes "-") k || (is_mark (codes "!") k || begins_primary k)

abbrev pub begins_arg : Token → Bool
begins_arg k = is_mark (codes "&") k || begins_expr k

-- ---- what stands right inside a bracket

pub record Inner : Type 0 where
  pub expr : Parser Expr
  pub place : Parser PlaceExpr
  pub stmts : Parser (List Stmt)

unfoldable pub argument : Inner → Parser Arg
argument i = choose (is_mark (codes "&")) (after_mark (codes "&") (λ at. i.place >>= (λ p. done (arg.Ref at p)))) (i.expr >>= (λ x. done (arg.Value x)))

unfoldable pub arguments : Inner → Parser (List Arg)
arguments i = choose begins_arg (separated (argument i)) (done [])

-- ---- where d more brackets may be open

module _ (d : ℕ) (i : Inner) where
  abbrev pub field_step : Parser Step
  field_step = after_mark (codes ".") (λ dot. after_word (λ name. done (step.Field name)))

  abbrev pub index_step : Parser Step
  index_step = after_bracket d (codes "[") (λ left. i.expr >>= (λ at. after_mark (codes "]") (λ right. done (step.Index left at))))

  unfoldable pub one_step : Parser Step
  one_step = choose (is_mark (codes ".")) field_step index_step

  unfoldable pub steps : Parser (List Step)
  steps = many begins_step one_step

  unfoldable pub place : Parser PlaceExpr
  place = after_word (λ root. steps >>= (λ ss. done (path_of root ss)))

  -- '(' (arg (',' arg)*)? ')' after a place
  unfoldable pub call_rest : Name → List Step → Parser Call
  call_rest root ss = after_bracket d (codes "(") (λ paren. arguments i >>= (λ xs. after_mark (codes ")") (λ right. done (call_of (path_of root ss) paren xs))))

  -- a call, with the place of its first token
  unfoldable pub call : Parser (Place × Call)
  call = after_word (λ root. steps >>= (λ ss. call_rest root ss >>= (λ c. done (root.place, c))))

  -- a place or a call
  unfoldable pub named : Parser Expr
  named =
      after_word (λ root. steps >>= (λ ss.
      choose (is_mark (codes "(")) (call_rest root ss >>= (λ c. done (expr_at root.place (expr.Call c)))) (done (expr_at root.place (expr.Path (path_of root ss))))))

  -- a block, with the place of its '{'
  unfoldable pub placed_block : Parser (Place × Block)
  placed_block = after_bracket d (codes "{") (λ left. i.stmts >>= (λ ss. after_mark (codes "}") (λ right. done (left, roll-Block (record { stmts = ss; end = right })))))

  unfoldable pub block : Parser Block
  block = placed_block >>= (λ b. done b.1)

  abbrev pub numeral : Parser Expr
  numeral = after_number (λ v. done (expr_at v.1 (expr.Int v.0)))

  abbrev pub truth : Parser Expr
  truth = after_keyword (codes "true") (λ at. done (expr_at at (expr.Bool true)))

  abbrev pub falsehood : Parser Expr
  falsehood = after_keyword (codes "false") (λ at. done (expr_at at (expr.Bool false)))

  unfoldable pub group : Parser Expr
  group = after_bracket d (codes "(") (λ left. i.expr >>= (λ x. after_mark (codes ")") (λ right. done x)))

  abbrev pub awaited : Parser Expr
  awaited = after_keyword (codes "await") (λ at. after_word (λ name. done (expr_at at (expr.Await name))))

  unfoldable pub array : Parser Expr
  array = after_bracket d (codes "[") (λ left. separated i.expr >>= (λ xs. after_mark (codes "]") (λ right. done (expr_at left (expr.ArrayLit xs)))))

  unfoldable pub filled : Parser Expr
  filled =
      after_keyword (codes "filled") (λ at. after_bracket d (codes "(") (λ left. i.expr >>= (λ len. after_mark (codes ",") (λ comma.
      i.expr >>= (λ value. after_mark (codes ")") (λ right. done (expr_at at (expr.Filled len value))))))))

  unfoldable pub counted : Parser Expr
  counted = after_keyword (codes "count") (λ at. after_bracket d (codes "(") (λ left. i.place >>= (λ p. after_mark (codes ")") (λ right. done (expr_at at (expr.Count p))))))

  -- '[' (Word (',' Word)*)? ']'
  unfoldable pub captures : Parser (List Name)
  captures = after_bracket d (codes "[") (λ left. names >>= (λ ns. after_mark (codes "]") (λ right. done ns)))

  unfoldable pub lambda : Parser Expr
  lambda =
      after_keyword (codes "fun") (λ at. captures >>= (λ cs. bracketed_params d >>= (λ ps. returned d >>= (λ result.
      block >>= (λ body. done (expr_at at (expr.Lambda cs ps result body)))))))

  -- the primaries that begin with a keyword
  unfoldable pub worded : Parser Expr
  worded =
      choose (is_keyword (codes "true")) truth
      (choose (is_keyword (codes "false")) falsehood
      (choose (is_keyword (codes "await")) awaited
      (choose (is_keyword (codes "filled")) filled
      (choose (is_keyword (codes "count")) counted lambda))))

  unfoldable pub primary : Parser Expr
  primary =
      choose is_number numeral
      (choose is_word named
      (choose (is_mark (codes "(")) group
      (choose (is_mark (codes "[")) array worded)))

  abbrev pub prefixed : List ℕ → Operator → Parser Expr
  prefixed spelling op = after_mark spelling (λ at. primary >>= (λ x. done (expr_at at (expr.Prefix op x))))

  unfoldable pub unary : Parser Expr
  unary = choose (is_mark (codes "-")) (prefixed (codes "-") operator.Neg) (choose (is_mark (codes "!")) (prefixed (codes "!") operator.Not) primary)

-- ---- chains

abbrev pub Link : Type 0
Link = Operator × Place × Expr

unfoldable pub link : Level → Parser Expr → Parser Link
link l operand = take (is_infix l) >>= (λ k. operand >>= (λ x. done (operator_of l k, k.place, x)))

unfoldable pub links : Level → Parser Expr → Parser (List Link)
links l operand = many (is_infix l) (link l operand)

abbrev pub chained : Expr → List Link → Expr
chained first [] = first
chained first (x ∷ more) = expr_at (place_of first) (expr.Chain first (x ∷ more))

abbrev pub repeated : Level → Parser Expr → Parser Expr
repeated l operand = operand >>= (λ first. links l operand >>= (λ found. done (chained first found)))

abbrev pub at_most_one : Level → Parser Expr → Parser Expr
at_most_one l operand = operand >>= (λ first. choose (is_infix l) (link l operand >>= (λ x. done (chained first (x ∷ [])))) (done first))

unfoldable pub product : ℕ → Inner → Parser Expr
product d i = repeated Products (unary d i)

unfoldable pub sum : ℕ → Inner → Parser Expr
sum d i = repeated Sums (product d i)

unfoldable pub comparison : ℕ → Inner → Parser Expr
comparison d i = at_most_one Comparisons (sum d i)

unfoldable pub conjunction : ℕ → Inner → Parser Expr
conjunction d i = repeated Ands (comparison d i)

-- an expression
unfoldable pub disjunction : ℕ → Inner → Parser Expr
disjunction d i = repeated Ors (conjunction d i)

-- by the level
unfoldable pub level : Level → ℕ → Inner → Parser Expr
level Ors d i = disjunction d i
level Ands d i = conjunction d i
level Comparisons d i = comparison d i
level Sums d i = sum d i
level Products d i = product d i

unfoldable pub operand : Level → ℕ → Inner → Parser Expr
operand Ors d i = conjunction d i
operand Ands d i = comparison d i
operand Comparisons d i = sum d i
operand Sums d i = product d i
operand Products d i = unary d i
