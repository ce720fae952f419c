-- The levels of operators by how tightly they bind, and operands in brackets where they are wanted.
use Rattle.std.proofs.Common.{◌≡◌, ℕ, zero, suc, ◌+◌, ◌-◌, ◌≤◌, length, Bool, true, false, nat_le, List, [], ◌∷◌, codes, refl, ap, subst, arith}
use Rattle.std.proofs.lemmas.Bool.{leb-false}
use Rattle.hv_tree.specs.declared.ast.Operator.{Operator}
use Rattle.hv_tree.specs.declared.ast.Operator.TheVariants as operator
use Rattle.hv_tree.specs.declared.ast.Expr.{Expr}
use Rattle.hv_tree.specs.declared.token.Token.{Token}
use Rattle.hv_tree.specs.Tokens.{Tokens, mark, Level, Ors, Ands, Comparisons, Sums, Products, IsInfix, or_sign, and_sign, eq_sign, ne_sign, lt_sign, le_sign, gt_sign, ge_sign, add_sign, sub_sign, mul_sign, div_sign, rem_sign}
use Rattle.hv_tree.specs.Grammar.{IsOperand, and_operand, comparison_operand, sum_operand, product_operand, unary_operand, IsLevel, alone_level, IsUnary, plain_unary, IsPrimary, group_primary}
use Rattle.hv_tree.specs.Core.{CoreExpr, core_of}
use Rattle.hv_tree.specs.Printed.{tightness, expr_tightness}
use Rattle.hv_print.specs.Aside.{expr_aside}
use Rattle.hv_print.specs.Pieces.{Piece, MarkOf, piece_bytes, here, tokens_of, grouped_pieces, operator_piece, operand_pieces, expr_pieces}
use Rattle.hv_print.proofs.Proper.{IsOf}
use Rattle.hv_print.proofs.SpelledTypes.{Reads, behind, split}

-- what binds at least so tightly
abbrev pub AtLeast : ℕ → Expr → Tokens → Type 0
AtLeast zero = IsLevel Ors
AtLeast (suc zero) = IsLevel Ands
AtLeast (suc (suc zero)) = IsLevel Comparisons
AtLeast (suc (suc (suc zero))) = IsLevel Sums
AtLeast (suc (suc (suc (suc zero)))) = IsLevel Products
AtLeast (suc (suc (suc (suc (suc zero))))) = IsUnary
AtLeast (suc (suc (suc (suc (suc (suc n)))))) = IsPrimary

looser : (n : ℕ) (x : Expr) (ts : Tokens) → AtLeast (suc n) x ts → AtLeast n x ts
looser zero x ts h = alone_level (and_operand refl h)
looser (suc zero) x ts h = alone_level (comparison_operand refl h)
looser (suc (suc zero)) x ts h = alone_level (sum_operand refl h)
looser (suc (suc (suc zero))) x ts h = alone_level (product_operand refl h)
looser (suc (suc (suc (suc zero)))) x ts h = alone_level (unary_operand refl h)
looser (suc (suc (suc (suc (suc zero))))) x ts h = plain_unary h
looser (suc (suc (suc (suc (suc (suc n)))))) x ts h = h

looser_by : (k n m : ℕ) (x : Expr) (ts : Tokens) → m ≡ n + k → AtLeast m x ts → AtLeast n x ts
looser_by zero n m x ts e h = let same : m ≡ n = omega (arith, e) in subst (λ j. AtLeast j x ts) same h
looser_by (suc k) n m x ts e h =
    let same : m ≡ suc (n + k) = omega (arith, e) in
    looser_by k n (n + k) x ts refl (looser (n + k) x ts (subst (λ j. AtLeast j x ts) same h))

pub loosened : (m n : ℕ) (x : Expr) (ts : Tokens) → n ≤ m → AtLeast m x ts → AtLeast n x ts
loosened m n x ts le h = let same : m ≡ n + (m - n) = omega (arith, le) in looser_by (m - n) n m x ts same h

-- ---- levels

abbrev pub level_tightness : Level → ℕ
level_tightness Ors = 0
level_tightness Ands = 1
level_tightness Comparisons = 2
level_tightness Sums = 3
level_tightness Products = 4

pub operand_at : (l : Level) (x : Expr) (ts : Tokens) → AtLeast (suc (level_tightness l)) x ts → IsOperand l x ts
operand_at Ors x ts h = and_operand refl h
operand_at Ands x ts h = comparison_operand refl h
operand_at Comparisons x ts h = sum_operand refl h
operand_at Sums x ts h = product_operand refl h
operand_at Products x ts h = unary_operand refl h

pub chain_at : (l : Level) (x : Expr) (ts : Tokens) → IsLevel l x ts → AtLeast (level_tightness l) x ts
chain_at Ors x ts h = h
chain_at Ands x ts h = h
chain_at Comparisons x ts h = h
chain_at Sums x ts h = h
chain_at Products x ts h = h

pub no_tighter : (l : Level) → level_tightness l ≤ 5
no_tighter Ors = omega arith
no_tighter Ands = omega arith
no_tighter Comparisons = omega arith
no_tighter Sums = omega arith
no_tighter Products = omega arith

-- ---- operators

abbrev pub sign_at : ℕ → Operator → Token
sign_at at o = mark (piece_bytes (operator_piece o)) (here at)

pub infix_at : (at : ℕ) (l : Level) (o : Operator) → IsOf l o → IsInfix (here at) l o (sign_at at o)
infix_at at l o h = by l o h.1 h.2
  where
    by : (l : Level) (o : Operator) (sign : Token) → IsInfix h.0 l o sign → IsInfix (here at) l o (sign_at at o)
    by l o sign or_sign = or_sign
    by l o sign and_sign = and_sign
    by l o sign eq_sign = eq_sign
    by l o sign ne_sign = ne_sign
    by l o sign lt_sign = lt_sign
    by l o sign le_sign = le_sign
    by l o sign gt_sign = gt_sign
    by l o sign ge_sign = ge_sign
    by l o sign add_sign = add_sign
    by l o sign sub_sign = sub_sign
    by l o sign mul_sign = mul_sign
    by l o sign div_sign = div_sign
    by l o sign rem_sign = rem_sign

pub tight_as : (l : Level) (o : Operator) → IsOf l o → tightness o ≡ level_tightness l
tight_as l o h = by l o h.1 h.2
  where
    by : (l : Level) (o : Operator) (sign : Token) → IsInfix h.0 l o sign → tightness o ≡ level_tightness l
    by l o sign or_sign = refl
    by l o sign and_sign = refl
    by l o sign eq_sign = refl
    by l o sign ne_sign = refl
    by l o sign lt_sign = refl
    by l o sign le_sign = refl
    by l o sign gt_sign = refl
    by l o sign ge_sign = refl
    by l o sign add_sign = refl
    by l o sign sub_sign = refl
    by l o sign mul_sign = refl
    by l o sign div_sign = refl
    by l o sign rem_sign = refl

pub sign_first : (at : ℕ) (o : Operator) (more : List Piece) → tokens_of at (operator_piece o ∷ more) ≡ sign_at at o ∷ tokens_of (at + length (piece_bytes (operator_piece o))) more
sign_first at operator.Add more = refl
sign_first at operator.Sub more = refl
sign_first at operator.Mul more = refl
sign_first at operator.Div more = refl
sign_first at operator.Rem more = refl
sign_first at operator.Eq more = refl
sign_first at operator.Ne more = refl
sign_first at operator.Lt more = refl
sign_first at operator.Le more = refl
sign_first at operator.Gt more = refl
sign_first at operator.Ge more = refl
sign_first at operator.And more = refl
sign_first at operator.Or more = refl
sign_first at operator.Neg more = refl
sign_first at operator.Not more = refl

-- ---- operands

abbrev pub seen_expr : Expr → CoreExpr
seen_expr x = expr_aside (core_of x)

-- the tokens of the printed expression spell it, as tightly as it binds
abbrev pub ExprReads : ℕ → ℕ → CoreExpr → Type 0
ExprReads at d x = Reads (AtLeast (expr_tightness x)) seen_expr (tokens_of at (expr_pieces d x)) (expr_aside x)

pub any_expr : (at d : ℕ) (x : CoreExpr) → ExprReads at d x → Reads (IsLevel Ors) seen_expr (tokens_of at (expr_pieces d x)) (expr_aside x)
any_expr at d x r = record { tree = r.tree; spelled = loosened (expr_tightness x) 0 r.tree _ (omega arith) r.spelled; same = r.same }

operand_by : (at d outer : ℕ) (x : CoreExpr) → outer ≤ 5 → ((a : ℕ) → ExprReads a d x) → (b : Bool) → nat_le (expr_tightness x) outer ≡ b →
    Reads (AtLeast (suc outer)) seen_expr (tokens_of at (grouped_pieces b (expr_pieces d x))) (expr_aside x)
operand_by at d outer x le i true e =
    let r = any_expr (at + 1) d x (i (at + 1)) in
    record {
      tree = r.tree;
      spelled = loosened 6 (suc outer) r.tree _ (omega (arith, le)) (group_primary (here at) (here (behind (at + 1) (expr_pieces d x))) (tokens_of (at + 1) (expr_pieces d x)) r.spelled
          (ap (λ t. mark (codes "(") (here at) ∷ t) (split (at + 1) (expr_pieces d x) (MarkOf (codes ")") ∷ []))));
      same = r.same;
    }
operand_by at d outer x le i false e =
    let r = i at in
    let more : suc outer ≤ expr_tightness x = leb-false (expr_tightness x) outer e in
    record { tree = r.tree; spelled = loosened (expr_tightness x) (suc outer) r.tree _ more r.spelled; same = r.same }

pub of_operand : (at d outer : ℕ) (x : CoreExpr) → outer ≤ 5 → ((a : ℕ) → ExprReads a d x) → Reads (AtLeast (suc outer)) seen_expr (tokens_of at (operand_pieces outer x (expr_pieces d x))) (expr_aside x)
of_operand at d outer x le i = operand_by at d outer x le i (nat_le (expr_tightness x) outer) refl
