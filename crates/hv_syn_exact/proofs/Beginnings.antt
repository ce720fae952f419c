-- What the parts of expressions begin with, and that there are such parts.
use Rattle.std.proofs.Common.{◌≡◌, ℕ, Bool, true, false, ◌||◌, List, [], ◌∷◌, ◌++◌, refl}
use Rattle.std.specs.Prelude.{pos, codes}
use Rattle.hv_tree.specs.declared.place.Place.{Place}
use Rattle.hv_tree.specs.declared.token.Token.{Token}
use Rattle.hv_tree.specs.declared.types.Name.{Name}
use Rattle.hv_tree.specs.declared.ast.Expr.{Expr}
use Rattle.hv_tree.specs.declared.ast.ExprKind.TheVariants as variant
use Rattle.hv_tree.specs.declared.ast.Arg.{Arg}
use Rattle.hv_tree.specs.declared.ast.Arg.TheVariants as argument
use Rattle.hv_tree.specs.declared.ast.Block.{Block, roll-Block}
use Rattle.hv_tree.specs.Tokens.{Tokens, mark, word, number, Level, Ors, Ands, Comparisons, Sums, Products}
use Rattle.hv_tree.specs.Grammar.{expr_at, call_of, path_of, IsOperand, IsLevel, IsUnary, IsPrimary, AreSteps, AreArgs, IsArg, IsBlock, AreStmts, and_operand, comparison_operand, sum_operand, product_operand, unary_operand, alone_level, chain_level, plain_unary, negated_unary, inverted_unary, numeral_primary, truth_primary, falsehood_primary, path_primary, call_primary, group_primary, await_primary, array_primary, filled_primary, count_primary, lambda_primary, none_step, is_call, none_args, value_argument, ref_argument, is_block, none_stmts}
use Rattle.hv_tree.specs.Refusal.{is_mark}
use Rattle.hv_syn_grammar.specs.Expressions.{begins_primary, begins_expr, begins_arg}
use Rattle.hv_syn_exact.proofs.Exact.{Stops, Begins}
use Rattle.hv_syn_exact.proofs.Inner.{IsPlace, IsPlacedCall, IsPlacedBlock}
use Rattle.hv_syn_exact.proofs.Shorts.{off_at, on_at, begins_more, begins_wider, begins_stops, excludes, zero_at, Can}
use Rattle.hv_lemmas.proofs.Bools.{or_right}

-- ---- a numeral shows that there are expressions

abbrev pub zero_name : Name
zero_name = record { text = []; place = zero_at }

pub some_primary : Can IsPrimary
some_primary = (expr_at zero_at (variant.Int (pos 0)), number (pos 0) zero_at ∷ [], numeral_primary zero_at (pos 0) refl refl)

some_unary : IsUnary some_primary.0 some_primary.1
some_unary = plain_unary some_primary.2

some_product : IsLevel Products some_primary.0 some_primary.1
some_product = alone_level (unary_operand refl some_unary)

some_sum : IsLevel Sums some_primary.0 some_primary.1
some_sum = alone_level (product_operand refl some_product)

some_comparison : IsLevel Comparisons some_primary.0 some_primary.1
some_comparison = alone_level (sum_operand refl some_sum)

some_conjunction : IsLevel Ands some_primary.0 some_primary.1
some_conjunction = alone_level (comparison_operand refl some_comparison)

pub some_expr : Can (IsLevel Ors)
some_expr = (some_primary.0, some_primary.1, alone_level (and_operand refl some_conjunction))

pub no_steps : Can AreSteps
no_steps = ([], [], none_step refl refl)

pub some_place : Can IsPlace
some_place = (path_of zero_name [], word zero_name ∷ [], (zero_name, [], ([], [], [], none_step refl refl, (refl, refl), refl), refl))

pub some_arg : Can IsArg
some_arg = (argument.Value some_expr.0, some_expr.1, value_argument some_expr.0 some_expr.2 refl)

pub no_args : Can AreArgs
no_args = ([], [], none_args refl refl)

pub some_call : Can IsPlacedCall
some_call = (
  (zero_at, call_of (path_of zero_name []) zero_at []),
  word zero_name ∷ (mark (codes "(") zero_at ∷ (mark (codes ")") zero_at ∷ [])),
  is_call zero_name [] zero_at zero_at [] [] [] (none_step refl refl) (none_args refl refl) refl refl refl,
)

pub no_stmts : Can AreStmts
no_stmts = ([], [], none_stmts refl refl)

pub some_block : Can IsBlock
some_block = (
  roll-Block (record { stmts = []; end = zero_at }),
  mark (codes "{") zero_at ∷ (mark (codes "}") zero_at ∷ []),
  is_block zero_at zero_at [] [] (none_stmts refl refl) refl refl,
)

pub some_placed_block : Can IsPlacedBlock
unfolding some_block
some_placed_block = ((zero_at, some_block.0), some_block.1, (some_block.2, (mark (codes "}") zero_at ∷ [], refl)))

-- ---- first tokens

pub primary_begins : (x : Expr) (ts : Tokens) → IsPrimary x ts → Begins begins_primary ts
primary_begins x ts (numeral_primary at value e is) = on_at begins_primary _ ts [] is refl
primary_begins x ts (truth_primary at e is) = on_at begins_primary _ ts _ is refl
primary_begins x ts (falsehood_primary at e is) = on_at begins_primary _ ts _ is refl
primary_begins x ts (path_primary root steps a h e is) = on_at begins_primary _ ts a is refl
primary_begins x ts (call_primary at c (is_call root steps paren right args a b h k e1 e2 is) e) = on_at begins_primary _ ts _ is refl
primary_begins x ts (group_primary left right a h is) = on_at begins_primary _ ts _ is refl
primary_begins x ts (await_primary at name e is) = on_at begins_primary _ ts _ is refl
primary_begins x ts (array_primary left right elements a h e is) = on_at begins_primary _ ts _ is refl
primary_begins x ts (filled_primary at left comma right len value a b h k e is) = on_at begins_primary _ ts _ is refl
primary_begins x ts (count_primary at left right root steps a h e is) = on_at begins_primary _ ts _ is refl
primary_begins x ts (lambda_primary at o1 c1 o2 c2 captures params result body a b c d h1 h2 h3 h4 e is) = on_at begins_primary _ ts _ is refl

primary_begins_expr : (k : Token) → begins_primary k ≡ true → begins_expr k ≡ true
primary_begins_expr k e = or_right (is_mark (codes "-") k) (is_mark (codes "!") k || begins_primary k) (or_right (is_mark (codes "!") k) (begins_primary k) e)

pub unary_begins : (x : Expr) (ts : Tokens) → IsUnary x ts → Begins begins_expr ts
unary_begins x ts (plain_unary h) = begins_wider begins_primary begins_expr primary_begins_expr ts (primary_begins x ts h)
unary_begins x ts (negated_unary at operand a h e is) = on_at begins_expr _ ts a is refl
unary_begins x ts (inverted_unary at operand a h e is) = on_at begins_expr _ ts a is refl

mutual
  pub operand_begins : (l : Level) (x : Expr) (ts : Tokens) → IsOperand l x ts → Begins begins_expr ts
  operand_begins l x ts (and_operand e h) = level_begins Ands x ts h
  operand_begins l x ts (comparison_operand e h) = level_begins Comparisons x ts h
  operand_begins l x ts (sum_operand e h) = level_begins Sums x ts h
  operand_begins l x ts (product_operand e h) = level_begins Products x ts h
  operand_begins l x ts (unary_operand e h) = unary_begins x ts h

  pub level_begins : (l : Level) (x : Expr) (ts : Tokens) → IsLevel l x ts → Begins begins_expr ts
  level_begins l x ts (alone_level h) = operand_begins l x ts h
  level_begins l x ts (chain_level first links a b h k e is) = begins_more begins_expr a b ts (operand_begins l first a h) is

pub expr_begins_arg : (k : Token) → begins_expr k ≡ true → begins_arg k ≡ true
expr_begins_arg k e = or_right (is_mark (codes "&") k) (begins_expr k) e

pub arg_begins : (x : Arg) (ts : Tokens) → IsArg x ts → Begins begins_arg ts
arg_begins x ts (value_argument v h e) = begins_wider begins_expr begins_arg expr_begins_arg ts (level_begins Ors v ts h)
arg_begins x ts (ref_argument at root steps a h e is) = on_at begins_arg _ ts (word root ∷ a) is refl

-- ---- tests that an expression's first token fails

pub expr_off : (l : Level) (s : List ℕ) → ((at : Place) → begins_expr (mark s at) ≡ false) → (x : Expr) (ts rest : Tokens) → IsLevel l x ts → Stops (is_mark s) (ts ++ rest)
expr_off l s off x ts rest h = begins_stops begins_expr (is_mark s) (excludes s begins_expr off) ts rest (level_begins l x ts h)

-- the same of something that begins with an expression
pub expr_first_off : (l : Level) (s : List ℕ) → ((at : Place) → begins_expr (mark s at) ≡ false) → (x : Expr) (u v ts rest : Tokens) → IsLevel l x u → ts ≡ u ++ v → Stops (is_mark s) (ts ++ rest)
expr_first_off l s off x u v ts rest h is = begins_stops begins_expr (is_mark s) (excludes s begins_expr off) ts rest (begins_more begins_expr u v ts (level_begins l x u h) is)

pub block_off : (on : Token → Bool) → ((at : Place) → on (mark (codes "{") at) ≡ false) → (b : Block) (ts rest : Tokens) → IsBlock b ts → Stops on (ts ++ rest)
block_off on off b ts rest (is_block left right stmts a h e is) = off_at on _ ts _ rest is (off left)
