-- What goes on after each part, and what is known of the parsers that stand right inside a bracket.
use Rattle.std.proofs.Common.{◌≡◌, ℕ, suc, Bool, ◌||◌, ◌∷◌}
use Rattle.std.specs.Prelude.{codes}
use Rattle.hv_tree.specs.declared.place.Place.{Place}
use Rattle.hv_tree.specs.declared.token.Token.{Token}
use Rattle.hv_tree.specs.declared.ast.Block.{Block}
use Rattle.hv_tree.specs.declared.ast.Call.{Call}
use Rattle.hv_tree.specs.declared.ast.PlaceExpr.{PlaceExpr}
use Rattle.hv_tree.specs.Tokens.{Tokens, mark, word, Ors, Ands, Comparisons, Sums, Products}
use Rattle.hv_tree.specs.Grammar.{path_of, IsLevel, AreSteps, IsCall, IsBlock, AreStmts}
use Rattle.hv_tree.specs.Refusal.{is_mark}
use Rattle.hv_syn_grammar.specs.Levels.{is_infix}
use Rattle.hv_syn_grammar.specs.Expressions.{Inner, begins_step}
use Rattle.hv_syn_grammar.specs.Statements.{not_closing}
use Rattle.hv_syn_exact.proofs.Exact.{Exact, Then, Nothing}
use Rattle.hv_syn_exact.proofs.Lexemes.{After}

-- ---- the tokens with which a part may go on

abbrev pub on_type : Token → Bool
on_type = is_mark (codes "->")

abbrev pub on_path : Token → Bool
on_path k = is_mark (codes "(") k || begins_step k

abbrev pub on_product : Token → Bool
on_product k = is_infix Products k || on_path k

abbrev pub on_sum : Token → Bool
on_sum k = is_infix Sums k || on_product k

abbrev pub on_comparison : Token → Bool
on_comparison k = is_infix Comparisons k || on_sum k

abbrev pub on_conjunction : Token → Bool
on_conjunction k = is_infix Ands k || on_comparison k

abbrev pub on_expr : Token → Bool
on_expr k = is_infix Ors k || on_conjunction k

-- ---- relations that the grammar has only inside its productions

abbrev pub IsPlace : PlaceExpr → Tokens → Type 0
IsPlace = After word (λ root. Then AreSteps (λ ss. Nothing (path_of root ss)))

-- a call, with the place of its first token
abbrev pub IsPlacedCall : Place × Call → Tokens → Type 0
IsPlacedCall c ts = IsCall c.0 c.1 ts

-- a block, with the place of its '{'
abbrev pub IsPlacedBlock : Place × Block → Tokens → Type 0
IsPlacedBlock b ts = IsBlock b.1 ts × ((more : Tokens) × (ts ≡ mark (codes "{") b.0 ∷ more))

-- the parsers right inside a bracket are exact, where d more might be open before it
pub record InnerExact (d : ℕ) (i : Inner) : Type 0 where
  pub expr : (n : ℕ) → d ≡ suc n → Exact n n on_expr (IsLevel Ors) i.expr
  pub place : (n : ℕ) → d ≡ suc n → Exact n n begins_step IsPlace i.place
  pub stmts : (n : ℕ) → d ≡ suc n → Exact n n not_closing AreStmts i.stmts
