-- What statements take of types, expressions, places, calls and blocks.
use Rattle.std.proofs.Common.{ℕ}
use Rattle.hv_tree.specs.declared.ast.Expr.{Expr}
use Rattle.hv_tree.specs.Tokens.{Tokens, Level, Ors}
use Rattle.hv_tree.specs.Types.{IsType}
use Rattle.hv_tree.specs.Grammar.{IsLevel, IsBlock}
use Rattle.hv_syn_grammar.specs.Signatures.{type_at}
use Rattle.hv_syn_grammar.specs.Expressions.{Inner, begins_step, begins_expr, disjunction, place, call, placed_block, block}
use Rattle.hv_syn_exact.proofs.Exact.{Exact, Begins, nowhere}
use Rattle.hv_syn_exact.proofs.Inner.{InnerExact, on_type, on_expr, IsPlace, IsPlacedCall, IsPlacedBlock}

-- the parsers that read them are exact, where d more brackets may be open
pub record Parts (d : ℕ) (i : Inner) : Type 0 where
  pub type : Exact d d on_type IsType (type_at d)
  pub expr : Exact d d on_expr (IsLevel Ors) (disjunction d i)
  pub place : Exact d d begins_step IsPlace (place d i)
  pub call : Exact d d nowhere IsPlacedCall (call d i)
  pub placed_block : Exact d d nowhere IsPlacedBlock (placed_block d i)
  pub block : Exact d d nowhere IsBlock (block d i)
  pub inner : InnerExact d i
  pub begins : (l : Level) (x : Expr) (ts : Tokens) → IsLevel l x ts → Begins begins_expr ts
