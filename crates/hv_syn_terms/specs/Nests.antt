-- Function values that read what stands right inside a bracket.
use Rattle.std.specs.Prelude.{ℕ, ◌-◌, ◌<◌, Result, List}
use Rattle.std.specs.declared.alloc.Global.{Global}
use denote.Ref.{MutBor}
use Rattle.hv_tree.specs.declared.ast.Expr.{Expr}
use Rattle.hv_tree.specs.declared.ast.PlaceExpr.{PlaceExpr}
use Rattle.hv_tree.specs.declared.ast.Stmt.{Stmt}
use Rattle.hv_tree.specs.Tokens.{Tokens}
use Rattle.hv_syn_grammar.specs.declared.stop.Stop.{Stop}
use Rattle.hv_syn_grammar.specs.Parser.{Parser}
use Rattle.hv_syn_grammar.specs.Reads.{Reads}
use Rattle.hv_syn_grammar.specs.Declarations.{inner}

-- Where a bracket was opened, the value can be called with one room less, and it reads as this parser does.
pub record NestsFor {A : Type 0} (room : ℕ) (parser : Parser A) (pre : Global → MutBor Tokens → ℕ → Type 0)
    (post : Global → MutBor Tokens → ℕ → Result A Stop → MutBor Tokens → Type 0) : Type 0 where
  pub callable : (alloc : Global) (old : MutBor Tokens) → 0 < room → pre alloc old (room - 1)
  pub reads : (alloc : Global) (old new : MutBor Tokens) (r : Result A Stop) → 0 < room → post alloc old (room - 1) r new → Reads (parser old.now) r new.now

abbrev pub NestsExpr : (room : ℕ) → (Global → MutBor Tokens → ℕ → Type 0) → (Global → MutBor Tokens → ℕ → Result Expr Stop → MutBor Tokens → Type 0) → Type 0
NestsExpr room pre post = NestsFor room (inner room).expr pre post

abbrev pub NestsPlace : (room : ℕ) → (Global → MutBor Tokens → ℕ → Type 0) → (Global → MutBor Tokens → ℕ → Result PlaceExpr Stop → MutBor Tokens → Type 0) → Type 0
NestsPlace room pre post = NestsFor room (inner room).place pre post

abbrev pub NestsStmts : (room : ℕ) → (Global → MutBor Tokens → ℕ → Type 0) → (Global → MutBor Tokens → ℕ → Result (List Stmt) Stop → MutBor Tokens → Type 0) → Type 0
NestsStmts room pre post = NestsFor room (inner room).stmts pre post
