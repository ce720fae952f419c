-- Functions that evaluate expressions, run blocks, and run bodies that are entered.
use Rattle.std.specs.Prelude.{ℕ, Option, Result}
use Rattle.std.specs.Borrow.{Bor, MutBor}
use Rattle.hv_tree.specs.declared.ast.Expr.{Expr}
use Rattle.hv_tree.specs.declared.ast.Block.{Block}
use Rattle.hv_partial.specs.declared.tree.Held.{Held}
use Rattle.hv_partial.specs.HeldTree.{held_tree}
use Rattle.hv_eval_state.specs.declared.task.Task.{Task}
use Rattle.hv_eval_state.specs.declared.task.Halt.{Halt}
use Rattle.hv_eval_state.specs.Gives.{Gives, from}
use Rattle.hv_eval_env.specs.declared.level.Level.{Level}
use Rattle.hv_eval_env.specs.Level.{value_in, block_in, body_in, flow_of}

-- expressions at this level, where so many references are in use
pub record Evals (l : Level) (pre : Level → ℕ → MutBor Task → Bor Expr → Type 0) (post : Level → ℕ → MutBor Task → Bor Expr → Result Held Halt → MutBor Task → Type 0) : Type 0 where
  pub callable : (used : ℕ) (old : MutBor Task) (x : Bor Expr) → pre l used old x
  pub gives : (used : ℕ) (old new : MutBor Task) (x : Bor Expr) (r : Result Held Halt) → post l used old x r new → Gives held_tree (from (value_in l x.now) used old.now) r new.now

pub record Blocks (l : Level) (pre : Level → ℕ → MutBor Task → Bor Block → Type 0) (post : Level → ℕ → MutBor Task → Bor Block → Result (Option Held) Halt → MutBor Task → Type 0) : Type 0 where
  pub callable : (used : ℕ) (old : MutBor Task) (b : Bor Block) → pre l used old b
  pub gives : (used : ℕ) (old new : MutBor Task) (b : Bor Block) (r : Result (Option Held) Halt) → post l used old b r new → Gives flow_of (from (block_in l b.now) used old.now) r new.now

-- bodies one activation further in
pub record Bodies (l : Level) (pre : Level → MutBor Task → ℕ → Type 0) (post : Level → MutBor Task → ℕ → Result (Option Held) Halt → MutBor Task → Type 0) : Type 0 where
  pub callable : (f : ℕ) (old : MutBor Task) → pre l old f
  pub gives : (f : ℕ) (old new : MutBor Task) (r : Result (Option Held) Halt) → post l old f r new → (n : ℕ) → Gives flow_of (from (body_in l f) n old.now) r new.now
