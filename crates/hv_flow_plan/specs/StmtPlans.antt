-- The plans of statements, where so many locals of the body are declared before.
use Rattle.std.specs.Prelude.{ℕ, ◌+◌, List, [], ◌∷◌, ◌++◌, length, Option, Some, None}
use Rattle.hv_tree.specs.declared.place.Place.{Place}
use Rattle.hv_tree.specs.declared.types.Name.{Name}
use Rattle.hv_tree.specs.declared.ast.Block.{Block}
use Rattle.hv_tree.specs.declared.ast.Branch.{Branch, out-Branch}
use Rattle.hv_tree.specs.declared.ast.Call.{Call}
use Rattle.hv_tree.specs.declared.ast.Expr.{Expr}
use Rattle.hv_tree.specs.declared.ast.PlaceExpr.{PlaceExpr}
use Rattle.hv_tree.specs.declared.ast.Stmt.{Stmt}
use Rattle.hv_tree.specs.Core.{Core, core_stmt, core_stmts, core_block, core_branches}
use Rattle.hv_rules.specs.declared.event.FlowEvent.TheVariants as event
use Rattle.hv_decls.specs.Locals.{Local, declared_in, in_block, in_branches, in_stmts}
use Rattle.hv_rules.specs.Events as events
use Rattle.hv_flow_plan.specs.declared.plan.FlowOp.{FlowOp}
use Rattle.hv_flow_plan.specs.declared.plan.FlowOp.TheVariants as op
use Rattle.hv_flow_plan.specs.declared.doing.Doing.TheVariants as doing
use Rattle.hv_flow_plan.specs.declared.doing.Way.TheVariants as way
use Rattle.hv_flow_plan.specs.Spelling.{plan_of}
use Rattle.hv_flow_plan.specs.Plans.{plan_expr, plan_place, plan_call}

-- what is around a statement, as far as plans show it
abbrev pub around : ℕ → events.Around
around n = record { next = n; back = []; handles = [] }

-- how many locals are declared
abbrev pub stmt_locals : Stmt → ℕ
stmt_locals s = length (declared_in (core_stmt s))

abbrev pub stmts_locals : List Stmt → ℕ
stmts_locals stmts = length (in_stmts (core_stmts stmts))

abbrev pub block_locals : Block → ℕ
block_locals b = length (in_block (core_block b))

abbrev pub branches_locals : List Branch → Option Block → ℕ
branches_locals branches otherwise = length (in_branches (core_branches branches otherwise))

-- Declare and Init of a local that has a value
abbrev pub declared_plan : ℕ → Name → List FlowOp
declared_plan n name = plan_of (events.declared n name)

module _ (tree : Core) (locals : List Local) where
  abbrev pub plan_stmt : ℕ → Stmt → List FlowOp
  plan_stmt n s = plan_of (events.stmt_events tree locals (around n) (core_stmt s))

  abbrev pub plan_stmts : ℕ → List Stmt → List FlowOp
  plan_stmts n stmts = plan_of (events.stmts_events tree locals (around n) (core_stmts stmts))

  abbrev pub plan_block : ℕ → Block → List FlowOp
  plan_block n b = plan_of (events.block_events tree locals (around n) (core_block b))

  abbrev pub plan_branches : ℕ → List Branch → Option Block → List FlowOp
  plan_branches n branches otherwise = plan_of (events.branch_events tree locals (around n) (core_branches branches otherwise))

  -- statements of one form
  abbrev pub plan_var : ℕ → Name → Option Expr → List FlowOp
  plan_var n name None = op.Do (event.Declare n) name.place ∷ []
  plan_var n name (Some x) = op.Then ∷ (plan_expr tree locals doing.Use x ++ declared_plan n name)

  abbrev pub plan_let : ℕ → Name → Expr → List FlowOp
  plan_let n name x = op.Then ∷ (plan_expr tree locals doing.Read x ++ declared_plan n name)

  abbrev pub plan_inout : ℕ → Name → PlaceExpr → List FlowOp
  plan_inout n name p = op.Then ∷ (plan_place tree locals doing.Write p ++ declared_plan n name)

  abbrev pub plan_assign : PlaceExpr → Expr → List FlowOp
  plan_assign p x = op.Then ∷ (plan_expr tree locals doing.Use x ++ plan_place tree locals doing.Init p)

  abbrev pub plan_return : Place → Option Expr → List FlowOp
  plan_return at None = op.Stop event.Return at ∷ []
  plan_return at (Some x) = op.Then ∷ (plan_expr tree locals doing.Use x ++ op.Stop event.Return at ∷ [])

  abbrev pub plan_task : ℕ → Place → Expr → Call → List FlowOp
  plan_task n spawn budget call = op.Then ∷ (plan_expr tree locals doing.Use budget ++ (op.Then ∷ (plan_call tree locals way.Spawning call ++ op.Do (event.Spawn n) spawn ∷ [])))

  abbrev pub plan_while : ℕ → Expr → Block → List FlowOp
  plan_while n test body = op.Then ∷ (op.Loop ∷ (op.Then ∷ (plan_expr tree locals doing.Use test ++ (plan_block n body ++ plan_expr tree locals doing.Use test))))

  -- a test and its block, before what comes where the test fails
  abbrev pub plan_branch : ℕ → Branch → List FlowOp
  plan_branch n b = op.Then ∷ (plan_expr tree locals doing.Use (out-Branch b).test ++ (op.Either ∷ plan_block n (out-Branch b).body))

  -- several of them
  abbrev pub plan_tests : ℕ → List Branch → List FlowOp
  plan_tests n [] = []
  plan_tests n (b ∷ rest) = plan_branch n b ++ plan_tests (n + block_locals (out-Branch b).body) rest

  -- the last `else`
  abbrev pub plan_else : ℕ → Option Block → List FlowOp
  plan_else n None = op.Skip ∷ []
  plan_else n (Some b) = plan_block n b

-- how many locals a branch declares
abbrev pub branch_locals : Branch → ℕ
branch_locals b = block_locals (out-Branch b).body

abbrev pub tests_locals : List Branch → ℕ
tests_locals [] = 0
tests_locals (b ∷ rest) = branch_locals b + tests_locals rest

-- how many locals the last `else` declares
abbrev pub else_locals : Option Block → ℕ
else_locals None = 0
else_locals (Some b) = block_locals b
