-- The plan of a body.
use Rattle.std.specs.Prelude.{ℕ, List, [], ◌∷◌, ◌++◌, length}
use Rattle.hv_tree.specs.declared.ast.Block.{Block, out-Block}
use Rattle.hv_tree.specs.Core.{Core}
use Rattle.hv_rules.specs.declared.event.FlowEvent.TheVariants as event
use Rattle.hv_decls.specs.Locals.{Local}
use Rattle.hv_rules.specs.Events as events
use Rattle.hv_flow_plan.specs.declared.plan.FlowOp.{FlowOp}
use Rattle.hv_flow_plan.specs.declared.plan.FlowOp.TheVariants as op
use Rattle.hv_flow_plan.specs.Spelling.{plan_of}
use Rattle.hv_flow_plan.specs.StmtPlans.{plan_stmts}

-- the statements, where so many locals are declared before, and the end
abbrev pub stmts_plan : Core → List Local → ℕ → Block → List FlowOp
stmts_plan tree locals n b = op.Then ∷ (plan_stmts tree locals n (out-Block b).stmts ++ op.Do (event.ScopeEnd n) (out-Block b).end ∷ [])

-- the entry, the captures and parameters, and the block
abbrev pub body_plan : Core → List Local → List Local → Block → List FlowOp
body_plan tree entry locals b = op.Then ∷ (op.Do event.Entry (out-Block b).end ∷ (op.Then ∷ (plan_of (events.entry_events 0 entry) ++ stmts_plan tree locals (length entry) b)))
