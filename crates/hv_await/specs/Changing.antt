-- Tasks whose function would change what its caller has, by the text.
use Rattle.std.specs.Prelude.{Bool, true, false, ◌||◌, List, [], ◌∷◌, ◌++◌, map, Option, Some, None}
use Rattle.hv_tree.specs.declared.refusal.Rule.TheVariants as rule
use Rattle.hv_tree.specs.declared.refusal.Refusal.{Refusal}
use Rattle.hv_tree.specs.declared.types.Conv.{Conv}
use Rattle.hv_tree.specs.declared.types.Conv.TheVariants as conv
use Rattle.hv_tree.specs.declared.types.Name.{Name}
use Rattle.hv_tree.specs.declared.ast.Block.{Block}
use Rattle.hv_tree.specs.declared.ast.Branch.{Branch, out-Branch}
use Rattle.hv_tree.specs.declared.ast.Call.{Call}
use Rattle.hv_tree.specs.declared.ast.Stmt.{Stmt}
use Rattle.hv_tree.specs.Core.{Core, CoreSteps, CoreCall, CallOf, CoreBlock, BlockOf, CoreStmts, NoStmts, StmtOf, CoreBranches, NoElse, Else, BranchOf, CoreStmt, Var, VarWith, Let, Inout, Assign, If, While, Return, ReturnWith, Print, Task, AwaitsAlone, CallsAlone, Bare, core_param, core_call, core_block, core_stmt, core_stmts, core_tys_of}
use Rattle.hv_decls.specs.Types.{convs_of, params_meant}
use Rattle.hv_decls.specs.Locals.{Local, binds, listed, local_in, CoreBody, entry_locals}
use Rattle.hv_rules.specs.Events.{callee_by}
use Rattle.hv_rules.specs.Events as events
use Rattle.hv_rules.specs.Rules.{convs_or_none}
use Rattle.hv_flow_plan.specs.Scopes.{param_types}
use Rattle.hv_await.specs.declared.callee.Callee.{Callee}
use Rattle.hv_await.specs.declared.callee.Callee.TheVariants as callee
use Rattle.hv_await.specs.Acts.{refusal}

-- whether a call changes by it what its caller has
abbrev pub is_change : Conv → Bool
is_change conv.Let = false
is_change conv.Inout = true
is_change conv.Sink = false
is_change conv.Set = true

abbrev pub any_change : List Conv → Bool
any_change [] = false
any_change (c ∷ cs) = is_change c || any_change cs

-- a refusal, or none
abbrev pub if_so : Bool → Refusal → List Refusal
if_so true r = r ∷ []
if_so false r = []

-- a callee as the code knows it
abbrev pub taken_by : Callee → events.Callee
taken_by callee.Constructs = events.Constructs
taken_by (callee.Params params) = events.Takes (map events.conv_of_param (map core_param params.now))
taken_by (callee.Types params) = events.Takes (convs_of (params_meant (core_tys_of (param_types params.now))))

module _ (tree : Core) where
  -- the callee has an `inout` or `set` parameter
  abbrev pub takes_change : List Local → Name → CoreSteps → Bool
  takes_change v root steps = any_change (convs_or_none (callee_by tree (local_in v root.text) root steps))

  abbrev pub call_changes : List Local → CoreCall → List Refusal
  call_changes v (CallOf root steps paren args) = if_so (takes_change v root steps) (refusal rule.S3 root.place)

  abbrev mutual
    -- such tasks in a statement, where these locals are visible; those in lambdas belong to bodies of their own
    pub stmt_changes : List Local → CoreStmt → List Refusal
    stmt_changes v (Var at name t) = []
    stmt_changes v (VarWith at name t x) = []
    stmt_changes v (Let at name t x) = []
    stmt_changes v (Inout at name t root steps) = []
    stmt_changes v (Assign at root steps x) = []
    stmt_changes v (If at branches) = branch_changes v branches
    stmt_changes v (While at test body) = block_changes v body
    stmt_changes v (Return at) = []
    stmt_changes v (ReturnWith at x) = []
    stmt_changes v (Print at x) = []
    stmt_changes v (Task at name t spawn budget call) = call_changes v call
    stmt_changes v (AwaitsAlone at name) = []
    stmt_changes v (CallsAlone at call) = []
    stmt_changes v (Bare at block) = block_changes v block

    pub branch_changes : List Local → CoreBranches → List Refusal
    branch_changes v NoElse = []
    branch_changes v (Else block) = block_changes v block
    branch_changes v (BranchOf test body rest) = block_changes v body ++ branch_changes v rest

    pub block_changes : List Local → CoreBlock → List Refusal
    block_changes v (BlockOf stmts end) = stmts_changes v stmts

    pub stmts_changes : List Local → CoreStmts → List Refusal
    stmts_changes v NoStmts = []
    stmts_changes v (StmtOf x rest) = stmt_changes v x ++ stmts_changes (listed (binds x) ++ v) rest

  -- those of a body
  abbrev pub body_changes : CoreBody → List Refusal
  body_changes body = block_changes (entry_locals body) body.block

  -- ---- as the code meets them

  abbrev pub changes_in_call : List Local → Call → List Refusal
  changes_in_call v c = call_changes v (core_call c)

  abbrev pub changes_in_stmt : List Local → Stmt → List Refusal
  changes_in_stmt v s = stmt_changes v (core_stmt s)

  abbrev pub changes_in_stmts : List Local → List Stmt → List Refusal
  changes_in_stmts v stmts = stmts_changes v (core_stmts stmts)

  abbrev pub changes_in_block : List Local → Block → List Refusal
  changes_in_block v b = block_changes v (core_block b)

  abbrev pub changes_in_tests : List Local → List Branch → List Refusal
  changes_in_tests v [] = []
  changes_in_tests v (b ∷ rest) = changes_in_block v (out-Branch b).body ++ changes_in_tests v rest

  abbrev pub changes_in_else : List Local → Option Block → List Refusal
  changes_in_else v None = []
  changes_in_else v (Some b) = changes_in_block v b
