-- Of what is around a statement, its plan shows only how many locals are declared before.
use Rattle.std.proofs.Common.{◌≡◌, ◌+◌, List, [], ◌∷◌, ◌++◌, length, refl, ap, ◌∙◌}
use Rattle.hv_tree.specs.Core.{Core, CoreBlock, BlockOf, CoreStmts, NoStmts, StmtOf, CoreBranches, NoElse, Else, BranchOf, CoreStmt, Var, VarWith, Let, Inout, Assign, If, While, Return, ReturnWith, Print, Task, AwaitsAlone, CallsAlone, Bare}
use Rattle.hv_rules.specs.declared.event.FlowEvent.TheVariants as event
use Rattle.hv_rules.specs.Flow.{Do, Then}
use Rattle.hv_decls.specs.Locals.{Local, declared_in, in_block}
use Rattle.hv_rules.specs.Events as events
use Rattle.hv_flow_plan.specs.declared.plan.FlowOp.TheVariants as op
use Rattle.hv_flow_plan.specs.Spelling.{plan_of}

module _ (tree : Core) (locals : List Local) where
  mutual
    pub same_stmt : (s t : events.Around) → s.next ≡ t.next → (x : CoreStmt) → plan_of (events.stmt_events tree locals s x) ≡ plan_of (events.stmt_events tree locals t x)
    same_stmt s t e (Var at name ty) = ap (λ n. op.Do (event.Declare n) name.place ∷ []) e
    same_stmt s t e (VarWith at name ty x) = ap (λ n. plan_of (Then (events.value_events tree locals x) (events.declared n name))) e
    same_stmt s t e (Let at name ty x) = ap (λ n. plan_of (Then (events.expr_events tree locals (λ p root. events.declaring n (event.OpenRead p) root) x) (events.declared n name))) e
    same_stmt s t e (Inout at name ty root steps) =
        ap (λ n. plan_of (Then (events.place_events tree locals (λ p at. events.declaring n (event.OpenWrite p) at) root steps) (events.declared n name))) e
    same_stmt s t e (Assign at root steps x) = refl
    same_stmt s t e (If at branches) = same_branches s t e branches
    same_stmt s t e (While at test body) =
        ap (λ o. op.Then ∷ (op.Loop ∷ (op.Then ∷ ((plan_of (events.value_events tree locals test) ++ o) ++ plan_of (events.value_events tree locals test))))) (same_block s t e body)
    same_stmt s t e (Return at) = refl
    same_stmt s t e (ReturnWith at x) = refl
    same_stmt s t e (Print at x) = refl
    same_stmt s t e (Task at name ty spawn budget call) =
        ap (λ n. plan_of (Then (events.value_events tree locals budget) (Then (events.call_events tree locals events.BySpawn call) (Do (events.mark (event.Spawn n) spawn))))) e
    same_stmt s t e (AwaitsAlone at name) = refl
    same_stmt s t e (CallsAlone at call) = refl
    same_stmt s t e (Bare at block) = same_block s t e block

    pub same_branches : (s t : events.Around) → s.next ≡ t.next → (x : CoreBranches) → plan_of (events.branch_events tree locals s x) ≡ plan_of (events.branch_events tree locals t x)
    same_branches s t e NoElse = refl
    same_branches s t e (Else block) = same_block s t e block
    same_branches s t e (BranchOf test body rest) =
        ap (λ o. op.Then ∷ (plan_of (events.value_events tree locals test) ++ (op.Either ∷ (o ++ plan_of (events.branch_events tree locals (events.behind_block body s) rest))))) (same_block s t e body)
        ∙ ap (λ o. op.Then ∷ (plan_of (events.value_events tree locals test) ++ (op.Either ∷ (plan_of (events.block_events tree locals t body) ++ o))))
        (same_branches (events.behind_block body s) (events.behind_block body t) (ap (λ n. n + length (in_block body)) e) rest)

    pub same_block : (s t : events.Around) → s.next ≡ t.next → (x : CoreBlock) → plan_of (events.block_events tree locals s x) ≡ plan_of (events.block_events tree locals t x)
    same_block s t e (BlockOf stmts end) =
        ap (λ o. op.Then ∷ (o ++ op.Do (event.ScopeEnd s.next) end ∷ [])) (same_stmts (events.entered stmts s) (events.entered stmts t) e stmts)
        ∙ ap (λ n. op.Then ∷ (plan_of (events.stmts_events tree locals (events.entered stmts t) stmts) ++ op.Do (event.ScopeEnd n) end ∷ [])) e

    pub same_stmts : (s t : events.Around) → s.next ≡ t.next → (x : CoreStmts) → plan_of (events.stmts_events tree locals s x) ≡ plan_of (events.stmts_events tree locals t x)
    same_stmts s t e NoStmts = refl
    same_stmts s t e (StmtOf x rest) =
        ap (λ o. op.Then ∷ (o ++ plan_of (events.stmts_events tree locals (events.behind x s) rest))) (same_stmt s t e x)
        ∙ ap (λ o. op.Then ∷ (plan_of (events.stmt_events tree locals t x) ++ o)) (same_stmts (events.behind x s) (events.behind x t) (ap (λ n. n + length (declared_in x)) e) rest)
