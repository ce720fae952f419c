-- Top-level names have no steps.
use Rattle.std.proofs.Common.{◌≡◌, ◌≤◌, ℕ, List, [], ◌∷◌, length, refl, arith}
use Rattle.hv_tree.specs.declared.types.Name.{Name}
use Rattle.hv_tree.specs.declared.ast.Arg.{Arg}
use Rattle.hv_tree.specs.declared.ast.ExprKind.{ExprKind}
use Rattle.hv_tree.specs.declared.ast.StmtKind.{StmtKind}
use Rattle.hv_tree.specs.declared.ast.Block.{Block}
use Rattle.hv_tree.specs.declared.ast.Branch.{Branch}
use Rattle.hv_tree.specs.declared.ast.Call.{Call}
use Rattle.hv_tree.specs.declared.ast.Expr.{Expr}
use Rattle.hv_tree.specs.declared.ast.PlaceExpr.{PlaceExpr}
use Rattle.hv_tree.specs.declared.ast.Stmt.{Stmt}
use Rattle.hv_tree.specs.declared.ast.Step.{Step, out-Step}
use Rattle.hv_tree.specs.declared.ast.Arg.TheOpen.{Step-F}
use Rattle.hv_tree.specs.Core.{Core, CoreSteps, core_step, core_steps}
use Rattle.hv_tree.proofs.CoreLemmas.{by_field, by_index}
use Rattle.hv_sem_copying.specs.declared.end.Cause.TheVariants.{Kinds}
use Rattle.hv_sem_copying.specs.Run.{stuck, halt}
use Rattle.hv_sem_copying.specs.Calls.{Callee, top_callee}
use Rattle.hv_sem_copying.specs.Evaluate.{top_value}
use Rattle.hv_value.specs.ValueTree.{ValueTree}
use Rattle.hv_sem_flat.specs.Accesses.{Plain}
use Rattle.hv_eval_state.specs.declared.task.Task.{Task}
use Rattle.hv_eval_state.specs.declared.task.Halt.TheVariants as task_halt
use Rattle.hv_eval_state.specs.Gives.{from, halted}

-- one layer
abbrev StepLayer : Type 0
StepLayer = Step-F Arg ExprKind Step StmtKind Block Branch Call Expr PlaceExpr Stmt

abbrev value_of : Core → Name → CoreSteps → Plain ValueTree
value_of tree root steps = top_value tree root steps

no_value_by : (tree : Core) (root : Name) (k : Step) (rest : CoreSteps) (o : StepLayer) → out-Step k ≡ o → value_of tree root (core_step k rest) ≡ stuck Kinds
no_value_by tree root k rest (Step-F.Field name) e = rw (by_field k rest name e) refl
no_value_by tree root k rest (Step-F.Index at x) e = rw (by_index k rest at x e) refl

pub no_value_behind : (tree : Core) (root : Name) (steps : List Step) (n : ℕ) (t : Task) → 1 ≤ length steps → from (top_value tree root (core_steps steps)) n t ≡ halted (task_halt.Stuck Kinds) t
unfolding halt
no_value_behind tree root [] n t some = absurd (omega (arith, some))
no_value_behind tree root (k ∷ rest) n t some = rw (no_value_by tree root k (core_steps rest) (out-Step k) refl) refl

abbrev callee_of : Core → Name → CoreSteps → Plain Callee
callee_of tree root steps = top_callee tree root steps

no_callee_by : (tree : Core) (root : Name) (k : Step) (rest : CoreSteps) (o : StepLayer) → out-Step k ≡ o → callee_of tree root (core_step k rest) ≡ stuck Kinds
no_callee_by tree root k rest (Step-F.Field name) e = rw (by_field k rest name e) refl
no_callee_by tree root k rest (Step-F.Index at x) e = rw (by_index k rest at x e) refl

pub no_callee_behind : (tree : Core) (root : Name) (steps : List Step) (n : ℕ) (t : Task) → 1 ≤ length steps → from (top_callee tree root (core_steps steps)) n t ≡ halted (task_halt.Stuck Kinds) t
unfolding halt
no_callee_behind tree root [] n t some = absurd (omega (arith, some))
no_callee_behind tree root (k ∷ rest) n t some = rw (no_callee_by tree root k (core_steps rest) (out-Step k) refl) refl
