-- Spawns at a level.
use Rattle.std.specs.Prelude.{ℕ, ℤ}
use Rattle.hv_tree.specs.declared.place.Place.{Place}
use Rattle.hv_tree.specs.declared.types.Name.{Name}
use Rattle.hv_tree.specs.declared.ast.Call.{Call}
use Rattle.hv_tree.specs.declared.ast.Expr.{Expr}
use Rattle.hv_sem_copying.specs.Run.{◌>>=◌, pure}
use Rattle.hv_sem_copying.specs.Places.{local}
use Rattle.hv_sem_copying.specs.Operations.{number}
use Rattle.hv_sem_copying.specs.Calls.{Child, spawned}
use Rattle.hv_sem_copying.specs.Copying.{copying}
use Rattle.hv_sem_flat.specs.Accesses.{Plain}
use Rattle.hv_sem_flat.specs.Parts.{Went, Goes}
use Rattle.hv_eval_env.specs.declared.level.Level.{Level}
use Rattle.hv_eval_env.specs.Level.{locals_in, deeper_in, value_in}
use Rattle.hv_eval_calls.specs.Calling.{child_in}

unfoldable pub spawned_in : Level → ℕ → Place → ℤ → Child → Plain (Unit {0})
spawned_in l h word z what = spawned copying (deeper_in l) h word z what

-- the budget, the callee and its arguments, and then the child's handle
unfoldable pub task_in : Level → Name → Place → Expr → Call → Plain Went
task_in l name word budget c =
    value_in l budget >>= (λ k. child_in l c >>= (λ what. number k >>= (λ z. local (locals_in l) name >>= (λ h. spawned_in l h word z what >>= (λ done. pure Goes)))))
