-- Captures and lambdas by what their names and blocks are.
use Rattle.std.proofs.Common.{◌≡◌, ℕ, [], List, Some, None, refl, ap}
use Rattle.hv_tree.specs.declared.types.Name.{Name}
use Rattle.hv_tree.specs.Core.{CoreBlock}
use Rattle.hv_decls.specs.Locals.{number_in}
use Rattle.hv_decls.specs.Sites.{bodies_of}
use Rattle.hv_value.specs.ValueTree.{Closure, row}
use Rattle.hv_sem_copying.specs.declared.end.Cause.TheVariants.{Kinds}
use Rattle.hv_sem_copying.specs.Run.{Halted, Stuck, and_then, ◌>>=◌, pure, halt, stuck, known}
use Rattle.hv_sem_copying.specs.Places.{body_number}
use Rattle.hv_sem_flat.specs.Accesses.{look}
use Rattle.hv_sem_flat.specs.Parts.{copied}
use Rattle.hv_eval_state.specs.declared.task.Task.{Task}
use Rattle.hv_eval_state.specs.Gives.{now_of, from}
use Rattle.hv_eval_state.specs.Spots.{copied_there}
use Rattle.hv_eval_env.specs.declared.level.Level.{Level}
use Rattle.hv_eval_env.specs.Level.{tree_in, locals_in}
use Rattle.hv_eval_operands.specs.Operands.{captured_in, capture_in, lambda_in}

pub capture_lacks : (l : Level) (name : Name) (n : ℕ) (task : Task) → number_in (locals_in l) name.text ≡ None → from (capture_in l name) n task ≡ Halted (Stuck Kinds) (now_of task).task
unfolding and_then halt
capture_lacks l name n task h = rw h refl

pub capture_found : (l : Level) (name : Name) (x : ℕ) (n : ℕ) (task : Task) → number_in (locals_in l) name.text ≡ Some x → from (capture_in l name) n task ≡ from (look x [] >>= copied_there name.place) n task
unfolding and_then pure copied_there
capture_found l name x n task h = ap (λ o. from (copied name.place (known Kinds o >>= (λ y. look y []))) n task) h

pub ruleset by_capture = (capture_lacks, capture_found)

pub lambda_lacks : (l : Level) (captures : List Name) (body : CoreBlock) (n : ℕ) (task : Task) → body_number (bodies_of (tree_in l)) body ≡ None → from (lambda_in l captures body) n task ≡ from (captured_in l [] captures >>= (λ vs. stuck Kinds)) n task
unfolding and_then halt
lambda_lacks l captures body n task h = ap (λ o. from (captured_in l [] captures >>= (λ vs. known Kinds o >>= (λ f. pure (Closure f (row vs))))) n task) h

pub lambda_found : (l : Level) (captures : List Name) (body : CoreBlock) (f n : ℕ) (task : Task) → body_number (bodies_of (tree_in l)) body ≡ Some f → from (lambda_in l captures body) n task ≡ from (captured_in l [] captures >>= (λ vs. pure (Closure f (row vs)))) n task
unfolding and_then pure
lambda_found l captures body f n task h = ap (λ o. from (captured_in l [] captures >>= (λ vs. known Kinds o >>= (λ g. pure (Closure g (row vs))))) n task) h

pub ruleset by_number = (lambda_lacks, lambda_found)
