-- A run in two steps, as code goes through it.
use Rattle.std.proofs.Common.{◌≡◌, ℕ, ap}
use Rattle.hv_sem_copying.specs.Run.{Res, Is, Now, after, and_then, ◌>>=◌}
use Rattle.hv_sem_copying.specs.Copying.{Locals}
use Rattle.hv_sem_flat.specs.Accesses.{Plain}
use Rattle.hv_eval_state.specs.declared.task.Task.{Task}
use Rattle.hv_eval_state.specs.declared.task.Halt.{Halt}
use Rattle.hv_eval_state.specs.Gives.{now_of, from, halted}

-- the first step gives something, and the other one goes on
pub step_on : {A B : Type 0} (p : Plain A) (f : A → Plain B) (n : ℕ) (t u : Task) (a : A) → from p n t ≡ Is (now_of u, a) → from (p >>= f) n t ≡ from (f a) n u
unfolding and_then
step_on p f n t u a e = ap (λ x. after x (λ r. f r.1 n tt r.0)) e

-- the first step halts
pub step_off : {A B : Type 0} (p : Plain A) (f : A → Plain B) (n : ℕ) (t u : Task) (h : Halt) → from p n t ≡ halted h u → from (p >>= f) n t ≡ halted h u
unfolding and_then
step_off p f n t u h e = ap (λ x. after x (λ r. f r.1 n tt r.0)) e

pub ruleset in_order = (step_on, step_off)
