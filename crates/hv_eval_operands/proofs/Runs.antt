-- A run in two parts, as code does one after the other.
use Rattle.std.proofs.Common.{◌≡◌, ◌≢◌, ℕ, List, [], ◌∷◌, ◌++◌, map, Result, Err, sym, ap, ◌∙◌, subst}
use Rattle.std.proofs.lemmas.List.{map-append}
use Rattle.hv_sem_copying.specs.Run.{Is, after, and_then, ◌>>=◌}
use Rattle.hv_sem_flat.specs.Accesses.{Plain}
use Rattle.hv_eval_state.specs.declared.task.Task.{Task}
use Rattle.hv_eval_state.specs.declared.task.Halt.{Halt}
use Rattle.hv_eval_state.specs.declared.task.Halt.TheVariants as halt
use Rattle.hv_eval_state.specs.Gives.{now_of, from, halted, Gives}

module _ {A B : Type 0} (p : Plain A) (f : A → Plain B) (whole rest : Plain B) (n : ℕ) (s t u : Task) (so : from whole n s ≡ from rest n t) (is : rest ≡ p >>= f) where
  -- the first part gives something, and the other one goes on
  pub goes : (a : A) → from p n t ≡ Is (now_of u, a) → from whole n s ≡ from (f a) n u
  unfolding and_then
  goes a h = so ∙ ap (λ r. from r n t) is ∙ ap (λ x. after x (λ r. f r.1 n tt r.0)) h

  -- and does what that does
  pub hands_on : (a : A) → from p n t ≡ Is (now_of u, a) → {Y : Type 0} (see : Y → B) (result : Result Y Halt) (v : Task) → Gives see (from (f a) n u) result v → Gives see (from whole n s) result v
  hands_on a h see result v k = subst (λ r. Gives see r result v) (sym (goes a h)) k

  -- the first part ends it
  pub ends : {Y : Type 0} (see : Y → B) (h : Halt) (result : Result Y Halt) → result ≡ Err h → (h ≢ halt.NoMemory → from p n t ≡ halted h u) → Gives see (from whole n s) result u
  unfolding and_then
  ends see h result e k = rw e (λ known. so ∙ ap (λ r. from r n t) is ∙ ap (λ x. after x (λ r. f r.1 n tt r.0)) (k known))

-- what is seen of one more
pub pushed : {A B : Type 0} (f : A → B) (was now : List A) (a : A) → now ≡ was ++ a ∷ [] → map f now ≡ map f was ++ f a ∷ []
pushed f was now a h = ap (map f) h ∙ map-append f was (a ∷ [])
