-- Spawns, as code goes through them.
use Rattle.std.proofs.Common.{◌≡◌, ◌≢◌, ◌+◌, ℕ, zero, suc, ℤ, pos, negsuc, [], ◌∷◌, length, Some, None, Result, Err, refl, sym, ap, ◌∙◌, arith}
use Rattle.hv_tree.specs.declared.place.Place.{Place}
use Rattle.hv_sem_copying.specs.declared.end.TrapKind.TheVariants as trap_kind
use Rattle.hv_sem_copying.specs.declared.end.Cause.TheVariants.{Tasks}
use Rattle.hv_sem_copying.specs.Run.{Is, Halted, Trap, Stuck, ◌>>=◌, pure, stuck, trap, pay}
use Rattle.hv_sem_copying.specs.Run as run
use Rattle.hv_sem_copying.specs.Calls.{Deeper, if_deeper, Child, budget_of}
use Rattle.hv_sem_copying.specs.Copying.{Locals, copying}
use Rattle.hv_decls.specs.Locals.{locals_of}
use Rattle.hv_sem_flat.specs.Accesses.{Plain}
use Rattle.hv_sem_flat.specs.Flat.{activations}
use Rattle.hv_eval_state.specs.declared.task.Task.{Task}
use Rattle.hv_eval_state.specs.declared.task.Halt.{Halt}
use Rattle.hv_eval_state.specs.declared.task.Halt.TheVariants as halt
use Rattle.hv_eval_state.specs.Gives.{Gives, now_of, from, nothing, halted}
use Rattle.hv_eval_env.specs.declared.level.Level.{Level}
use Rattle.hv_eval_env.specs.Level.{tree_in, deeper_in}
use Rattle.hv_eval_blocks.specs.Spawns.{spawned_in}
use Rattle.hv_eval_blocks.proofs.Sequence.{step_on, step_off}

-- ---- budgets

module _ (word : Place) (z : ℤ) (n : ℕ) (t : Task) where
  pub funded_negative : (k : ℕ) → z ≡ negsuc k → from (budget_of word z) n t ≡ Halted (Trap trap_kind.BadBudget word (0 ∷ [])) (now_of t).task
  unfolding trap
  funded_negative k e = ap (λ y. from (budget_of word y) n t) e

  pub funded_zero : (k : ℕ) → z ≡ pos k → k ≡ 0 → from (budget_of word z) n t ≡ Halted (Trap trap_kind.BadBudget word (0 ∷ [])) (now_of t).task
  unfolding trap
  funded_zero k e h = ap (λ y. from (budget_of word y) n t) (e ∙ ap pos h)

  funded_by : (k : ℕ) → k ≢ 0 → from (budget_of word (pos k)) n t ≡ Is (now_of t, k)
  unfolding pure
  funded_by zero h = absurd (h refl)
  funded_by (suc k) h = refl

  pub funded_is : (k : ℕ) → z ≡ pos k → k ≢ 0 → from (budget_of word z) n t ≡ Is (now_of t, k)
  funded_is k e h = ap (λ y. from (budget_of word y) n t) e ∙ funded_by k h

pub ruleset by_budget = (funded_negative, funded_zero, funded_is)

-- ---- orders

module _ (l : Level) (h : ℕ) (word : Place) (z : ℤ) (what : Child) (n : ℕ) (t : Task) where
  pub order_unfunded : (u : Task) (how : Halt) (result : Result (Unit {0}) Halt) → result ≡ Err how → (how ≢ halt.NoMemory → from (budget_of word z) n t ≡ halted how u) → Gives nothing (from (spawned_in l h word z what) n t) result u
  unfolding spawned_in
  order_unfunded u how result e k = rw e (λ known. step_off (budget_of word z) (λ k. if_deeper (deeper_in l) word (λ run. pay (1 + k) word >>= (λ paid. copying.spawn h k (length (locals_of what.body)) what.given (run what.number)))) n t u how (k known))

  module _ (k : ℕ) (funded : from (budget_of word z) n t ≡ Is (now_of t, k)) where
    ordered : Deeper (Unit {0}) Locals → Plain (Unit {0})
    ordered d = if_deeper d word (λ run. pay (1 + k) word >>= (λ paid. stuck Tasks))

    funded_order : from (spawned_in l h word z what) n t ≡ from (ordered (deeper_in l)) n t
    unfolding spawned_in ordered
    funded_order = step_on (budget_of word z) (λ k. if_deeper (deeper_in l) word (λ run. pay (1 + k) word >>= (λ paid. copying.spawn h k (length (locals_of what.body)) what.given (run what.number)))) n t t k funded ∙ go (deeper_in l)
      where
        go : (d : Deeper (Unit {0}) Locals) → from (if_deeper d word (λ run. pay (1 + k) word >>= (λ paid. copying.spawn h k (length (locals_of what.body)) what.given (run what.number)))) n t ≡ from (if_deeper d word (λ run. pay (1 + k) word >>= (λ paid. stuck Tasks))) n t
        go None = refl
        go (Some run) = refl

    pub order_deep : l.left ≡ 0 → from (spawned_in l h word z what) n t ≡ Halted (Trap trap_kind.TooDeep word (0 ∷ [])) (now_of t).task
    unfolding ordered trap
    order_deep e = funded_order ∙ ap (λ m. from (ordered (activations (tree_in l) m)) n t) e

    nested : (m : ℕ) → m ≢ 0 → ordered (activations (tree_in l) m) ≡ pay (1 + k) word >>= (λ paid. stuck Tasks)
    unfolding ordered
    nested zero f = absurd (f refl)
    nested (suc m) f = refl

    paid_order : (cost : ℕ) → l.left ≢ 0 → cost ≡ k + 1 → from (spawned_in l h word z what) n t ≡ from (pay cost word >>= (λ paid. stuck Tasks)) n t
    paid_order cost f e =
        let c : 1 + k ≡ cost = omega (arith, e) in
        funded_order ∙ ap (λ p. from p n t) (nested l.left f) ∙ ap (λ m. from (pay m word >>= (λ paid. stuck Tasks)) n t) c

    pub order_spent : (cost : ℕ) (u : Task) (how : Halt) (result : Result (Unit {0}) Halt) → l.left ≢ 0 → cost ≡ k + 1 → result ≡ Err how → (how ≢ halt.NoMemory → from (pay cost word) n t ≡ halted how u) → Gives nothing (from (spawned_in l h word z what) n t) result u
    order_spent cost u how result f e is p = rw is (λ known. paid_order cost f e ∙ step_off (pay cost word) (λ paid. stuck Tasks) n t u how (p known))

    pub order_over : (cost : ℕ) (u : Task) → l.left ≢ 0 → cost ≡ k + 1 → from (pay cost word) n t ≡ Is (now_of u, tt) → from (spawned_in l h word z what) n t ≡ Halted (Stuck Tasks) (now_of u).task
    unfolding run.halt
    order_over cost u f e p = paid_order cost f e ∙ step_on (pay cost word) (λ paid. stuck Tasks) n t u tt p
