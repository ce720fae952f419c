-- The run of a body that is entered.
use Rattle.std.proofs.Common.{◌≡◌, ◌<◌, ℕ, zero, suc, List, [], ◌∷◌, map, length, refl, sym, ap, ◌∙◌, arith}
use Rattle.hv_tree.specs.declared.place.Place.{Place}
use Rattle.hv_tree.specs.Core.{Core}
use Rattle.hv_decls.specs.Locals.{CoreBody, locals_of}
use Rattle.hv_sem_copying.specs.declared.end.TrapKind.TheVariants as trap_kind
use Rattle.hv_sem_copying.specs.Run.{Res, Is, Halted, Now, Trap, Flow, ◌>>=◌, after, and_then, mine, become, pure, trap, pay}
use Rattle.hv_sem_copying.specs.Ops as ops
use Rattle.hv_sem_copying.specs.Copying.{Locals, copying, entering, returned}
use Rattle.hv_sem_copying.specs.Calls.{entered}
use Rattle.hv_sem_flat.specs.Accesses.{Plain}
use Rattle.hv_sem_flat.specs.Flat.{activations}
use Rattle.hv_partial.specs.declared.tree.Held.{Held}
use Rattle.hv_eval_state.specs.declared.task.Task.{Task}
use Rattle.hv_eval_state.specs.declared.task.Halt.{Halt}
use Rattle.hv_eval_state.specs.Gives.{now_of, from, halted}
use Rattle.hv_eval_env.specs.declared.level.Level.{Level}
use Rattle.hv_eval_env.specs.Level.{tree_in, body_in, run_deeper}
use Rattle.hv_eval_calls.specs.declared.passed.Passed.{Passed}
use Rattle.hv_eval_calls.specs.Passes.{passed_by, lent_by, own_by, with_own}
use Rattle.hv_eval_calls.specs.Entered.{run_in, entered_in}
use Rattle.hv_eval_calls.proofs.EntryLemmas.{back_lent}

-- ---- what a call does with the locals

gone_on : (l : Level) (size f : ℕ) (given : List ops.Passed) (n : ℕ) (t begun done : Task) (flow : Flow) →
    now_of begun ≡ with_own (now_of t) (entering (now_of t).own given) → from (body_in l f) n begun ≡ Is (now_of done, flow) →
    from (run_in l size f given) n t ≡ Is (with_own (now_of done) (returned 0 (now_of t).own given (now_of done).own), flow)
unfolding run_in and_then mine become pure
gone_on l size f given n t begun done flow b g = rw (sym b) (rw g refl)

-- where the body goes on, the caller's locals take what they lent
pub called : (l : Level) (size f : ℕ) (given back : List Passed) (locals : List Held) (n : ℕ) (t begun done after : Task) (flow : Flow) →
    now_of begun ≡ with_own (now_of t) (entering (now_of t).own (map passed_by given)) → from (body_in l f) n begun ≡ Is (now_of done, flow) → locals ≡ t.locals → map lent_by back ≡ map lent_by given →
    now_of after ≡ with_own (now_of done) (returned 0 (own_by locals) (map passed_by back) (now_of done).own) →
    from (run_in l size f (map passed_by given)) n t ≡ Is (now_of after, flow)
called l size f given back locals n t begun done after flow b g h k a =
    gone_on l size f (map passed_by given) n t begun done flow b g
    ∙ ap (λ e. give (with_own (now_of done) e) flow) (sym (back_lent 0 (own_by locals) back given (now_of done).own k ∙ ap (λ hs. returned 0 (own_by hs) (map passed_by given) (now_of done).own) h))
    ∙ ap (λ s. give s flow) (sym a)
  where
    give : Now Locals → Flow → Res (Now Locals × Flow)
    give s f = Is (s, f)

-- where the body ends the task, its locals don't show
pub call_halted : (l : Level) (size f : ℕ) (given : List ops.Passed) (n : ℕ) (t begun done : Task) (h : Halt) →
    now_of begun ≡ with_own (now_of t) (entering (now_of t).own given) → from (body_in l f) n begun ≡ halted h done → from (run_in l size f given) n t ≡ halted h done
unfolding run_in and_then mine become pure
call_halted l size f given n t begun done h b g = rw (sym b) (rw g refl)

pub ruleset by_run = (called, call_halted)

-- ---- the test of depth

deep : (tree : Core) (left : ℕ) (at : Place) (f : ℕ) (body : CoreBody) (given : List ops.Passed) → 0 < left →
    entered copying (activations tree left) at f body given ≡ pay 1 at >>= (λ paid. copying.call (length (locals_of body)) given (run_deeper (activations tree left) f))
deep tree zero at f body given h = absurd (omega (arith, h))
deep tree (suc left) at f body given h = refl

-- what is paid, and then the body
pub enters : (l : Level) (at : Place) (f : ℕ) (body : CoreBody) (given : List ops.Passed) (n : ℕ) (t u : Task) → 0 < l.left → from (pay 1 at) n t ≡ Is (now_of u, tt) →
    from (entered_in l at f body given) n t ≡ from (run_in l (length (locals_of body)) f given) n u
unfolding entered_in run_in and_then
enters l at f body given n t u h p =
    ap (λ (r : Plain Flow). from r n t) (deep (tree_in l) l.left at f body given h)
    ∙ ap (λ (r : Res (Now Locals × Unit {0})). after r (λ z. copying.call (length (locals_of body)) given (body_in l f) n tt z.0)) p

pub not_paid : (l : Level) (at : Place) (f : ℕ) (body : CoreBody) (given : List ops.Passed) (n : ℕ) (t u : Task) (h : Halt) → 0 < l.left → from (pay 1 at) n t ≡ halted h u →
    from (entered_in l at f body given) n t ≡ halted h u
unfolding entered_in and_then
not_paid l at f body given n t u h d p =
    ap (λ (r : Plain Flow). from r n t) (deep (tree_in l) l.left at f body given d)
    ∙ ap (λ (r : Res (Now Locals × Unit {0})). after r (λ z. copying.call (length (locals_of body)) given (body_in l f) n tt z.0)) p

pub too_deep : (l : Level) (at : Place) (f : ℕ) (body : CoreBody) (given : List ops.Passed) (n : ℕ) (t : Task) → l.left ≡ 0 →
    from (entered_in l at f body given) n t ≡ Halted (Trap trap_kind.TooDeep at (0 ∷ [])) (now_of t).task
unfolding entered_in trap
too_deep l at f body given n t h = ap (λ k. from (entered copying (activations (tree_in l) k) at f body given) n t) h

pub ruleset by_depth = (enters, not_paid, too_deep)
