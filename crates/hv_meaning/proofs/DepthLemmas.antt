-- Bodies one activation further in.
use Rattle.std.proofs.Common.{◌≡◌, ◌≢◌, ◌-◌, ◌<◌, ℕ, zero, suc, List, length, Option, Some, None, Result, Ok, Err, refl, sym, ap, ◌∙◌, arith}
use Rattle.std.specs.List.{slice_get}
use Rattle.hv_tree.specs.Core.{Core}
use Rattle.hv_decls.specs.Locals.{Local, CoreBody, locals_of}
use Rattle.hv_decls.specs.Sites.{bodies_of}
use Rattle.hv_sem_copying.specs.declared.end.Cause.TheVariants.{Kinds, Tasks}
use Rattle.hv_sem_copying.specs.Run.{Res, Is, Now, Flow, after, ◌>>=◌, and_then, halt, counted_from}
use Rattle.hv_sem_copying.specs.Calls.{Deeper, ended}
use Rattle.hv_sem_copying.specs.Copying.{Locals}
use Rattle.hv_sem_flat.specs.Flat.{block, body_run, body_by, bodies_run, activations}
use Rattle.hv_partial.specs.declared.tree.Held.{Held}
use Rattle.hv_eval_state.specs.declared.task.Task.{Task}
use Rattle.hv_eval_state.specs.declared.task.Halt.{Halt}
use Rattle.hv_eval_state.specs.declared.task.Halt.TheVariants as task_halt
use Rattle.hv_eval_state.specs.Gives.{Gives, from, halted, now_of}
use Rattle.hv_eval_env.specs.Level.{run_deeper, flow_of}

pub no_deeper : (tree : Core) (left f n : ℕ) (t : Task) → left ≡ 0 → from (run_deeper (activations tree left) f) n t ≡ halted (task_halt.Stuck Tasks) t
unfolding halt
no_deeper tree left f n t e = rw e refl

pub deeper : (tree : Core) (left : ℕ) → 0 < left → activations tree left ≡ Some (bodies_run tree (activations tree (left - 1)))
deeper tree zero some = absurd (omega (arith, some))
deeper tree (suc k) some = let e : suc k - 1 ≡ k = omega arith in rw e refl

-- the body with this number
run_same : (tree : Core) (left f n : ℕ) (t : Task) (o : Option CoreBody) → 0 < left → o ≡ slice_get (bodies_of tree) f → from (run_deeper (activations tree left) f) n t ≡ from (body_by tree (activations tree (left - 1)) o) n t
run_same tree left f n t o some e =
    ap (λ d. from (run_deeper d f) n t) (deeper tree left some)
    ∙ ap (λ b. from (body_by tree (activations tree (left - 1)) b) n t) (sym e)

pub no_body : (tree : Core) (left f n : ℕ) (t : Task) → 0 < left → None ≡ slice_get (bodies_of tree) f → from (run_deeper (activations tree left) f) n t ≡ halted (task_halt.Stuck Kinds) t
unfolding halt
no_body tree left f n t some e = run_same tree left f n t None some e

-- the block, and then the end of the body
blocks_end : (tree : Core) (d : Deeper (Unit {0}) Locals) (b : CoreBody) (ls : List Local) (used n : ℕ) (t : Task) → ls ≡ locals_of b → used ≡ length ls →
    from (body_run tree d b) n t ≡ after (from (block tree ls d b.block) used t) (λ r. ended b.result r.1 used (tt {0}) r.0)
unfolding and_then counted_from
blocks_end tree d b ls used n t same size = rw size (rw same refl)

module _ (tree : Core) (left f n used : ℕ) (b : CoreBody) (ls : List Local) (t t' : Task) (some : 0 < left) (found : Some b ≡ slice_get (bodies_of tree) f) (same : ls ≡ locals_of b) (size : used ≡ length ls) where
  runs : from (run_deeper (activations tree left) f) n t ≡ after (from (block tree ls (activations tree (left - 1)) b.block) used t) (λ r. ended b.result r.1 used (tt {0}) r.0)
  runs = run_same tree left f n t (Some b) some found ∙ blocks_end tree (activations tree (left - 1)) b ls used n t same size

  -- the block halts
  pub body_halts : (h : Halt) → Gives flow_of (from (block tree ls (activations tree (left - 1)) b.block) used t) (Err h) t' → Gives flow_of (from (run_deeper (activations tree left) f) n t) (Err h) t'
  body_halts h g = λ other. runs ∙ ap (λ x. after x (λ r. ended b.result r.1 used (tt {0}) r.0)) (g other)

  -- the block leaves a flow, from which the body ends
  pub body_ends : (flow : Option Held) (r : Result (Option Held) Halt) (t'' : Task) → Gives flow_of (from (block tree ls (activations tree (left - 1)) b.block) used t) (Ok flow) t' →
      Gives flow_of (from (ended b.result (flow_of flow)) used t') r t'' → Gives flow_of (from (run_deeper (activations tree left) f) n t) r t''
  body_ends flow r t'' g h =
      let e : from (run_deeper (activations tree left) f) n t ≡ from (ended b.result (flow_of flow)) used t' = runs ∙ ap (λ x. after x (λ y. ended b.result y.1 used (tt {0}) y.0)) g in
      rw e h
