-- Bodies that are entered, at a level.
use Rattle.std.specs.Prelude.{ℕ, List}
use Rattle.hv_tree.specs.declared.place.Place.{Place}
use Rattle.hv_decls.specs.Locals.{CoreBody}
use Rattle.hv_sem_copying.specs.Run.{Flow}
use Rattle.hv_sem_copying.specs.Ops as ops
use Rattle.hv_sem_copying.specs.Copying.{copying}
use Rattle.hv_sem_copying.specs.Calls.{entered}
use Rattle.hv_sem_flat.specs.Accesses.{Plain}
use Rattle.hv_eval_env.specs.declared.level.Level.{Level}
use Rattle.hv_eval_env.specs.Level.{deeper_in, body_in}

-- a body with so many locals, on what it is entered with
unfoldable pub run_in : Level → ℕ → ℕ → List ops.Passed → Plain Flow
run_in l size f given = copying.call size given (body_in l f)

-- the test of depth and the cost, and then the body
unfoldable pub entered_in : Level → Place → ℕ → CoreBody → List ops.Passed → Plain Flow
entered_in l at f body given = entered copying (deeper_in l) at f body given
