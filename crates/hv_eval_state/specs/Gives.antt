-- What a step in code gives, as the meaning has it.
use Rattle.std.specs.Prelude.{◌≡◌, ◌≢◌, ℕ, [], ◌∷◌, map, Result, Ok, Err}
use Rattle.hv_sem_copying.specs.declared.end.Cause.TheVariants.{Tasks}
use Rattle.hv_sem_copying.specs.Run as run
use Rattle.hv_sem_copying.specs.Run.{Res, Is, Halted, Now}
use Rattle.hv_sem_copying.specs.Copying.{Locals}
use Rattle.hv_sem_flat.specs.Accesses.{Plain}
use Rattle.hv_partial.specs.HeldTree.{held_tree}
use Rattle.hv_eval_state.specs.declared.task.Task.{Task}
use Rattle.hv_eval_state.specs.declared.task.Halt.{Halt}
use Rattle.hv_eval_state.specs.declared.task.Halt.TheVariants as halt

-- the root's task, with its locals as trees
abbrev pub now_of : Task → Now Locals
now_of t = record { task = record { id = 0 ∷ []; steps = t.steps; output = t.output; children = [] }; own = record { trees = map held_tree t.locals; handles = [] } }

-- what a run does from here, where n references are in use
abbrev pub from : {A : Type 0} → Plain A → ℕ → Task → Res (Now Locals × A)
from p n t = p n tt (now_of t)

-- nothing is answered
abbrev pub nothing : {A : Type 0} → A → Unit {0}
nothing a = tt

-- an answer that is seen as it is
abbrev pub itself : {A : Type 0} → A → A
itself a = a

-- want of memory stands for nothing
abbrev pub halt_of : Halt → run.Halt
halt_of halt.NoMemory = run.Stuck Tasks
halt_of (halt.Stuck cause) = run.Stuck cause
halt_of (halt.Trap kind at) = run.Trap kind at (0 ∷ [])
halt_of (halt.Spent at) = run.Spent at (0 ∷ [])

abbrev pub halted : {A : Type 0} → Halt → Task → Res A
halted h t = Halted (halt_of h) (now_of t).task

-- the result, seen as that of the meaning, or the halt; nothing is said where memory fails
abbrev pub Gives : {X A : Type 0} → (X → A) → Res (Now Locals × A) → Result X Halt → Task → Type 0
Gives see r (Ok x) t = r ≡ Is (now_of t, see x)
Gives see r (Err h) t = h ≢ halt.NoMemory → r ≡ halted h t
