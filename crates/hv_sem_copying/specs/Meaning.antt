-- The meaning of a program: what its root does with so many steps.
use Rattle.std.specs.Prelude.{◌≡◌, ℕ, ◌-◌, true, [], ◌∷◌, Option, Some, None, option_and_then, is_some, codes}
use Rattle.hv_tree.specs.Core.{Core}
use Rattle.hv_decls.specs.Types.{fun_in}
use Rattle.hv_decls.specs.Sites.{bodies_of}
use Rattle.hv_sem_copying.specs.Node.{Id, End, Done, Trapped, SpentAt, Node, NodeOf, nodes}
use Rattle.hv_sem_copying.specs.Run.{Task, Res, Is, Halted, Trap, Spent, Stuck, Now, Run, Flow}
use Rattle.hv_sem_copying.specs.Places.{body_number}
use Rattle.hv_sem_copying.specs.Calls.{result_of}
use Rattle.hv_sem_copying.specs.Evaluate.{bodies_run, activations}
use Rattle.hv_sem_copying.specs.Copying.{Locals, copying}

-- so many activations may be open at once
abbrev pub most_depth : ℕ
most_depth = 1000

-- those that may be entered from the root's own
abbrev pub below_root : ℕ
below_root = most_depth - 1

-- a task that begins
abbrev pub fresh : Id → ℕ → Task
fresh id budget = record { id = id; steps = budget; output = []; children = [] }

abbrev pub start : ℕ → Now Locals
start budget = record { task = fresh (0 ∷ []) budget; own = record { trees = []; handles = [] } }

-- what a task that began with this budget has done
abbrev pub node : ℕ → End → Task → Node
node budget end t = NodeOf t.id (budget - t.steps) end t.output (nodes t.children)

abbrev pub node_by : ℕ → Res (Now Locals × Flow) → Option Node
node_by budget (Is r) = Some (node budget (Done (result_of r.1)) r.0.task)
node_by budget (Halted (Trap kind at id) t) = Some (node budget (Trapped kind at id) t)
node_by budget (Halted (Spent at id) t) = Some (node budget (SpentAt at id) t)
node_by budget (Halted (Stuck cause) w) = None

-- a body where so many further activations may be entered
abbrev pub run_of : Core → ℕ → ℕ → Run (Unit {0}) Locals Flow
run_of tree depth f = bodies_run copying tree (activations copying tree depth) f

abbrev pub main_in : Core → Option ℕ
main_in tree = option_and_then (λ f. body_number (bodies_of tree) f.body) (fun_in tree.decls (codes "main"))

-- the root pays nothing for being entered
abbrev pub root_by : Core → ℕ → Option ℕ → Option Node
root_by tree budget None = None
root_by tree budget (Some f) = node_by budget (run_of tree below_root f 0 tt (start budget))

-- the root's node; none where the program comes to what there is no rule for
unfoldable pub node_of : Core → ℕ → Option Node
node_of tree budget = root_by tree budget (main_in tree)

-- no budget leads to where there is no rule
pub record IsSafe (tree : Core) : Type 0 where
  pub never_stuck : (budget : ℕ) → is_some (node_of tree budget) ≡ true
