-- Programs: what the root does with so many steps.
use Rattle.std.specs.Prelude.{ℕ, Option, Some, None}
use Rattle.hv_tree.specs.Core.{Core}
use Rattle.hv_sem_copying.specs.Node.{Node}
use Rattle.hv_sem_copying.specs.Run.{Flow}
use Rattle.hv_sem_copying.specs.Meaning.{below_root, start, node_by, main_in}
use Rattle.hv_sem_flat.specs.Accesses.{Plain}
use Rattle.hv_sem_flat.specs.Flat.{bodies_run, activations}

abbrev pub run_of : Core → ℕ → ℕ → Plain Flow
run_of tree depth f = bodies_run tree (activations tree depth) f

abbrev pub root_by : Core → ℕ → Option ℕ → Option Node
root_by tree budget None = None
root_by tree budget (Some f) = node_by budget (run_of tree below_root f 0 tt (start budget))

unfoldable pub node_of : Core → ℕ → Option Node
node_of tree budget = root_by tree budget (main_in tree)
