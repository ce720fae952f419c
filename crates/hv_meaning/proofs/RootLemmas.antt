-- The root's body is the one that is entered first.
use Rattle.std.proofs.Common.{◌≡◌, ℕ, Option, Some, ap, ◌∙◌, arith}
use Rattle.hv_tree.specs.declared.ast.Tree.{Tree}
use Rattle.hv_tree.specs.Core.{Core, core_tree}
use Rattle.hv_sem_copying.specs.Meaning as meaning
use Rattle.hv_sem_flat.specs.Flat.{activations}
use Rattle.hv_sem_flat.specs.Programs as flat
use Rattle.hv_eval_state.specs.declared.task.Task.{Task}
use Rattle.hv_eval_state.specs.Gives.{from, now_of}
use Rattle.hv_eval_env.specs.Level.{run_deeper}
use Rattle.hv_meaning.proofs.DepthLemmas.{deeper}

pub root_run : (tree : Core) (main steps : ℕ) (t : Task) → now_of t ≡ meaning.start steps → meaning.node_by steps (from (run_deeper (activations tree 1000) main) 0 t) ≡ flat.root_by tree steps (Some main)
root_run tree main steps t e =
    ap (λ d. meaning.node_by steps (run_deeper d main 0 (tt {0}) (now_of t))) (deeper tree 1000 (omega arith))
    ∙ ap (λ s. meaning.node_by steps (flat.run_of tree meaning.below_root main 0 (tt {0}) s)) e

pub root_node : (t u : Tree) (main steps : ℕ) → t ≡ u → Some main ≡ meaning.main_in (core_tree t) → ((tree : Core) (budget : ℕ) → flat.node_of tree budget ≡ meaning.node_of tree budget) →
    flat.root_by (core_tree t) steps (Some main) ≡ meaning.node_of (core_tree u) steps
unfolding flat.node_of
root_node t u main steps same found law =
    ap (flat.root_by (core_tree t) steps) found ∙ ap (λ s. flat.node_of (core_tree s) steps) same ∙ law (core_tree u) steps
