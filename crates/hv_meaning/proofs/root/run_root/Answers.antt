use Rattle.std.proofs.Common.{◌≡◌, Some}
use Rattle.hv_tree.specs.Core.{core_tree}
use Rattle.hv_sem_copying.specs.Meaning as meaning
use Rattle.hv_sem_flat.specs.Flat.{activations}
use Rattle.hv_sem_flat.specs.Programs as flat
use Rattle.hv_eval_state.specs.Gives.{from}
use Rattle.hv_eval_env.specs.Level.{run_deeper}
use Rattle.hv_meaning.proofs.RootLemmas.{root_run}
use Rattle.hv_meaning.proofs.root.run_root.Goals as goal

pub returns : goal.returns
returns c =
    let tree = core_tree c.args.program.now in
    let e : meaning.node_by c.args.steps (from (run_deeper (activations tree 1000) c.args.main) 0 c.fresh-task.result) ≡ flat.root_by tree c.args.steps (Some c.args.main) =
    root_run tree c.args.main c.args.steps c.fresh-task.result c.fresh-task.ensures in
    rw (← e) (c.node_at.ensures (from (run_deeper (activations tree 1000) c.args.main) 0 c.fresh-task.result) (c.body_at-ended.ensures 0))
