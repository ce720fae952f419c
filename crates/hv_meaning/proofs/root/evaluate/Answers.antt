use Rattle.std.proofs.Common.{◌≡◌, Some, sym, ◌∙◌}
use Rattle.hv_tree.specs.Core.{core_tree}
use Rattle.hv_sem_copying.specs.Meaning as meaning
use Rattle.hv_sem_flat.specs.Programs as flat
use Rattle.hv_meaning.proofs.RootLemmas.{root_node}
use Rattle.hv_meaning.proofs.root.evaluate.Goals as goal

pub returns-in-Some : goal.returns-in-Some
returns-in-Some c =
    let e : flat.root_by (core_tree c.in_ok-program.program) c.args.steps (Some c.in-Some.main) ≡ meaning.node_of (core_tree c.args.tree.now) c.args.steps =
    root_node c.in_ok-program.program c.args.tree.now c.in-Some.main c.args.steps c.in_ok-program.ensures (sym c.in-Some.is ∙ c.main_in.ensures) c.flat_is_copying.ensures in
    rw (← e) c.run_root.ensures
