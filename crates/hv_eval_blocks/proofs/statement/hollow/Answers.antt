use Rattle.std.proofs.Common.{◌≡◌, subst, ap, ◌∙◌}
use Rattle.hv_tree.specs.Core.{core_ty, core_tree}
use Rattle.hv_sem_copying.specs.Places.{holes}
use Rattle.hv_sem_flat.specs.Parts.{declared}
use Rattle.hv_partial.specs.HeldTree.{held_tree}
use Rattle.hv_eval_state.specs.Gives.{Gives, from}
use Rattle.hv_eval_env.specs.Level.{tree_in, locals_in}
use Rattle.hv_eval_blocks.specs.Statements.{went_of}
use Rattle.hv_eval_blocks.proofs.statement.hollow.Goals as goal

pub returns : goal.returns
returns c =
    let e : held_tree c.in_ok-held.held ≡ holes (tree_in c.args.level) (core_ty c.args.ty.now) = c.in_ok-held.ensures ∙ ap (λ tree. holes (core_tree tree) (core_ty c.args.ty.now)) c.declared.ensures in
    λ n. subst (λ h. Gives went_of (from (declared (locals_in c.args.level) c.args.name.now h) n c.args.task.now) c.declare.result c.declare.new.task) e (c.declare.ensures n)
