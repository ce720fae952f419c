use Rattle.std.proofs.Common.{◌≡◌, ◌++◌, [], ◌∷◌, rules, subst}
use Rattle.hv_value.specs.Texts.{text}
use Rattle.hv_sem_copying.specs.Run.{say}
use Rattle.hv_partial.specs.HeldTree.{held_tree}
use Rattle.hv_eval_state.specs.Gives.{Gives, from, nothing}
use Rattle.hv_eval_state.proofs.compute.print.Goals as goal

pub returns : goal.returns
returns c =
    let e : c.as_slice.result.now ≡ text (held_tree c.args.held.now) ++ 10 ∷ [] = search rules in
    λ n. subst (λ bytes. Gives nothing (from (say bytes) n c.args.task.now) c.say.result c.say.new.task) e (c.say.ensures n)
