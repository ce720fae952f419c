use Rattle.std.proofs.Common.{◌≡◌, rules, refl}
use mir.Syntax.{w64}
use mir.Val.{to_z, of_z}
use Rattle.hv_sem_copying.specs.Run.{◌>>=◌, Is}
use Rattle.hv_sem_copying.specs.Operations.{number, filled_with}
use Rattle.hv_partial.specs.HeldTree.{held_tree}
use Rattle.hv_eval_state.specs.Gives.{now_of, from}
use Rattle.hv_eval_env.specs.Level.{value_in}
use Rattle.hv_eval_operands.specs.Operands.{filled_in}
use Rattle.hv_eval_operands.proofs.Runs.{goes, hands_on}
use Rattle.hv_eval_operands.proofs.filling.filled.Goals as goal

pub returns : goal.returns
returns g c =
    let l = c.args.parts.now.level in
    let whole = filled_in l c.args.at c.args.length.now c.args.value.now in
    let n = held_tree c.in_ok-length.length in
    let w = held_tree c.in_ok-value.value in
    let first = goes (value_in l c.args.length.now) (λ m. value_in l c.args.value.now >>= (λ v. number m >>= filled_with c.args.at v)) whole whole c.args.used c.args.task.now c.args.task.now c.eval.new.task refl refl n c.in_ok-length.ensures in
    let second = goes (value_in l c.args.value.now) (λ v. number n >>= filled_with c.args.at v) whole (value_in l c.args.value.now >>= (λ v. number n >>= filled_with c.args.at v)) c.args.used c.args.task.now c.eval.new.task c.eval-2.new.task first refl w c.in_ok-value.ensures in
    let z = to_z w64 (of_z w64 c.in_ok-n.n) in
    let third : from (number n) c.args.used c.eval-2.new.task ≡ Is (now_of c.eval-2.new.task, z) = search rules in
    hands_on (number n) (filled_with c.args.at w) whole (number n >>= filled_with c.args.at w) c.args.used c.args.task.now c.eval-2.new.task c.eval-2.new.task second refl z third
    held_tree c.fill.result c.fill.new.task (c.fill.ensures c.args.used)
