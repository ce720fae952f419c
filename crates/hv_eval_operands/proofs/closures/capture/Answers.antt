use Rattle.std.proofs.Common.{rules, refl, []}
use Rattle.hv_sem_copying.specs.Run.{◌>>=◌}
use Rattle.hv_sem_flat.specs.Accesses.{look}
use Rattle.hv_partial.specs.HeldTree.{held_tree}
use Rattle.hv_eval_state.specs.Spots.{spot_of, copied_there}
use Rattle.hv_eval_operands.specs.Operands.{capture_in}
use Rattle.hv_eval_operands.proofs.CaptureLemmas.{capture_found}
use Rattle.hv_eval_operands.proofs.Runs.{hands_on, ends}
use Rattle.hv_eval_operands.proofs.closures.capture.Goals as goal

pub returns-in_err-spot-in-Some : goal.returns-in_err-spot-in-Some
returns-in_err-spot-in-Some c = λ n.
    let l = c.args.level.now in
    let name = c.args.name.now in
    ends (look c.in-Some.number []) (copied_there name.place) (capture_in l name) (look c.in-Some.number [] >>= copied_there name.place) n c.args.task.now c.args.task.now c.args.task.now
    (capture_found l name c.in-Some.number n c.args.task.now (search rules)) refl held_tree c.in_err-spot-in-Some.field-0.0 c.from_residual.result (search rules) (c.in_err-spot-in-Some.ensures n)

pub returns-in_ok-spot-in-Some : goal.returns-in_ok-spot-in-Some
returns-in_ok-spot-in-Some c = λ n.
    let l = c.args.level.now in
    let name = c.args.name.now in
    hands_on (look c.in-Some.number []) (copied_there name.place) (capture_in l name) (look c.in-Some.number [] >>= copied_there name.place) n c.args.task.now c.args.task.now c.args.task.now
    (capture_found l name c.in-Some.number n c.args.task.now (search rules)) refl (spot_of c.in_ok-spot-in-Some.spot) (c.in_ok-spot-in-Some.ensures n) held_tree c.copy_there.result c.copy_there.new.task (c.copy_there.ensures n)
