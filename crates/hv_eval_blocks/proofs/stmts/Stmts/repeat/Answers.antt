use Rattle.std.proofs.Common.{◌≡◌, None, arith, rules}
use Rattle.hv_sem_copying.specs.Run.{Is}
use Rattle.hv_sem_copying.specs.Blocks.{repeated}
use Rattle.hv_eval_state.specs.declared.task.Halt.TheVariants as halt
use Rattle.hv_eval_state.specs.Gives.{now_of, from, halted}
use Rattle.hv_eval_env.specs.Level.{value_in, block_in}
use Rattle.hv_eval_blocks.specs.Runs.{turn}
use Rattle.hv_eval_blocks.proofs.TurnLemmas.{turns_last}
use Rattle.hv_eval_blocks.proofs.stmts.Stmts.repeat.Goals as goal
use Rattle.hv_eval_blocks.proofs.stmts.Stmts.repeat.Goals.{else-loop-made-test, then-loop-made-test+in_ok-turn+in-Again+else-made-most}

pub returns : goal.returns
returns g c =
    let level = c.args.self.now.parts.level in
    let x = value_in level c.args.test.now in
    let body = block_in level c.args.body.now in
    let most = c.args.task.now.steps in
    let made = c.loop-made.made in
    λ never. elim c.loop-made-test.branch [
      | else-loop-made-test w ↦ absurd {A = from (repeated c.args.at x body) c.args.used c.args.task.now ≡ halted (halt.Spent c.args.at) c.loop-made-test.task} (omega (arith, w.loop-made-test.false, c.loop-made.auto.made-end))
      | then-loop-made-test+in_ok-turn+in-Again+else-made-most w ↦
          let again : from (turn c.args.at x body) c.args.used c.loop-made.task ≡ Is (now_of w.turn.new.task, None) = search rules in
          turns_last c.args.at x body c.args.used most made c.loop-made.task c.args.task.now w.turn.new.task c.loop-made-test.task c.loop-made.auto.made-end (omega arith) c.loop-made.invariant again w.task-is
    ]
