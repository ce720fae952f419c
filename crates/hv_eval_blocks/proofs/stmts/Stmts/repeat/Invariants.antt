use Rattle.std.proofs.Common.{◌≡◌, ◌+◌, ◌-◌}
use Rattle.hv_sem_copying.specs.Blocks.{repeated, turns}
use Rattle.hv_eval_state.specs.Gives.{from}
use Rattle.hv_eval_env.specs.Level.{value_in, block_in}
use Rattle.hv_eval_blocks.proofs.stmts.Stmts.repeat.Given as goal

abbrev pub invariant-loop-made : goal.invariant-loop-made
invariant-loop-made g l =
    let level = l.self.parts.level in
    from (turns (l.most + 1 - l.made) l.at (value_in level l.test) (block_in level l.body)) l.used l.task ≡ from (repeated l.at (value_in level l.test) (block_in level l.body)) l.used l.fn.task
