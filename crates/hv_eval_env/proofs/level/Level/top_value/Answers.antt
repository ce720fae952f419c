use Rattle.hv_eval_env.specs.Level.{tree_in}
use Rattle.hv_eval_env.proofs.NameLemmas.{no_value_behind}
use Rattle.hv_eval_env.proofs.level.Level.top_value.Goals as goal

pub returns-in-len1-up : goal.returns-in-len1-up
returns-in-len1-up c = λ n other. no_value_behind (tree_in c.args.self.now) c.args.root.now c.args.steps.now n c.args.task.now c.in-len1-up.len_at_least
