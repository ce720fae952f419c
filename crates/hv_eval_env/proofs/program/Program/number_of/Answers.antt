use Rattle.std.proofs.Common.{ap, ◌∙◌}
use Rattle.hv_tree.specs.Core.{core_block, end_of}
use Rattle.hv_eval_env.specs.Firsts.{first_place}
use Rattle.hv_eval_env.proofs.PlaceLemmas.{number_at}
use Rattle.hv_eval_env.proofs.program.Program.number_of.Goals as goal

pub returns : goal.returns
returns c =
    c.find.ensures ∙ ap (first_place c.self.inside.ends) c.end_start.ensures
    ∙ number_at c.self.inside.declared c.args.self.now c.self.inside.ends (end_of (core_block c.args.block.now)) c.self.view_is c.self.invariant.1
