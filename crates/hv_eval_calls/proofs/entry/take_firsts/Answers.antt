use Rattle.std.proofs.Common.{rules, ◌∙◌}
use Rattle.hv_eval_calls.proofs.EntryLemmas.{first_next}
use Rattle.hv_eval_calls.proofs.entry.take_firsts.Goals as goal

pub loop-i-preserved : goal.loop-i-preserved
loop-i-preserved c = (
  first_next c.args.locals.now c.loop-i.firsts c.push.new.self c.loop-i.given c.take_first.new.given c.loop-i.i c.in_ok-first.first (search rules) (search rules) (search rules) ∙ c.loop-i.invariant.0,
  search rules,
  search rules,
)
