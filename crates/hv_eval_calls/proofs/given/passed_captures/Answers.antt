use Rattle.std.proofs.Common.{rules, ◌∙◌}
use Rattle.hv_partial.specs.declared.tree.Held.TheVariants as held
use Rattle.hv_eval_calls.proofs.ArgumentLemmas.{capture_next}
use Rattle.hv_eval_calls.proofs.given.passed_captures.Goals as goal

pub loop-i-preserved : goal.loop-i-preserved
loop-i-preserved c = (
  capture_next c.loop-i.captures c.replace-held.new.self c.loop-i.passed c.push.new.self c.loop-i.i c.replace-held.result held.Hole (search rules) (search rules) (search rules) ∙ c.loop-i.invariant.0,
  search rules,
)
