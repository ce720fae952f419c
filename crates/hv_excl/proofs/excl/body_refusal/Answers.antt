use Rattle.std.proofs.Common.{[], None, ap, ◌∙◌}
use Rattle.hv_excl.specs.Judged.{judged}
use Rattle.hv_excl.proofs.Firsts.{body_first}
use Rattle.hv_excl.proofs.excl.body_refusal.Goals as goal

pub returns : goal.returns
returns c = record {
  first = λ tree h. body_first tree c.args.planned.now c.in_ok-acts.acts c.in_ok-first.first h (c.in_ok-acts.ensures ∙ ap (judged None []) c.as_slice.ensures) (λ f e. c.in_ok-first.ensures.first f (c.as_slice-2.ensures ∙ e));
}
