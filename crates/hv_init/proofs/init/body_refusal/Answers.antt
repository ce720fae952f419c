use Rattle.std.proofs.Common.{[], None, drop, ap, ◌∙◌}
use Rattle.hv_tree.specs.Core.{core_tree}
use Rattle.hv_scope.specs.Bodies.{body_by}
use Rattle.hv_init_layout.specs.Laid.{laid}
use Rattle.hv_init.specs.Words.{init_words}
use Rattle.hv_init.proofs.Told.{body_first}
use Rattle.hv_init.proofs.init.body_refusal.Goals as goal

pub returns : goal.returns
returns c = λ sized.
    let tree = core_tree c.args.declared.now in
    let layout = laid c.in_ok-layout.layout in
    let ends = c.in_ok-ends.ends in
    let plan = c.in_ok-plan.plan in
    body_first tree (body_by c.args.body.now) layout ends plan c.in_ok-acts.acts c.in_ok-first.first (c.in_ok-layout.ensures.fits sized (c.as_slice.ensures ∙ c.in_ok-plan.ensures)) (c.in_ok-layout.ensures.follow sized) c.in_ok-plan.ensures (c.in_ok-ends.ensures tree)
    (c.in_ok-acts.ensures ∙ ap (λ es. init_words layout None [] es c.without_entry-words.result.now) c.as_slice-3.ensures ∙ ap (init_words layout None [] ends) (c.without_entry-words.ensures ∙ ap (drop 2) c.as_slice-2.ensures))
    (λ f e. c.in_ok-first.ensures.first f (c.as_slice-4.ensures ∙ e))
