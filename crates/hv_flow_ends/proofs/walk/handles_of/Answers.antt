use Rattle.std.proofs.Common.{◌++◌, ap, ◌∙◌}
use Rattle.hv_lemmas.proofs.Lists.{extended}
use Rattle.hv_flow_ends.specs.Ends.{numbers_in}
use Rattle.hv_flow_ends.proofs.Walks.{more_numbers, handles_left}
use Rattle.hv_flow_ends.proofs.walk.handles_of.Goals as goal

pub loop-opened-preserved : goal.loop-opened-preserved
loop-opened-preserved c =
    extended (numbers_in c.loop-opened.all) (numbers_in c.push_spans.new.spans) _ _ _ _
    (more_numbers c.loop-opened.all c.push_spans.new.spans _ (c.in_ok-push_spans.ensures ∙ ap (λ l. c.loop-opened.all ++ l) c.as_slice.ensures))
    (handles_left c.args.around.now c.loop-opened.opened-index c.opened-item.result c.loop-opened-test.true c.opened-item.is) c.loop-opened.invariant
