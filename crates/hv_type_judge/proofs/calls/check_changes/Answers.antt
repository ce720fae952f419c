use Rattle.std.proofs.Common.{◌++◌, ◌+◌, drop, sym, ap, ◌∙◌}
use Rattle.hv_type_synth.specs.Held.{wants_by}
use Rattle.hv_type_judge.specs.Seen as seen
use Rattle.hv_lemmas.proofs.Lists.{extended}
use Rattle.hv_type_judge.proofs.Args.{next_t7}
use Rattle.hv_type_judge.proofs.calls.check_changes.Goals as goal

pub loop-arg-preserved : goal.loop-arg-preserved
loop-arg-preserved c =
    ap (λ ws. c.check_change.new.found.items ++ seen.arg_t7 c.args.around.now ws (drop (c.loop-arg.arg-index + 1) c.args.args.now)) c.others-left.ensures
    ∙ extended c.loop-arg.found.items c.check_change.new.found.items _ _ _ _
    (c.in_ok-check_change.ensures ∙ ap (λ ws. c.loop-arg.found.items ++ seen.this_t7 c.args.around.now ws c.arg-item.result) c.next_wanted.ensures)
    (next_t7 c.args.around.now c.args.args.now c.loop-arg.arg-index c.arg-item.result c.loop-arg-test.true c.arg-item.is (wants_by c.loop-arg.left)) c.loop-arg.invariant
