use Rattle.std.proofs.Common.{ap, sym, [], ◌∷◌, ◌+◌, drop, ◌∙◌}
use Rattle.std.proofs.lemmas.List.{map-append}
use Rattle.hv_partial.specs.HeldTree.{held_tree}
use Rattle.hv_eval_state.specs.Gives.{from}
use Rattle.hv_eval_calls.specs.Calling.{parts_in, trees_of}
use Rattle.hv_eval_calls.proofs.CallLemmas.{part_next, part_halted, part_ref, parts_all}
use Rattle.hv_eval_calls.proofs.calls.all_parts.Goals as goal

pub returns : goal.returns
returns g c =
    sym c.loop-arg.invariant
    ∙ parts_all c.args.parts.now.level (trees_of c.loop-arg.values) c.args.args.now c.loop-arg.arg-index c.args.used c.loop-arg.task c.loop-arg-test.false

pub returns-in-Err : goal.returns-in-Err
returns-in-Err g c = λ never.
    sym c.loop-arg.invariant
    ∙ part_halted c.args.parts.now.level (trees_of c.loop-arg.values) c.args.args.now c.loop-arg.arg-index c.arg-item.result c.in-Value.x c.args.used c.loop-arg.task c.eval.new.task c.in-Err.halt
    c.loop-arg-test.true c.arg-item.is c.in-Value.is (c.in-Err.ensures never)

pub returns-in-Ref : goal.returns-in-Ref
returns-in-Ref g c = λ never.
    sym c.loop-arg.invariant
    ∙ part_ref c.args.parts.now.level (trees_of c.loop-arg.values) c.args.args.now c.loop-arg.arg-index c.arg-item.result c.in-Ref.field-0 c.in-Ref.field-1 c.args.used c.loop-arg.task
    c.loop-arg-test.true c.arg-item.is c.in-Ref.is

pub loop-arg-preserved : goal.loop-arg-preserved
loop-arg-preserved g c =
    ap (λ vs. from (parts_in c.args.parts.now.level vs (drop (c.loop-arg.arg-index + 1) c.args.args.now)) c.args.used c.eval.new.task) (ap trees_of c.in_ok-push-in-Ok.ensures.ok ∙ map-append held_tree c.loop-arg.values (c.in-Ok.held ∷ []))
    ∙ part_next c.args.parts.now.level (trees_of c.loop-arg.values) c.args.args.now c.loop-arg.arg-index c.arg-item.result c.in-Value.x (held_tree c.in-Ok.held) c.args.used c.loop-arg.task c.eval.new.task
    c.loop-arg-test.true c.arg-item.is c.in-Value.is c.in-Ok.ensures
    ∙ c.loop-arg.invariant
