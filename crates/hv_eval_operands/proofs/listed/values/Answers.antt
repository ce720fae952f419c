use Rattle.std.proofs.Common.{rules, [], drop, ◌+◌, sym, ap, ◌∙◌}
use Rattle.hv_partial.specs.HeldTree.{held_tree}
use Rattle.hv_eval_state.specs.Gives.{from}
use Rattle.hv_eval_env.specs.Level.{value_in}
use Rattle.hv_eval_operands.specs.Operands.{trees, values_in}
use Rattle.hv_eval_operands.proofs.OperandLemmas.{values_behind, values_next}
use Rattle.hv_eval_operands.proofs.Runs.{goes, ends, pushed}
use Rattle.hv_eval_operands.proofs.listed.values.Goals as goal

pub returns-in_err-held : goal.returns-in_err-held
returns-in_err-held g c =
    let l = c.args.parts.now.level in
    let left = drop (c.loop-x.x-index + 1) c.args.xs.now in
    ends (value_in l c.x-item.result) (values_behind l (trees c.loop-x.values) left) (values_in l [] c.args.xs.now) (values_in l (trees c.loop-x.values) (drop c.loop-x.x-index c.args.xs.now)) c.args.used c.args.task.now c.loop-x.task c.eval.new.task
    c.loop-x.invariant (values_next l (trees c.loop-x.values) c.args.xs.now c.loop-x.x-index c.x-item.result c.loop-x-test.true c.x-item.is)
    trees c.in_err-held.field-0.0 c.from_residual.result (search rules) c.in_err-held.ensures

pub loop-x-preserved : goal.loop-x-preserved
loop-x-preserved g c =
    let l = c.args.parts.now.level in
    let left = drop (c.loop-x.x-index + 1) c.args.xs.now in
    goes (value_in l c.x-item.result) (values_behind l (trees c.loop-x.values) left) (values_in l [] c.args.xs.now) (values_in l (trees c.loop-x.values) (drop c.loop-x.x-index c.args.xs.now)) c.args.used c.args.task.now c.loop-x.task c.eval.new.task
    c.loop-x.invariant (values_next l (trees c.loop-x.values) c.args.xs.now c.loop-x.x-index c.x-item.result c.loop-x-test.true c.x-item.is)
    (held_tree c.in_ok-held.held) c.in_ok-held.ensures
    ∙ ap (λ vs. from (values_in l vs left) c.args.used c.eval.new.task) (sym (pushed held_tree c.loop-x.values c.push.new.self c.in_ok-held.held c.in_ok-push.ensures.ok))
