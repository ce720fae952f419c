use Rattle.std.proofs.Common.{rules, [], drop, ◌+◌, sym, ap, ◌∙◌}
use Rattle.hv_partial.specs.HeldTree.{held_tree}
use Rattle.hv_eval_state.specs.Gives.{from}
use Rattle.hv_eval_operands.specs.Operands.{trees, captured_in, capture_in}
use Rattle.hv_eval_operands.proofs.OperandLemmas.{captured_behind, captured_next}
use Rattle.hv_eval_operands.proofs.Runs.{goes, ends, pushed}
use Rattle.hv_eval_operands.proofs.closures.captured.Goals as goal

pub returns-in_err-held : goal.returns-in_err-held
returns-in_err-held c = λ n.
    let l = c.args.level.now in
    let left = drop (c.loop-name.name-index + 1) c.args.names.now in
    ends (capture_in l c.name-item.result) (captured_behind l (trees c.loop-name.captures) left) (captured_in l [] c.args.names.now) (captured_in l (trees c.loop-name.captures) (drop c.loop-name.name-index c.args.names.now)) n c.args.task.now c.loop-name.task c.capture.new.task
    (c.loop-name.invariant n) (captured_next l (trees c.loop-name.captures) c.args.names.now c.loop-name.name-index c.name-item.result c.loop-name-test.true c.name-item.is)
    trees c.in_err-held.field-0.0 c.from_residual.result (search rules) (c.in_err-held.ensures n)

pub loop-name-preserved : goal.loop-name-preserved
loop-name-preserved c = λ n.
    let l = c.args.level.now in
    let left = drop (c.loop-name.name-index + 1) c.args.names.now in
    goes (capture_in l c.name-item.result) (captured_behind l (trees c.loop-name.captures) left) (captured_in l [] c.args.names.now) (captured_in l (trees c.loop-name.captures) (drop c.loop-name.name-index c.args.names.now)) n c.args.task.now c.loop-name.task c.capture.new.task
    (c.loop-name.invariant n) (captured_next l (trees c.loop-name.captures) c.args.names.now c.loop-name.name-index c.name-item.result c.loop-name-test.true c.name-item.is)
    (held_tree c.in_ok-held.held) (c.in_ok-held.ensures n)
    ∙ ap (λ vs. from (captured_in l vs left) n c.capture.new.task) (sym (pushed held_tree c.loop-name.captures c.push.new.self c.in_ok-held.held c.in_ok-push.ensures.ok))
