use Rattle.std.proofs.Common.{◌≡◌, rules, false, drop, ◌+◌}
use Rattle.hv_value.specs.Operators.{decides}
use Rattle.hv_partial.specs.HeldTree.{held_tree}
use Rattle.hv_eval_operands.specs.Operands.{chained_in, operated}
use Rattle.hv_eval_operands.proofs.OperandLemmas.{chain_next}
use Rattle.hv_eval_operands.proofs.Runs.{goes, ends}
use Rattle.hv_eval_operands.proofs.chains.chained.Goals as goal

pub returns-in_err-held : goal.returns-in_err-held
returns-in_err-held g c =
    let l = c.args.parts.now.level in
    let w = held_tree c.loop-link.held in
    let undecided : decides c.link-item.result.0 w ≡ false = search rules in
    ends (operated l w c.link-item.result) (chained_in l (drop (c.loop-link.link-index + 1) c.args.links.now)) (chained_in l c.args.links.now (held_tree c.args.first)) (chained_in l (drop c.loop-link.link-index c.args.links.now) w) c.args.used c.args.task.now c.loop-link.task c.operate.new.task
    c.loop-link.invariant (chain_next l w c.args.links.now c.loop-link.link-index c.link-item.result c.loop-link-test.true c.link-item.is undecided)
    held_tree c.in_err-held.field-0.0 c.from_residual.result (search rules) c.in_err-held.ensures

pub loop-link-preserved : goal.loop-link-preserved
loop-link-preserved g c =
    let l = c.args.parts.now.level in
    let w = held_tree c.loop-link.held in
    let undecided : decides c.link-item.result.0 w ≡ false = search rules in
    goes (operated l w c.link-item.result) (chained_in l (drop (c.loop-link.link-index + 1) c.args.links.now)) (chained_in l c.args.links.now (held_tree c.args.first)) (chained_in l (drop c.loop-link.link-index c.args.links.now) w) c.args.used c.args.task.now c.loop-link.task c.operate.new.task
    c.loop-link.invariant (chain_next l w c.args.links.now c.loop-link.link-index c.link-item.result c.loop-link-test.true c.link-item.is undecided)
    (held_tree c.in_ok-held.held) c.in_ok-held.ensures
