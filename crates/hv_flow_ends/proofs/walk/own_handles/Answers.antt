use Rattle.std.proofs.Common.{◌++◌, ◌+◌, ap, ◌∙◌, drop}
use Rattle.hv_tree.specs.Core.{core_stmts}
use Rattle.hv_lemmas.proofs.Lists.{extended}
use Rattle.hv_flow_ends.specs.Ends.{numbers_in}
use Rattle.hv_flow_ends.specs.Walked as spec
use Rattle.hv_flow_ends.proofs.Walks.{handles_next}
use Rattle.hv_flow_ends.proofs.walk.own_handles.Goals as goal

pub loop-stmt-preserved : goal.loop-stmt-preserved
loop-stmt-preserved c =
    ap (λ n. numbers_in c.push_handle.new.handles ++ spec.own_handles n (core_stmts (drop (c.loop-stmt.stmt-index + 1) c.args.stmts.now))) (c.in_ok-next.ensures ∙ ap (λ k. c.loop-stmt.next + k) c.in_ok-count_stmt.ensures)
    ∙ extended (numbers_in c.loop-stmt.handles) (numbers_in c.push_handle.new.handles) _ _ _ _ c.in_ok-push_handle.ensures
    (handles_next c.loop-stmt.next c.args.stmts.now c.loop-stmt.stmt-index c.stmt-item.result c.loop-stmt-test.true c.stmt-item.is) c.loop-stmt.invariant
