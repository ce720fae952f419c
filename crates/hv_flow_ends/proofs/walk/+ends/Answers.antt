use Rattle.std.proofs.Common.{◌+◌, false, List, ◌++◌, map, refl, sym, ap, ◌∙◌}
use Rattle.std.proofs.lemmas.Result.{on_ok_weaker}
use Rattle.hv_lemmas.proofs.Lists.{nothing_added}
use Rattle.hv_flow_ends.specs.declared.span.Span.{Span}
use Rattle.hv_flow_ends.specs.declared.span.End.{End}
use Rattle.hv_flow_ends.specs.declared.walk.Opened.{Opened}
use Rattle.hv_flow_ends.specs.Ends.{belongs_by}
use Rattle.hv_flow_ends.proofs.Variants as parts
use Rattle.hv_flow_ends.specs.Walked.{ends_of_stmt}
use Rattle.hv_flow_ends.proofs.Walks.{stmts_turn, block_read, if_read}
use Rattle.hv_flow_ends.proofs.walk.+ends.Goals as goal

abbrev opened_with : List Span → List Span → Opened
opened_with back handles = record { back = back; handles = handles }

abbrev end_with : List Span → List Span → End
end_with back handles = record { back = back; handles = handles; missing = false }

pub walk_stmt-returns-in-Var-clause-ends : goal.walk_stmt-returns-in-Var-clause-ends
walk_stmt-returns-in-Var-clause-ends t c = nothing_added (map belongs_by c.args.ends.now) _ (parts.ends_var c.args.next c.args.around.now c.args.stmt.now c.in-Var.field-0 c.in-Var.field-1 c.in-Var.field-2 c.in-Var.is)

pub walk_stmt-returns-in-Let-clause-ends : goal.walk_stmt-returns-in-Let-clause-ends
walk_stmt-returns-in-Let-clause-ends t c = nothing_added (map belongs_by c.args.ends.now) _ (parts.ends_let c.args.next c.args.around.now c.args.stmt.now c.in-Let.field-0 c.in-Let.field-1 c.in-Let.field-2 c.in-Let.is)

pub walk_stmt-returns-in-Inout-clause-ends : goal.walk_stmt-returns-in-Inout-clause-ends
walk_stmt-returns-in-Inout-clause-ends t c = nothing_added (map belongs_by c.args.ends.now) _ (parts.ends_inout c.args.next c.args.around.now c.args.stmt.now c.in-Inout.field-0 c.in-Inout.field-1 c.in-Inout.field-2 c.in-Inout.is)

pub walk_stmt-returns-in-Assign-clause-ends : goal.walk_stmt-returns-in-Assign-clause-ends
walk_stmt-returns-in-Assign-clause-ends t c = nothing_added (map belongs_by c.args.ends.now) _ (parts.ends_assign c.args.next c.args.around.now c.args.stmt.now c.in-Assign.field-0 c.in-Assign.field-1 c.in-Assign.is)

pub walk_stmt-returns-in-Print-clause-ends : goal.walk_stmt-returns-in-Print-clause-ends
walk_stmt-returns-in-Print-clause-ends t c = nothing_added (map belongs_by c.args.ends.now) _ (parts.ends_print c.args.next c.args.around.now c.args.stmt.now c.in-Print.field-0 c.in-Print.is)

pub walk_stmt-returns-in-Task-clause-ends : goal.walk_stmt-returns-in-Task-clause-ends
walk_stmt-returns-in-Task-clause-ends t c = nothing_added (map belongs_by c.args.ends.now) _ (parts.ends_task c.args.next c.args.around.now c.args.stmt.now c.in-Task.field-0 c.in-Task.field-1 c.in-Task.field-2 c.in-Task.field-3 c.in-Task.field-4 c.in-Task.is)

pub walk_stmt-returns-in-Await-clause-ends : goal.walk_stmt-returns-in-Await-clause-ends
walk_stmt-returns-in-Await-clause-ends t c = nothing_added (map belongs_by c.args.ends.now) _ (parts.ends_await c.args.next c.args.around.now c.args.stmt.now c.in-Await.field-0 c.in-Await.is)

pub walk_stmt-returns-in-Call-clause-ends : goal.walk_stmt-returns-in-Call-clause-ends
walk_stmt-returns-in-Call-clause-ends t c = nothing_added (map belongs_by c.args.ends.now) _ (parts.ends_call c.args.next c.args.around.now c.args.stmt.now c.in-Call.field-0 c.in-Call.is)

pub walk_stmt-returns-in_ok-sum-in-If-clause-ends : goal.walk_stmt-returns-in_ok-sum-in-If-clause-ends
walk_stmt-returns-in_ok-sum-in-If-clause-ends t c =
    on_ok_weaker c.walk_else.result
    (λ e. if_read c.args.next c.in_ok-sum-in-If.field-0 c.in_ok-count_tests-in-If.field-0 c.args.around.now c.walk_tests.new.around c.in-If.branches c.as_slice-branches.result.now c.in-If.otherwise (map belongs_by c.args.ends.now) (map belongs_by c.walk_tests.new.ends)
    (map belongs_by c.walk_else.new.ends) _ c.as_slice-branches.ensures (parts.ends_if c.args.next c.args.around.now c.args.stmt.now c.in-If.branches c.in-If.otherwise c.in-If.is) c.in_ok-walk_tests-in-If.ensures.ends
    c.in_ok-walk_tests-in-If.ensures.around c.in_ok-count_tests-in-If.ensures c.in_ok-sum-in-If.ensures e)
    c.walk_else.ensures.ends

pub walk_stmts-loop-stmt-preserved : goal.walk_stmts-loop-stmt-preserved
walk_stmts-loop-stmt-preserved t c =
    let pushed = c.in_ok-push.ensures.ok in
    let inv = c.loop-stmt.invariant in
    let turn = stmts_turn c.loop-stmt.next c.in_ok-next.next c.loop-stmt.around c.pop_block.new.around c.loop-stmt.opened c.in_ok-pop_block.field-0 c.in_ok-opened.opened c.args.stmts.now c.loop-stmt.stmt-index c.stmt-item.result (map belongs_by c.loop-stmt.ends)
    (map belongs_by c.walk_stmt.new.ends) _ _ c.loop-stmt-test.true c.stmt-item.is (sym (c.in_ok-walk_stmt.ensures.around ∙ pushed) ∙ c.in_ok-pop_block.ensures) c.in_ok-opened.ensures.back c.in_ok-opened.ensures.handles
    (c.in_ok-next.ensures ∙ ap (λ k. c.loop-stmt.next + k) c.in_ok-count_stmt.ensures)
    (c.in_ok-walk_stmt.ensures.ends ∙ ap (λ l. map belongs_by c.loop-stmt.ends ++ ends_of_stmt c.loop-stmt.next l c.stmt-item.result) pushed) inv.0 inv.2 in
    (turn.0, turn.1 ∙ inv.1, turn.2, turn.3 ∙ inv.3)

pub walk_block-returns-clause-ends : goal.walk_block-returns-clause-ends
walk_block-returns-clause-ends t c =
    on_ok_weaker c.push.result
    (λ e. block_read c.args.next c.args.around.now (opened_with c.new.result c.in_ok-own_handles.field-0) c.args.block.now c.as_slice-stmts.result.now (map belongs_by c.args.ends.now) c.walk_stmts.new.ends c.push.new.self
    (end_with c.in_ok-back.field-0.back c.in_ok-back.field-0.handles) c.as_slice-stmts.ensures c.new.ensures c.in_ok-own_handles.ensures c.in_ok-back.ensures.ends c.in_ok-back.ensures.back c.in_ok-back.ensures.handles refl e)
    c.push.ensures.ok
