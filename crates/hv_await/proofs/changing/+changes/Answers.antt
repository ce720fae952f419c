use Rattle.std.proofs.Common.{◌≡◌, ◌+◌, ◌++◌, drop, length, map, refl, sym, ap, ◌∙◌, arith}
use Rattle.std.proofs.lemmas.Grind.{common_steps}
use Rattle.hv_tree.specs.Core.{core_stmt, core_tree}
use Rattle.hv_decls.specs.Locals.{binds, listed}
use Rattle.hv_scope.specs.Known.{local_by}
use Rattle.hv_scope.specs.Oldest.{oldest}
use Rattle.hv_lemmas.proofs.Lists.{extended, nothing_added}
use Rattle.hv_scope.proofs.OldestLemmas.{oldest_same, oldest_twice}
use Rattle.hv_await.specs.Changing.{changes_in_stmt, changes_in_stmts}
use Rattle.hv_await.proofs.Changes as parts
use Rattle.hv_await.proofs.changing.+changes.Goals as goal

pub judge_stmt-returns-in-Var-clause-found : goal.judge_stmt-returns-in-Var-clause-found
judge_stmt-returns-in-Var-clause-found t c = nothing_added c.args.found.now.items _ (parts.changes_var (core_tree c.args.declared.now) (map local_by c.args.visible.now) c.args.stmt.now c.in-Var.field-0 c.in-Var.field-1 c.in-Var.field-2 c.in-Var.is)

pub judge_stmt-returns-in-Let-clause-found : goal.judge_stmt-returns-in-Let-clause-found
judge_stmt-returns-in-Let-clause-found t c = nothing_added c.args.found.now.items _ (parts.changes_let (core_tree c.args.declared.now) (map local_by c.args.visible.now) c.args.stmt.now c.in-Let.field-0 c.in-Let.field-1 c.in-Let.field-2 c.in-Let.is)

pub judge_stmt-returns-in-Inout-clause-found : goal.judge_stmt-returns-in-Inout-clause-found
judge_stmt-returns-in-Inout-clause-found t c = nothing_added c.args.found.now.items _ (parts.changes_inout (core_tree c.args.declared.now) (map local_by c.args.visible.now) c.args.stmt.now c.in-Inout.field-0 c.in-Inout.field-1 c.in-Inout.field-2 c.in-Inout.is)

pub judge_stmt-returns-in-Assign-clause-found : goal.judge_stmt-returns-in-Assign-clause-found
judge_stmt-returns-in-Assign-clause-found t c = nothing_added c.args.found.now.items _ (parts.changes_assign (core_tree c.args.declared.now) (map local_by c.args.visible.now) c.args.stmt.now c.in-Assign.field-0 c.in-Assign.field-1 c.in-Assign.is)

pub judge_stmt-returns-in-Return-clause-found : goal.judge_stmt-returns-in-Return-clause-found
judge_stmt-returns-in-Return-clause-found t c = nothing_added c.args.found.now.items _ (parts.changes_return (core_tree c.args.declared.now) (map local_by c.args.visible.now) c.args.stmt.now c.in-Return.field-0 c.in-Return.is)

pub judge_stmt-returns-in-Print-clause-found : goal.judge_stmt-returns-in-Print-clause-found
judge_stmt-returns-in-Print-clause-found t c = nothing_added c.args.found.now.items _ (parts.changes_print (core_tree c.args.declared.now) (map local_by c.args.visible.now) c.args.stmt.now c.in-Print.field-0 c.in-Print.is)

pub judge_stmt-returns-in-Await-clause-found : goal.judge_stmt-returns-in-Await-clause-found
judge_stmt-returns-in-Await-clause-found t c = nothing_added c.args.found.now.items _ (parts.changes_await (core_tree c.args.declared.now) (map local_by c.args.visible.now) c.args.stmt.now c.in-Await.field-0 c.in-Await.is)

pub judge_stmt-returns-in-Call-clause-found : goal.judge_stmt-returns-in-Call-clause-found
judge_stmt-returns-in-Call-clause-found t c = nothing_added c.args.found.now.items _ (parts.changes_call (core_tree c.args.declared.now) (map local_by c.args.visible.now) c.args.stmt.now c.in-Call.field-0 c.in-Call.is)

pub judge_stmt-returns-in_ok-judge_tests-in-If-clause-found : goal.judge_stmt-returns-in_ok-judge_tests-in-If-clause-found
judge_stmt-returns-in_ok-judge_tests-in-If-clause-found t c =
    rw (parts.changes_if (core_tree c.args.declared.now) (map local_by c.args.visible.now) c.args.stmt.now c.in-If.branches c.in-If.otherwise c.in-If.is) (grind (arith, common_steps))

pub judge_stmts-loop-stmt-init : goal.judge_stmts-loop-stmt-init
judge_stmts-loop-stmt-init t c = (refl, oldest_same c.args.visible.now)

pub judge_stmts-loop-stmt-preserved : goal.judge_stmts-loop-stmt-preserved
judge_stmts-loop-stmt-preserved t c =
    let tree = core_tree c.args.declared.now in
    let seen = map local_by c.loop-stmt.visible in
    let rest = drop (c.loop-stmt.stmt-index + 1) c.args.stmts.now in
    let same : changes_in_stmts tree (listed (binds (core_stmt c.stmt-item.result)) ++ seen) rest ≡ changes_in_stmts tree (map local_by c.push_bound.new.visible) rest =
    ap (λ v. changes_in_stmts tree v rest) (sym (c.in_ok-push_bound.ensures.seen ∙ ap (λ v. listed (binds (core_stmt c.stmt-item.result)) ++ map local_by v) c.in_ok-judge_stmt.ensures.visible)) in (
      extended c.loop-stmt.found.items c.judge_stmt.new.found.items _ _ _ _ c.in_ok-judge_stmt.ensures.found
          (parts.stmts_next tree seen c.args.stmts.now c.loop-stmt.stmt-index c.stmt-item.result c.loop-stmt-test.true c.stmt-item.is ∙ ap (λ l. changes_in_stmt tree seen c.stmt-item.result ++ l) same) c.loop-stmt.invariant.0,
      oldest_twice c.args.visible.now c.loop-stmt.visible c.push_bound.new.visible (let e = c.in_ok-judge_stmt.ensures.visible in let k = c.in_ok-push_bound.ensures.kept in ap (λ v. oldest (length v) c.push_bound.new.visible) (sym e) ∙ k ∙ e) c.loop-stmt.invariant.1,
    )
