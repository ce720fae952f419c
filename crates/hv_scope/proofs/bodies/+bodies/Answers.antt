use Rattle.std.proofs.Common.{◌≡◌, ◌+◌, ◌++◌, drop, length, map, refl, sym, ap, ◌∙◌, arith}
use Rattle.std.proofs.lemmas.Grind.{common_steps}
use Rattle.hv_tree.specs.Core.{core_stmt, core_stmts}
use Rattle.hv_decls.specs.Locals.{binds, listed}
use Rattle.hv_scope.specs.Known.{local_by}
use Rattle.hv_scope.specs.Oldest.{oldest}
use Rattle.hv_scope.specs.Bodies.{body_by, stmt_bodies, stmts_bodies}
use Rattle.hv_lemmas.proofs.Lists.{extended, nothing_added}
use Rattle.hv_scope.proofs.BodyVariants as parts
use Rattle.hv_scope.proofs.OldestLemmas.{oldest_same, oldest_twice}
use Rattle.hv_scope.proofs.bodies.+bodies.Goals as goal

pub add_args-loop-arg-preserved : goal.add_args-loop-arg-preserved
add_args-loop-arg-preserved t c =
    extended (map body_by c.loop-arg.bodies.items) (map body_by c.add_arg.new.bodies.items) _ _ _ _ c.in_ok-add_arg.ensures
    (parts.args_next (map local_by c.args.visible.now) c.args.args.now c.loop-arg.arg-index c.arg-item.result c.loop-arg-test.true c.arg-item.is) c.loop-arg.invariant

pub add_steps-loop-step-preserved : goal.add_steps-loop-step-preserved
add_steps-loop-step-preserved t c =
    extended (map body_by c.loop-step.bodies.items) (map body_by c.add_step.new.bodies.items) _ _ _ _ c.in_ok-add_step.ensures
    (parts.steps_next (map local_by c.args.visible.now) c.args.steps.now c.loop-step.step-index c.step-item.result c.loop-step-test.true c.step-item.is) c.loop-step.invariant

pub add_call-returns : goal.add_call-returns
add_call-returns t c = rw (parts.call_opened (map local_by c.args.visible.now) c.args.call.now) (grind (arith, common_steps))

pub add_expr-returns-in-Int : goal.add_expr-returns-in-Int
add_expr-returns-in-Int t c = nothing_added (map body_by c.args.bodies.now.items) _ (parts.expr_int (map local_by c.args.visible.now) c.args.x.now c.in-Int.field-0 c.in-Int.is)

pub add_expr-returns-in-Bool : goal.add_expr-returns-in-Bool
add_expr-returns-in-Bool t c = nothing_added (map body_by c.args.bodies.now.items) _ (parts.expr_bool (map local_by c.args.visible.now) c.args.x.now c.in-Bool.field-0 c.in-Bool.is)

pub add_expr-returns-in-Await : goal.add_expr-returns-in-Await
add_expr-returns-in-Await t c = nothing_added (map body_by c.args.bodies.now.items) _ (parts.expr_await (map local_by c.args.visible.now) c.args.x.now c.in-Await.field-0 c.in-Await.is)

pub add_expr-returns-in_ok-add_expr-in-Filled : goal.add_expr-returns-in_ok-add_expr-in-Filled
add_expr-returns-in_ok-add_expr-in-Filled t c = rw (parts.expr_filled (map local_by c.args.visible.now) c.args.x.now c.in-Filled.len c.in-Filled.value c.in-Filled.is) (grind (arith, common_steps))

pub add_expr-returns-in_ok-inner-in-Lambda : goal.add_expr-returns-in_ok-inner-in-Lambda
add_expr-returns-in_ok-inner-in-Lambda t c =
    rw (parts.expr_lambda (map local_by c.args.visible.now) c.args.x.now c.in-Lambda.captures c.in-Lambda.params c.in-Lambda.returned c.in-Lambda.body c.in-Lambda.is) (grind (arith, common_steps))

pub add_expr-returns-in_ok-add_expr-in-Chain : goal.add_expr-returns-in_ok-add_expr-in-Chain
add_expr-returns-in_ok-add_expr-in-Chain t c = rw (parts.expr_chain (map local_by c.args.visible.now) c.args.x.now c.in-Chain.first c.in-Chain.links c.in-Chain.is) (grind (arith, common_steps))

pub add_step-returns-in-Field : goal.add_step-returns-in-Field
add_step-returns-in-Field t c = nothing_added (map body_by c.args.bodies.now.items) _ (parts.step_field (map local_by c.args.visible.now) c.args.step.now c.in-Field.field-0 c.in-Field.is)

pub add_stmt-returns-in_ok-add_steps-in-Assign-clause-bodies : goal.add_stmt-returns-in_ok-add_steps-in-Assign-clause-bodies
add_stmt-returns-in_ok-add_steps-in-Assign-clause-bodies t c =
    rw (parts.stmt_assign (map local_by c.args.visible.now) c.args.stmt.now c.in-Assign.place c.in-Assign.value c.in-Assign.is) (grind (arith, common_steps))

pub add_stmt-returns-in_ok-add_tests-in-If-clause-bodies : goal.add_stmt-returns-in_ok-add_tests-in-If-clause-bodies
add_stmt-returns-in_ok-add_tests-in-If-clause-bodies t c =
    rw (parts.stmt_if (map local_by c.args.visible.now) c.args.stmt.now c.in-If.branches c.in-If.otherwise c.in-If.is) (grind (arith, common_steps))

pub add_stmt-returns-in_ok-add_expr-in-While-clause-bodies : goal.add_stmt-returns-in_ok-add_expr-in-While-clause-bodies
add_stmt-returns-in_ok-add_expr-in-While-clause-bodies t c =
    rw (parts.stmt_while (map local_by c.args.visible.now) c.args.stmt.now c.in-While.test c.in-While.body c.in-While.is) (grind (arith, common_steps))

pub add_stmt-returns-in_ok-add_expr-in-Task-clause-bodies : goal.add_stmt-returns-in_ok-add_expr-in-Task-clause-bodies
add_stmt-returns-in_ok-add_expr-in-Task-clause-bodies t c =
    rw (parts.stmt_task (map local_by c.args.visible.now) c.args.stmt.now _ _ _ c.in-Task.budget c.in-Task.call c.in-Task.is) (grind (arith, common_steps))

pub add_stmt-returns-in-Await-clause-bodies : goal.add_stmt-returns-in-Await-clause-bodies
add_stmt-returns-in-Await-clause-bodies t c = nothing_added (map body_by c.args.bodies.now.items) _ (parts.stmt_await (map local_by c.args.visible.now) c.args.stmt.now c.in-Await.field-0 c.in-Await.is)

pub add_stmts-loop-stmt-init : goal.add_stmts-loop-stmt-init
add_stmts-loop-stmt-init t c = (refl, oldest_same c.args.visible.now)

pub add_stmts-loop-stmt-preserved : goal.add_stmts-loop-stmt-preserved
add_stmts-loop-stmt-preserved t c =
    let seen = map local_by c.loop-stmt.visible in
    let behind = stmts_bodies (listed (binds (core_stmt c.stmt-item.result)) ++ seen) (core_stmts (drop (c.loop-stmt.stmt-index + 1) c.args.stmts.now)) in
    let same : behind ≡ stmts_bodies (map local_by c.push_bound.new.visible) (core_stmts (drop (c.loop-stmt.stmt-index + 1) c.args.stmts.now)) =
    ap (λ v. stmts_bodies v (core_stmts (drop (c.loop-stmt.stmt-index + 1) c.args.stmts.now)))
    (sym (c.in_ok-push_bound.ensures.seen ∙ ap (λ v. listed (binds (core_stmt c.stmt-item.result)) ++ map local_by v) c.in_ok-add_stmt.ensures.visible)) in (
      extended (map body_by c.loop-stmt.bodies.items) (map body_by c.add_stmt.new.bodies.items) _ _ _ _ c.in_ok-add_stmt.ensures.bodies
          (parts.stmts_next seen c.args.stmts.now c.loop-stmt.stmt-index c.stmt-item.result c.loop-stmt-test.true c.stmt-item.is ∙ ap (λ l. stmt_bodies seen (core_stmt c.stmt-item.result) ++ l) same) c.loop-stmt.invariant.0,
      oldest_twice c.args.visible.now c.loop-stmt.visible c.push_bound.new.visible (let e = c.in_ok-add_stmt.ensures.visible in let k = c.in_ok-push_bound.ensures.kept in ap (λ v. oldest (length v) c.push_bound.new.visible) (sym e) ∙ k ∙ e) c.loop-stmt.invariant.1,
    )
