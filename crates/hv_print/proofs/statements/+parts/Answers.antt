use Rattle.std.proofs.Common.{◌≡◌, [], ◌∷◌, ◌++◌, refl, arith}
use Rattle.std.specs.Prelude.{string_bytes}
use Rattle.std.proofs.lemmas.Grind.{common_steps}
use Rattle.hv_print.specs.Texts as texts
use Rattle.hv_print.proofs.Parts as parts
use Rattle.hv_print.proofs.statements.+parts.Goals as goal

pub push_expr-returns-in_ok-push_expr-in-Filled-2 : goal.push_expr-returns-in_ok-push_expr-in-Filled-2
push_expr-returns-in_ok-push_expr-in-Filled-2 t c = rw (parts.expr_filled c.args.depth c.args.x.now c.in-Filled.len c.in-Filled.value c.in-Filled.is) (grind (arith, common_steps))

pub push_expr-returns-in_ok-push_place-in-Count : goal.push_expr-returns-in_ok-push_place-in-Count
push_expr-returns-in_ok-push_place-in-Count t c = rw (parts.expr_count c.args.depth c.args.x.now c.in-Count.path c.in-Count.is) (grind (arith, common_steps))

pub push_expr-returns-in_ok-push_str-in-Prefix : goal.push_expr-returns-in_ok-push_str-in-Prefix
push_expr-returns-in_ok-push_str-in-Prefix t c = rw (parts.expr_prefix c.args.depth c.args.x.now c.in-Prefix.operator c.in-Prefix.operand c.in-Prefix.is) (grind (arith, common_steps))

pub push_expr-returns-in_ok-push_operand-in-Chain : goal.push_expr-returns-in_ok-push_operand-in-Chain
push_expr-returns-in_ok-push_operand-in-Chain t c = rw (parts.expr_chain c.args.depth c.args.x.now c.in-Chain.first c.in-Chain.links c.in-Chain.is) (grind (arith, common_steps))

pub push_place-returns : goal.push_place-returns
push_place-returns t c = rw (parts.place_opened c.args.depth c.args.place.now) (grind (arith, common_steps))

pub push_step-returns-in_ok-push_str-in-Field : goal.push_step-returns-in_ok-push_str-in-Field
push_step-returns-in_ok-push_str-in-Field t c = rw (parts.step_field c.args.depth c.args.step.now c.in-Field.name c.in-Field.is) (grind (arith, common_steps))

pub push_step-returns-in_ok-push_expr-in-Index : goal.push_step-returns-in_ok-push_expr-in-Index
push_step-returns-in_ok-push_expr-in-Index t c = rw (parts.step_index c.args.depth c.args.step.now c.in-Index.field-0 c.in-Index.index c.in-Index.is) (grind (arith, common_steps))

pub push_arg-returns-in_ok-push_str-in-Ref : goal.push_arg-returns-in_ok-push_str-in-Ref
push_arg-returns-in_ok-push_str-in-Ref t c = rw (parts.arg_ref c.args.depth c.args.arg.now c.in-Ref.field-0 c.in-Ref.place c.in-Ref.is) (grind (arith, common_steps))

pub push_call-returns : goal.push_call-returns
push_call-returns t c = rw (parts.call_opened c.args.depth c.args.call.now) (grind (arith, common_steps))

pub push_block-returns : goal.push_block-returns
push_block-returns t c = rw (parts.block_opened c.args.depth c.args.block.now) (grind (arith, common_steps))

pub push_bare-returns : goal.push_bare-returns
push_bare-returns t c = rw (parts.bare_opened c.args.depth c.args.block.now) (grind (arith, common_steps))

pub push_branch-returns : goal.push_branch-returns
push_branch-returns t c = rw (parts.branch_opened c.args.depth c.args.branch.now) (grind (arith, common_steps))

pub push_stmt-returns-in_ok-push_str-in-Assign-2 : goal.push_stmt-returns-in_ok-push_str-in-Assign-2
push_stmt-returns-in_ok-push_str-in-Assign-2 t c = rw (parts.stmt_assign c.args.depth c.args.stmt.now c.in-Assign.place c.in-Assign.value c.in-Assign.is) (grind (arith, common_steps))

pub push_stmt-returns-in_ok-push_branches-in-If : goal.push_stmt-returns-in_ok-push_branches-in-If
push_stmt-returns-in_ok-push_branches-in-If t c = rw (parts.stmt_if c.args.depth c.args.stmt.now c.in-If.branches c.in-If.otherwise c.in-If.is) (grind (arith, common_steps))

pub push_stmt-returns-in_ok-push_expr-in-While : goal.push_stmt-returns-in_ok-push_expr-in-While
push_stmt-returns-in_ok-push_expr-in-While t c = rw (parts.stmt_while c.args.depth c.args.stmt.now c.in-While.test c.in-While.body c.in-While.is) (grind (arith, common_steps))

pub push_stmt-returns-in_ok-push_str-in-Task-3 : goal.push_stmt-returns-in_ok-push_str-in-Task-3
push_stmt-returns-in_ok-push_str-in-Task-3 t c = rw (parts.stmt_task c.args.depth c.args.stmt.now c.in-Task.handle c.in-Task.ty _ c.in-Task.budget c.in-Task.call c.in-Task.is) (grind (arith, common_steps))

pub push_steps-loop-step-preserved : goal.push_steps-loop-step-preserved
push_steps-loop-step-preserved t c =
    parts.extended (string_bytes c.loop-step.out) (string_bytes c.push_step.new.out) _ _ _ _ c.in_ok-push_step.ensures
    (parts.steps_next c.args.depth c.args.steps.now c.loop-step.step-index c.step-item.result c.loop-step-test.true c.step-item.is) c.loop-step.invariant

pub push_args-loop-arg-preserved : goal.push_args-loop-arg-preserved
unfolding lib.Utf8.encode
push_args-loop-arg-preserved t c =
    let added : string_bytes c.push_arg.new.out ≡ string_bytes c.loop-arg.out ++ (c.loop-arg.before.now ++ texts.arg_text c.args.depth c.arg-item.result) = grind (arith, common_steps) in (
      (44 ∷ 32 ∷ [], (refl, refl)),
      parts.extended (string_bytes c.loop-arg.out) (string_bytes c.push_arg.new.out) _ _ _ _ added
          (parts.args_next c.args.depth c.loop-arg.before.now c.args.args.now c.loop-arg.arg-index c.arg-item.result c.loop-arg-test.true c.arg-item.is) c.loop-arg.invariant.1,
    )

pub push_branches-loop-branch-preserved : goal.push_branches-loop-branch-preserved
unfolding lib.Utf8.encode
push_branches-loop-branch-preserved t c =
    let added : string_bytes c.push_branch.new.out ≡ string_bytes c.loop-branch.out ++ (c.loop-branch.before.now ++ texts.branch_text c.args.depth c.branch-item.result) = grind (arith, common_steps) in (
      (32 ∷ 101 ∷ 108 ∷ 115 ∷ 101 ∷ 32 ∷ 105 ∷ 102 ∷ 32 ∷ [], (refl, refl)),
      parts.extended (string_bytes c.loop-branch.out) (string_bytes c.push_branch.new.out) _ _ _ _ added
          (parts.branches_next c.args.depth c.loop-branch.before.now c.args.branches.now c.loop-branch.branch-index c.branch-item.result c.loop-branch-test.true c.branch-item.is) c.loop-branch.invariant.1,
    )
