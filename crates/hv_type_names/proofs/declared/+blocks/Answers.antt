use Rattle.std.proofs.Common.{None, arith}
use Rattle.hv_tree.specs.declared.ast.Branch.{out-Branch}
use Rattle.hv_tree.specs.Core.{core_stmt, core_block, core_branches}
use Rattle.std.proofs.lemmas.Grind.{common_steps}
use Rattle.hv_type_names.specs.Found as spec
use Rattle.hv_type_names.proofs.Declaring.{turn_found, turn_known, stmts_next, branches_next, inner_if, locals_append, texts_append}
use Rattle.hv_type_names.proofs.declared.+blocks.Goals as goal

pub declare_stmts-loop-stmt-preserved : goal.declare_stmts-loop-stmt-preserved
declare_stmts-loop-stmt-preserved t c =
    let next = stmts_next c.args.stmts.now c.loop-stmt.stmt-index c.stmt-item.result c.loop-stmt-test.true c.stmt-item.is in
    let piece = spec.stmt_names (core_stmt c.stmt-item.result) in (
      turn_found c.args.program.now c.loop-stmt.known c.declare_stmt.new.known piece _ _ c.loop-stmt.found.items c.declare_stmt.new.found.items _ c.in_ok-declare_stmt.ensures.found c.in_ok-declare_stmt.ensures.known next
          c.loop-stmt.invariant.0,
      turn_known c.loop-stmt.known c.declare_stmt.new.known _ piece _ _ c.in_ok-declare_stmt.ensures.known next c.loop-stmt.invariant.1,
    )

pub declare_branches-loop-branch-preserved : goal.declare_branches-loop-branch-preserved
declare_branches-loop-branch-preserved t c =
    let next = branches_next c.args.branches.now c.loop-branch.branch-index c.branch-item.result c.loop-branch-test.true c.branch-item.is in
    let piece = spec.block_names (core_block (out-Branch c.branch-item.result).body) in (
      turn_found c.args.program.now c.loop-branch.known c.declare_block.new.known piece _ _ c.loop-branch.found.items c.declare_block.new.found.items _ c.in_ok-declare_block.ensures.found c.in_ok-declare_block.ensures.known next
          c.loop-branch.invariant.0,
      turn_known c.loop-branch.known c.declare_block.new.known _ piece _ _ c.in_ok-declare_block.ensures.known next c.loop-branch.invariant.1,
    )

pub declare_inner-returns-in_ok-declare_branches-in-If-clause-found : goal.declare_inner-returns-in_ok-declare_branches-in-If-clause-found
declare_inner-returns-in_ok-declare_branches-in-If-clause-found t c =
    let first = spec.branches_names (core_branches c.in-If.branches None) in
    let last = spec.else_names c.in-If.otherwise in
    rw (inner_if c.args.stmt.now c.in-If.branches c.in-If.otherwise c.in-If.is, locals_append c.args.program.now c.args.known.now first last) (grind (arith, common_steps))

pub declare_inner-returns-in_ok-declare_branches-in-If-clause-known : goal.declare_inner-returns-in_ok-declare_branches-in-If-clause-known
declare_inner-returns-in_ok-declare_branches-in-If-clause-known t c =
    let first = spec.branches_names (core_branches c.in-If.branches None) in
    let last = spec.else_names c.in-If.otherwise in
    rw (inner_if c.args.stmt.now c.in-If.branches c.in-If.otherwise c.in-If.is, texts_append c.args.known.now first last) (grind (arith, common_steps))
