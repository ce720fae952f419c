use Rattle.hv_tree.specs.declared.ast.Stmt.{out-Stmt}
use Rattle.hv_sem_copying.specs.Blocks.{repeated}
use Rattle.hv_eval_env.specs.Level.{value_in, block_in}
use Rattle.hv_eval_blocks.specs.Statements.{statement_in, choices_in}
use Rattle.hv_eval_blocks.proofs.StatementLemmas as kinds
use Rattle.hv_eval_blocks.proofs.stmts.Stmts.statement.Goals as goal

pub returns-in-Var : goal.returns-in-Var
returns-in-Var g c =
    let l = c.args.self.now.parts.level in
    kinds.as_kind _ (statement_in l c.args.stmt.now) c.args.used c.args.task.now c.var.new.task c.var.result (kinds.by_var l c.args.stmt.now c.in-Var.name c.in-Var.ty c.in-Var.value c.in-Var.is) c.var.ensures

pub returns-in-Let : goal.returns-in-Let
returns-in-Let g c =
    let l = c.args.self.now.parts.level in
    kinds.as_kind _ (statement_in l c.args.stmt.now) c.args.used c.args.task.now c.bind.new.task c.bind.result (kinds.by_let l c.args.stmt.now c.in-Let.name c.in-Let.field-1 c.in-Let.value c.in-Let.is) c.bind.ensures

pub returns-in-Inout : goal.returns-in-Inout
returns-in-Inout g c =
    let l = c.args.self.now.parts.level in
    kinds.as_kind _ (statement_in l c.args.stmt.now) c.args.used c.args.task.now c.refer.new.task c.refer.result (kinds.by_inout l c.args.stmt.now c.in-Inout.name c.in-Inout.field-1 c.in-Inout.place c.in-Inout.is) c.refer.ensures

pub returns-in-Assign : goal.returns-in-Assign
returns-in-Assign g c =
    let l = c.args.self.now.parts.level in
    kinds.as_kind _ (statement_in l c.args.stmt.now) c.args.used c.args.task.now c.assign.new.task c.assign.result (kinds.by_assign l c.args.stmt.now c.in-Assign.place c.in-Assign.value c.in-Assign.is) c.assign.ensures

pub returns-in-Return : goal.returns-in-Return
returns-in-Return g c =
    let l = c.args.self.now.parts.level in
    kinds.as_kind _ (statement_in l c.args.stmt.now) c.args.used c.args.task.now c.leave.new.task c.leave.result (kinds.by_return l c.args.stmt.now c.in-Return.value c.in-Return.is) c.leave.ensures

pub returns-in-Print : goal.returns-in-Print
returns-in-Print g c =
    let l = c.args.self.now.parts.level in
    kinds.as_kind _ (statement_in l c.args.stmt.now) c.args.used c.args.task.now c.show.new.task c.show.result (kinds.by_print l c.args.stmt.now c.in-Print.value c.in-Print.is) c.show.ensures

pub returns-in-Task : goal.returns-in-Task
returns-in-Task g c =
    let l = c.args.self.now.parts.level in
    kinds.as_kind _ (statement_in l c.args.stmt.now) c.args.used c.args.task.now c.begin.new.task c.begin.result (kinds.by_task l c.args.stmt.now c.in-Task.name c.in-Task.field-1 c.in-Task.word c.in-Task.budget c.in-Task.call c.in-Task.is) c.begin.ensures

pub returns-in-Await : goal.returns-in-Await
returns-in-Await g c =
    let l = c.args.self.now.parts.level in
    kinds.as_kind _ (statement_in l c.args.stmt.now) c.args.used c.args.task.now c.args.task.now c.await_handle.result (kinds.by_await l c.args.stmt.now c.in-Await.handle c.in-Await.is) (c.await_handle.ensures c.args.used)

pub returns-in-Call : goal.returns-in-Call
returns-in-Call g c =
    let l = c.args.self.now.parts.level in
    kinds.as_kind _ (statement_in l c.args.stmt.now) c.args.used c.args.task.now c.call_alone.new.task c.call_alone.result (kinds.by_call l c.args.stmt.now c.in-Call.call c.in-Call.is) c.call_alone.ensures

pub returns-in-If : goal.returns-in-If
returns-in-If g c =
    let l = c.args.self.now.parts.level in
    kinds.as_flow (choices_in l c.in-If.branches c.in-If.otherwise) (statement_in l c.args.stmt.now) c.args.used c.args.task.now c.choose.new.task c.choose.result c.flowed.result (kinds.by_if l c.args.stmt.now c.in-If.branches c.in-If.otherwise c.in-If.is) c.flowed.ensures (rw c.as_slice.ensures at c.choose.ensures)

pub returns-in-While : goal.returns-in-While
returns-in-While g c =
    let l = c.args.self.now.parts.level in
    kinds.as_flow (repeated (out-Stmt c.args.stmt.now).place (value_in l c.in-While.test) (block_in l c.in-While.body)) (statement_in l c.args.stmt.now) c.args.used c.args.task.now c.repeat.new.task c.repeat.result c.flowed-in-While.result (kinds.by_while l c.args.stmt.now c.in-While.test c.in-While.body c.in-While.is) c.flowed-in-While.ensures c.repeat.ensures

pub returns-in-Block : goal.returns-in-Block
returns-in-Block g c =
    let l = c.args.self.now.parts.level in
    kinds.as_flow (block_in l c.in-Block.block) (statement_in l c.args.stmt.now) c.args.used c.args.task.now c.block.new.task c.block.result c.flowed-in-Block.result (kinds.by_block l c.args.stmt.now c.in-Block.block c.in-Block.is) c.flowed-in-Block.ensures c.block.ensures
