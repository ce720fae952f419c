use Rattle.hv_lemmas.proofs.Lists.{nothing_added}
use Rattle.hv_flow_ends.specs.Ends.{numbers_in}
use Rattle.hv_flow_ends.proofs.Variants as parts
use Rattle.hv_flow_ends.proofs.walk.push_back.Goals as goal

pub returns-in-Var : goal.returns-in-Var
returns-in-Var c = nothing_added (numbers_in c.args.back.now) _ (parts.back_var c.args.next c.args.stmt.now c.in-Var.field-0 c.in-Var.field-1 c.in-Var.field-2 c.in-Var.is)

pub returns-in-Let : goal.returns-in-Let
returns-in-Let c = nothing_added (numbers_in c.args.back.now) _ (parts.back_let c.args.next c.args.stmt.now c.in-Let.field-0 c.in-Let.field-1 c.in-Let.field-2 c.in-Let.is)

pub returns-in-Assign : goal.returns-in-Assign
returns-in-Assign c = nothing_added (numbers_in c.args.back.now) _ (parts.back_assign c.args.next c.args.stmt.now c.in-Assign.field-0 c.in-Assign.field-1 c.in-Assign.is)

pub returns-in-If : goal.returns-in-If
returns-in-If c = nothing_added (numbers_in c.args.back.now) _ (parts.back_if c.args.next c.args.stmt.now c.in-If.field-0 c.in-If.field-1 c.in-If.is)

pub returns-in-While : goal.returns-in-While
returns-in-While c = nothing_added (numbers_in c.args.back.now) _ (parts.back_while c.args.next c.args.stmt.now c.in-While.field-0 c.in-While.field-1 c.in-While.is)

pub returns-in-Return : goal.returns-in-Return
returns-in-Return c = nothing_added (numbers_in c.args.back.now) _ (parts.back_return c.args.next c.args.stmt.now c.in-Return.field-0 c.in-Return.is)

pub returns-in-Print : goal.returns-in-Print
returns-in-Print c = nothing_added (numbers_in c.args.back.now) _ (parts.back_print c.args.next c.args.stmt.now c.in-Print.field-0 c.in-Print.is)

pub returns-in-Task : goal.returns-in-Task
returns-in-Task c = nothing_added (numbers_in c.args.back.now) _ (parts.back_task c.args.next c.args.stmt.now c.in-Task.field-0 c.in-Task.field-1 c.in-Task.field-2 c.in-Task.field-3 c.in-Task.field-4 c.in-Task.is)

pub returns-in-Await : goal.returns-in-Await
returns-in-Await c = nothing_added (numbers_in c.args.back.now) _ (parts.back_await c.args.next c.args.stmt.now c.in-Await.field-0 c.in-Await.is)

pub returns-in-Call : goal.returns-in-Call
returns-in-Call c = nothing_added (numbers_in c.args.back.now) _ (parts.back_call c.args.next c.args.stmt.now c.in-Call.field-0 c.in-Call.is)

pub returns-in-Block : goal.returns-in-Block
returns-in-Block c = nothing_added (numbers_in c.args.back.now) _ (parts.back_block c.args.next c.args.stmt.now c.in-Block.field-0 c.in-Block.is)
