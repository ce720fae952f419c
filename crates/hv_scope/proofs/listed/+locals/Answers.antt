use Rattle.std.proofs.Common.{map, arith}
use Rattle.std.proofs.lemmas.Grind.{common_steps}
use Rattle.hv_scope.specs.Known.{local_by}
use Rattle.hv_lemmas.proofs.Lists.{nothing_added}
use Rattle.hv_scope.proofs.LocalLemmas as parts
use Rattle.hv_scope.proofs.listed.+locals.Goals as goal

pub add_stmt-returns-in-Assign : goal.add_stmt-returns-in-Assign
add_stmt-returns-in-Assign t c = nothing_added (map local_by c.args.known.now.items) _ (parts.declares_assign c.args.stmt.now c.in-Assign.field-0 c.in-Assign.field-1 c.in-Assign.is)

pub add_stmt-returns-in_ok-add_branches-in-If : goal.add_stmt-returns-in_ok-add_branches-in-If
add_stmt-returns-in_ok-add_branches-in-If t c = rw (parts.declares_if c.args.stmt.now c.in-If.branches c.in-If.otherwise c.in-If.is) (grind (arith, common_steps))

pub add_stmt-returns-in-Return : goal.add_stmt-returns-in-Return
add_stmt-returns-in-Return t c = nothing_added (map local_by c.args.known.now.items) _ (parts.declares_return c.args.stmt.now c.in-Return.field-0 c.in-Return.is)

pub add_stmt-returns-in-Print : goal.add_stmt-returns-in-Print
add_stmt-returns-in-Print t c = nothing_added (map local_by c.args.known.now.items) _ (parts.declares_print c.args.stmt.now c.in-Print.field-0 c.in-Print.is)

pub add_stmt-returns-in-Await : goal.add_stmt-returns-in-Await
add_stmt-returns-in-Await t c = nothing_added (map local_by c.args.known.now.items) _ (parts.declares_await c.args.stmt.now c.in-Await.field-0 c.in-Await.is)

pub add_stmt-returns-in-Call : goal.add_stmt-returns-in-Call
add_stmt-returns-in-Call t c = nothing_added (map local_by c.args.known.now.items) _ (parts.declares_call c.args.stmt.now c.in-Call.field-0 c.in-Call.is)
