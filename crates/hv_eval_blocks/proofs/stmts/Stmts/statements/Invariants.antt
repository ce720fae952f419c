use Rattle.std.proofs.Common.{◌≡◌, [], drop}
use Rattle.hv_eval_state.specs.Gives.{from}
use Rattle.hv_eval_state.specs.Opened.{last_first}
use Rattle.hv_eval_blocks.specs.Statements.{statements_in}
use Rattle.hv_eval_blocks.proofs.stmts.Stmts.statements.Given as goal

abbrev pub invariant-loop-stmt : goal.invariant-loop-stmt
invariant-loop-stmt g l = from (statements_in l.self.parts.level (drop l.stmt-index l.stmts) (last_first l.opened.items)) l.used l.task ≡ from (statements_in l.self.parts.level l.stmts []) l.used l.fn.task
