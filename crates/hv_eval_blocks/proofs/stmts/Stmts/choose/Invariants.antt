use Rattle.std.proofs.Common.{◌≡◌, drop}
use Rattle.hv_eval_state.specs.Gives.{from}
use Rattle.hv_eval_blocks.specs.Statements.{choices_in}
use Rattle.hv_eval_blocks.proofs.stmts.Stmts.choose.Given as goal

abbrev pub invariant-loop-branch : goal.invariant-loop-branch
invariant-loop-branch g l = from (choices_in l.self.parts.level (drop l.branch-index l.branches) l.otherwise) l.used l.task ≡ from (choices_in l.self.parts.level l.branches l.otherwise) l.used l.fn.task
