use Rattle.std.proofs.Common.{◌≡◌, ◌++◌, drop}
use Rattle.hv_tree.specs.Core.{core_stmts}
use Rattle.hv_flow_ends.specs.Ends.{numbers_in}
use Rattle.hv_flow_ends.specs.Walked as spec
use Rattle.hv_flow_ends.proofs.walk.own_handles.Given as goal

abbrev pub invariant-loop-stmt : goal.invariant-loop-stmt
invariant-loop-stmt l = numbers_in l.handles ++ spec.own_handles l.next (core_stmts (drop l.stmt-index l.stmts)) ≡ spec.own_handles l.fn.next (core_stmts l.stmts)
