use Rattle.std.proofs.Common.{◌≡◌, ◌++◌, map, drop, length}
use Rattle.hv_tree.specs.Core.{core_tree}
use Rattle.hv_scope.specs.Known.{local_by}
use Rattle.hv_scope.specs.Oldest.{oldest}
use Rattle.hv_await.specs.Changing as spec
use Rattle.hv_await.proofs.changing.+changes.Given as goal

abbrev pub invariant-judge_stmts-loop-stmt : goal.invariant-judge_stmts-loop-stmt
invariant-judge_stmts-loop-stmt l =
    (l.found.items ++ spec.changes_in_stmts (core_tree l.declared) (map local_by l.visible) (drop l.stmt-index l.stmts) ≡ l.fn.found.items ++ spec.changes_in_stmts (core_tree l.declared) (map local_by l.fn.visible) l.stmts)
    × (oldest (length l.fn.visible) l.visible ≡ l.fn.visible)

abbrev pub invariant-judge_tests-loop-branch : goal.invariant-judge_tests-loop-branch
invariant-judge_tests-loop-branch l =
    (l.found.items ++ spec.changes_in_tests (core_tree l.declared) (map local_by l.visible) (drop l.branch-index l.branches) ≡ l.fn.found.items ++ spec.changes_in_tests (core_tree l.declared) (map local_by l.fn.visible) l.branches)
    × (l.visible ≡ l.fn.visible)
