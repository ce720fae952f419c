use Rattle.std.proofs.Common.{◌≡◌, ◌++◌, ◌∷◌, [], map, drop}
use Rattle.hv_tree.specs.Core.{core_stmts}
use Rattle.hv_flow_ends.specs.Ends.{belongs_by, numbers_in}
use Rattle.hv_flow_ends.specs.Walked as spec
use Rattle.hv_flow_ends.proofs.walk.+ends.Given as goal

abbrev pub invariant-walk_stmts-loop-stmt : goal.invariant-walk_stmts-loop-stmt
invariant-walk_stmts-loop-stmt l =
    (map belongs_by l.ends ++ spec.ends_of_stmts l.next (l.around ++ l.opened ∷ []) (drop l.stmt-index l.stmts) ≡ map belongs_by l.fn.ends ++ spec.ends_of_stmts l.fn.next (l.fn.around ++ l.fn.opened ∷ []) l.stmts)
    × (l.around ≡ l.fn.around)
    × (numbers_in l.opened.back ++ spec.own_back l.next (core_stmts (drop l.stmt-index l.stmts)) ≡ numbers_in l.fn.opened.back ++ spec.own_back l.fn.next (core_stmts l.stmts))
    × (l.opened.handles ≡ l.fn.opened.handles)

abbrev pub invariant-walk_tests-loop-branch : goal.invariant-walk_tests-loop-branch
invariant-walk_tests-loop-branch l =
    (map belongs_by l.ends ++ spec.ends_of_tests l.next l.around (drop l.branch-index l.branches) ≡ map belongs_by l.fn.ends ++ spec.ends_of_tests l.fn.next l.fn.around l.branches) × (l.around ≡ l.fn.around)
