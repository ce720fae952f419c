use Rattle.std.proofs.Common.{◌≡◌, ◌++◌, drop, None}
use Rattle.hv_tree.specs.Core.{core_stmts, core_branches}
use Rattle.hv_type_names.specs.Found as spec
use Rattle.hv_type_names.proofs.declared.+blocks.Given as goal

abbrev pub invariant-declare_stmts-loop-stmt : goal.invariant-declare_stmts-loop-stmt
invariant-declare_stmts-loop-stmt l = let left = spec.stmts_names (core_stmts (drop l.stmt-index l.stmts)) in let all = spec.stmts_names (core_stmts l.fn.stmts) in
    (l.found.items ++ spec.locals_found l.program l.known left ≡ l.fn.found.items ++ spec.locals_found l.program l.fn.known all) × (l.known ++ spec.texts_of left ≡ l.fn.known ++ spec.texts_of all)

abbrev pub invariant-declare_branches-loop-branch : goal.invariant-declare_branches-loop-branch
invariant-declare_branches-loop-branch l = let left = spec.branches_names (core_branches (drop l.branch-index l.branches) None) in let all = spec.branches_names (core_branches l.fn.branches None) in
    (l.found.items ++ spec.locals_found l.program l.known left ≡ l.fn.found.items ++ spec.locals_found l.program l.fn.known all) × (l.known ++ spec.texts_of left ≡ l.fn.known ++ spec.texts_of all)
