use Rattle.std.proofs.Common.{◌≡◌, ◌++◌, map, drop}
use Rattle.hv_tree.specs.Core.{core_stmts}
use Rattle.hv_decls.specs.Locals.{in_stmts}
use Rattle.hv_scope.specs.Known.{local_by}
use Rattle.hv_scope.specs.Blocks.{tests_declare}
use Rattle.hv_scope.proofs.listed.+locals.Given as goal

abbrev pub invariant-add_stmts-loop-stmt : goal.invariant-add_stmts-loop-stmt
invariant-add_stmts-loop-stmt l = map local_by l.known.items ++ in_stmts (core_stmts (drop l.stmt-index l.stmts)) ≡ map local_by l.fn.known.items ++ in_stmts (core_stmts l.stmts)

abbrev pub invariant-add_branches-loop-branch : goal.invariant-add_branches-loop-branch
invariant-add_branches-loop-branch l = map local_by l.known.items ++ tests_declare (drop l.branch-index l.branches) ≡ map local_by l.fn.known.items ++ tests_declare l.branches
