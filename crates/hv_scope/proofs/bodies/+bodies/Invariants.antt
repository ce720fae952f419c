use Rattle.std.proofs.Common.{◌≡◌, ◌++◌, map, drop, length}
use Rattle.hv_tree.specs.Core.{core_exprs, core_links, core_steps, core_args, core_stmts}
use Rattle.hv_scope.specs.Known.{local_by}
use Rattle.hv_scope.specs.Bodies as spec
use Rattle.hv_scope.specs.Oldest.{oldest}
use Rattle.hv_scope.proofs.bodies.+bodies.Given as goal

abbrev pub invariant-add_parts-loop-part : goal.invariant-add_parts-loop-part
invariant-add_parts-loop-part l = map spec.body_by l.bodies.items ++ spec.part_bodies (map local_by l.visible) (core_exprs (drop l.part-index l.parts)) ≡ map spec.body_by l.fn.bodies.items ++ spec.part_bodies (map local_by l.visible) (core_exprs l.parts)

abbrev pub invariant-add_links-loop-operand : goal.invariant-add_links-loop-operand
invariant-add_links-loop-operand l = map spec.body_by l.bodies.items ++ spec.link_bodies (map local_by l.visible) (core_links (drop l.operand-index l.links)) ≡ map spec.body_by l.fn.bodies.items ++ spec.link_bodies (map local_by l.visible) (core_links l.links)

abbrev pub invariant-add_steps-loop-step : goal.invariant-add_steps-loop-step
invariant-add_steps-loop-step l = map spec.body_by l.bodies.items ++ spec.step_bodies (map local_by l.visible) (core_steps (drop l.step-index l.steps)) ≡ map spec.body_by l.fn.bodies.items ++ spec.step_bodies (map local_by l.visible) (core_steps l.steps)

abbrev pub invariant-add_args-loop-arg : goal.invariant-add_args-loop-arg
invariant-add_args-loop-arg l = map spec.body_by l.bodies.items ++ spec.arg_bodies (map local_by l.visible) (core_args (drop l.arg-index l.args)) ≡ map spec.body_by l.fn.bodies.items ++ spec.arg_bodies (map local_by l.visible) (core_args l.args)

abbrev pub invariant-add_stmts-loop-stmt : goal.invariant-add_stmts-loop-stmt
invariant-add_stmts-loop-stmt l =
    (map spec.body_by l.bodies.items ++ spec.stmts_bodies (map local_by l.visible) (core_stmts (drop l.stmt-index l.stmts)) ≡ map spec.body_by l.fn.bodies.items ++ spec.stmts_bodies (map local_by l.fn.visible) (core_stmts l.stmts))
    × (oldest (length l.fn.visible) l.visible ≡ l.fn.visible)

abbrev pub invariant-add_tests-loop-branch : goal.invariant-add_tests-loop-branch
invariant-add_tests-loop-branch l =
    (map spec.body_by l.bodies.items ++ spec.tests_bodies (map local_by l.visible) (drop l.branch-index l.branches) ≡ map spec.body_by l.fn.bodies.items ++ spec.tests_bodies (map local_by l.fn.visible) l.branches)
    × (l.visible ≡ l.fn.visible)
