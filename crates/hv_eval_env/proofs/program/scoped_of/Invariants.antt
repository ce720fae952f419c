use Rattle.std.proofs.Common.{◌≡◌, ◌++◌, map}
use Rattle.hv_scope.specs.Bodies.{body_by}
use Rattle.hv_eval_env.specs.Programs.{with_locals, scoped_by}
use Rattle.hv_eval_env.proofs.program.scoped_of.Given as goal

abbrev pub invariant-loop-body : goal.invariant-loop-body
invariant-loop-body l = map scoped_by l.scoped ++ map with_locals (map body_by l.body-iterator.rest.items) ≡ map with_locals (map body_by l.fn.bodies.items)
