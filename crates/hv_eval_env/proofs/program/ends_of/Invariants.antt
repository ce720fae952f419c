use Rattle.std.proofs.Common.{◌≡◌, ◌++◌, map, drop}
use Rattle.hv_scope.specs.Bodies.{body_by}
use Rattle.hv_eval_env.specs.Programs.{end_place}
use Rattle.hv_eval_env.proofs.program.ends_of.Given as goal

abbrev pub invariant-loop-body : goal.invariant-loop-body
invariant-loop-body l = l.ends ++ map end_place (map body_by (drop l.body-index l.bodies)) ≡ map end_place (map body_by l.bodies)
