use Rattle.std.proofs.Common.{List, map, drop}
use Rattle.hv_tree.specs.declared.refusal.Refusal.{Refusal}
use Rattle.hv_tree.specs.Core.{core_tree}
use Rattle.hv_scope.specs.Bodies.{body_by}
use Rattle.hv_await.specs.Found.{Adds, OfBodies}
use Rattle.hv_await.proofs.judge.judge_bodies.Given as goal

abbrev pub invariant-loop-body : goal.invariant-loop-body
invariant-loop-body l =
    (all : List Refusal) → Adds (OfBodies (core_tree l.declared) (map body_by (drop l.body-index l.bodies))) l.found.items all → Adds (OfBodies (core_tree l.declared) (map body_by l.bodies)) l.fn.found.items all
