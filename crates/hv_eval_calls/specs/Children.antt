-- What a child runs, as code holds it.
use Rattle.std.specs.Prelude.{List, map}
use Rattle.hv_sem_copying.specs.Ops as ops
use Rattle.hv_sem_copying.specs.Calls as calls
use Rattle.hv_scope.specs.Bodies.{body_by}
use Rattle.hv_eval_calls.specs.declared.passed.Passed.{Passed}
use Rattle.hv_eval_calls.specs.declared.children.Spawn.{Spawn}
use Rattle.hv_eval_calls.specs.Passes.{passed_by}

abbrev pub passed_of : List Passed → List ops.Passed
passed_of ps = map passed_by ps

abbrev pub child_of : Spawn → calls.Child
child_of c = record { number = c.number; body = body_by c.body.now.body; given = map passed_by c.given }
