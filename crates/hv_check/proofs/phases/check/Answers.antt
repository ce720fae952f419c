use Rattle.hv_check.specs.Checks.{judged}
use Rattle.hv_check.proofs.Sources.{accepted_checks, first_checks}
use Rattle.hv_check.proofs.phases.check.Goals as goal

pub returns-in-Ok-None : goal.returns-in-Ok-None
returns-in-Ok-None c =
    let source = c.args.source.now in
    let tree = c.in_ok-tree.tree in
    accepted_checks source tree (record { read = c.in_ok-tree.ensures; obeys = rw c.in-Ok-None.field-0-is at c.in-Ok-None.ensures.first })

pub returns-in-Ok-Some : goal.returns-in-Ok-Some
returns-in-Ok-Some c =
    let source = c.args.source.now in
    let tree = c.in_ok-tree.tree in
    first_checks source c.in-Ok-Some.refusal (judged tree c.in_ok-tree.ensures (rw c.in-Ok-Some.field-0-is at c.in-Ok-Some.ensures.first))
