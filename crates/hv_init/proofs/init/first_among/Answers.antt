use Rattle.std.proofs.Common.{List, map, subst, ap}
use Rattle.std.proofs.lemmas.List.{take_all}
use Rattle.hv_tree.specs.Core.{core_tree}
use Rattle.hv_tree.specs.Earlier.{IsFirst}
use Rattle.hv_decls.specs.Locals.{CoreBody}
use Rattle.hv_scope.specs.Bodies.{body_by}
use Rattle.hv_init_cells.specs.Law.{IsViolatedAmong}
use Rattle.hv_init.proofs.Bodies.{turn}
use Rattle.hv_init.proofs.init.first_among.Goals as goal

pub loop-body-preserved : goal.loop-body-preserved
loop-body-preserved c = λ sized.
    turn (core_tree c.args.declared.now) c.args.bodies.now c.loop-body.body-index c.body-item.result c.loop-body.first c.in_ok-other.other c.earlier-first.result c.loop-body-test.true c.body-item.is (c.loop-body.invariant sized)
    (c.in_ok-other.ensures sized) c.earlier-first.ensures.first

pub returns : goal.returns
returns c = λ sized.
    subst (λ (bs : List CoreBody). IsFirst (IsViolatedAmong (core_tree c.args.declared.now) bs) c.loop-body.first) (ap (map body_by) (take_all c.loop-body.body-index c.args.bodies.now c.loop-body-test.false)) (c.loop-body.invariant sized)
