use Rattle.std.proofs.Common.{◌+◌, List, map, drop, sym, ap, subst}
use Rattle.hv_tree.specs.Core.{core_tree}
use Rattle.hv_decls.specs.Locals.{CoreBody}
use Rattle.hv_scope.specs.Bodies.{body_by}
use Rattle.std.proofs.Math.ListN.{drop_of_length-le}
use Rattle.hv_lemmas.proofs.Lists.{first_left}
use Rattle.hv_await.specs.Found.{Adds, OfBody, OfBodies}
use Rattle.hv_await.proofs.Phase.{adds_both, adds_nothing}
use Rattle.hv_await.proofs.judge.judge_bodies.Goals as goal

pub loop-body-preserved : goal.loop-body-preserved
loop-body-preserved c =
    let tree = core_tree c.args.declared.now in
    let left = first_left c.args.bodies.now c.loop-body.body-index c.body-item.result c.loop-body-test.true c.body-item.is in
    λ all h. c.loop-body.invariant all
    (subst (λ (bs : List CoreBody). Adds (OfBodies tree bs) c.loop-body.found.items all) (sym (ap (map body_by) left))
    (adds_both (OfBody tree (body_by c.body-item.result)) (OfBodies tree (map body_by (drop (c.loop-body.body-index + 1) c.args.bodies.now))) c.loop-body.found.items c.judge_body.new.found.items all c.in_ok-judge_body.ensures h))

pub returns : goal.returns
returns c =
    c.loop-body.invariant c.loop-body.found.items
    (subst (λ (bs : List CoreBody). Adds (OfBodies (core_tree c.args.declared.now) bs) c.loop-body.found.items c.loop-body.found.items) (sym (ap (map body_by) (drop_of_length-le c.args.bodies.now c.loop-body-test.false)))
    (adds_nothing c.loop-body.found.items))
