use Rattle.std.proofs.Common.{◌≡◌, ◌++◌, map, refl, ap, ◌∙◌}
use Rattle.hv_tree.specs.Core.{core_param, core_tree}
use Rattle.hv_decls.specs.Locals.{entry_locals, param_local}
use Rattle.hv_scope.specs.Bodies.{body_by}
use Rattle.hv_scope.specs.Known.{local_by}
use Rattle.hv_flow_plan.proofs.BodyLemmas.{body_same, ok_same}
use Rattle.hv_flow_plan.proofs.body.plan_of_body.Goals as goal

pub returns : goal.returns
returns c =
    let entry : map local_by c.as_slice-2.result.now ≡ entry_locals (body_by c.args.body.now) =
    ap (map local_by) c.as_slice-2.ensures.value ∙ c.in_ok-entry.ensures ∙ ap (λ k. map local_by k ++ map param_local (map core_param c.args.body.now.params.now)) c.as_slice.ensures.value in
    ok_same c.make_plan.result _ _ (body_same (core_tree c.args.declared.now) (map local_by c.as_slice-2.result.now) (map local_by c.in_ok-locals.locals) c.args.body.now.block.now (body_by c.args.body.now) entry c.in_ok-locals.ensures refl)
    c.make_plan.ensures
