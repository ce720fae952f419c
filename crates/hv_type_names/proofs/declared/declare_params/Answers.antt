use Rattle.std.proofs.Common.{[], ◌∷◌}
use Rattle.hv_type_names.proofs.Declaring.{turn_found, turn_known, params_next}
use Rattle.hv_type_names.proofs.declared.declare_params.Goals as goal

pub loop-param-preserved : goal.loop-param-preserved
loop-param-preserved c =
    let next = params_next c.args.params.now c.loop-param.param-index c.param-item.result c.loop-param-test.true c.param-item.is in
    let piece = c.param-item.result.name ∷ [] in (
      turn_found c.args.program.now c.loop-param.known c.declare_local.new.known piece _ _ c.loop-param.found.items c.declare_local.new.found.items _ c.in_ok-declare_local.ensures.found c.in_ok-declare_local.ensures.known next
          c.loop-param.invariant.0,
      turn_known c.loop-param.known c.declare_local.new.known _ piece _ _ c.in_ok-declare_local.ensures.known next c.loop-param.invariant.1,
    )
