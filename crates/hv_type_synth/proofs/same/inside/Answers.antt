use Rattle.std.proofs.Common.{sym, ap, ◌∙◌}
use Rattle.hv_type_synth.specs.Held.{shape_by, base_by, ty_by}
use Rattle.hv_type_synth.proofs.Opened.{one_less}
use Rattle.hv_type_synth.proofs.same.inside.Goals as goal

pub loop-preserved : goal.loop-preserved
loop-preserved c =
    c.loop.invariant
    ∙ one_less c.args.count c.loop.counter (base_by c.loop.inner) (ty_by c.in-Array.ty.now) c.loop-test.true (sym c.base_shape.ensures ∙ ap shape_by c.in-Array.is)
