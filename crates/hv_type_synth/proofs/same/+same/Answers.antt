use Rattle.std.proofs.Common.{ℕ, arith, ◌∙◌}
use Rattle.hv_type_synth.proofs.Opened.{ended}
use Rattle.hv_type_synth.proofs.same.+same.Goals as goal

pub same_tys-returns : goal.same_tys-returns
same_tys-returns t c = c.is_empty.ensures ∙ ended c.args.a.now c.loop-conv.right.now c.loop-conv.conv-index _ (omega (arith, c.loop-conv-test.false)) c.loop-conv.invariant
