use Rattle.std.proofs.Common.{◌≡◌, drop}
use Rattle.hv_type_synth.specs.Tests.{same_params}
use Rattle.hv_type_synth.specs.Held.{pairs_by}
use Rattle.hv_type_synth.proofs.same.+same.Given as goal

abbrev pub invariant-same_tys-loop-conv : goal.invariant-same_tys-loop-conv
invariant-same_tys-loop-conv l = same_params (pairs_by l.fn.a) (pairs_by l.fn.b) ≡ same_params (pairs_by (drop l.conv-index l.a)) (pairs_by l.right)
