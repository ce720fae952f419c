use Rattle.std.proofs.Common.{◌≡◌}
use Rattle.hv_type_synth.specs.Tests.{same_params}
use Rattle.hv_type_synth.specs.Held.{takes_by}
use Rattle.hv_type_synth.proofs.Opened.{count_taken}
use Rattle.hv_type_synth.proofs.same.same_takes.Given as goal

abbrev pub invariant-loop-conv : goal.invariant-loop-conv
invariant-loop-conv l = same_params (takes_by l.a) (takes_by l.b) ≡ same_params (takes_by l.left) (takes_by l.right)

abbrev pub decreases-loop-conv : goal.decreases-loop-conv
decreases-loop-conv l = count_taken (takes_by l.left)
