use Rattle.std.proofs.Common.{◌≡◌, replicate}
use Rattle.hv_flow_pass.specs.Hints.{no_hint}
use Rattle.hv_flow_pass.proofs.hints.start.Given as goal

abbrev pub invariant-loop-k : goal.invariant-loop-k
invariant-loop-k l = l.all ≡ replicate l._k no_hint
