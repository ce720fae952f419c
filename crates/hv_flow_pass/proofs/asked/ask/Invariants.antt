use Rattle.std.proofs.Common.{◌≡◌}
use Rattle.hv_flow_pass.specs.Cells.{asked_in}
use Rattle.hv_flow_pass.proofs.asked.ask.Given as goal

abbrev pub invariant-loop-k : goal.invariant-loop-k
invariant-loop-k l = l.asked ≡ asked_in l.value l.refusal l.versions.now l.from l.k l.fn.asked
