use Rattle.std.proofs.Common.{◌≡◌, false}
use Rattle.hv_flow_pass.specs.Cells.{may_in}
use Rattle.hv_flow_pass.proofs.cells.may.Given as goal

abbrev pub invariant-loop-k : goal.invariant-loop-k
invariant-loop-k l = may_in l.value l.from l.k l.versions.now ≡ false
