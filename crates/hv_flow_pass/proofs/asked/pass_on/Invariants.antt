use Rattle.std.proofs.Common.{◌≡◌, drop}
use Rattle.hv_flow_pass.specs.Cells.{passed_on}
use Rattle.hv_flow_pass.proofs.asked.pass_on.Given as goal

abbrev pub invariant-loop-entry : goal.invariant-loop-entry
invariant-loop-entry l = passed_on l.versions.now (drop l.entry-index l.entries) l.outer ≡ passed_on l.versions.now l.entries l.fn.outer
