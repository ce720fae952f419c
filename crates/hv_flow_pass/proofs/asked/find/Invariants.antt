use Rattle.std.proofs.Common.{◌≡◌, drop}
use Rattle.hv_flow_pass.specs.Cells.{found_in}
use Rattle.hv_flow_pass.proofs.asked.find.Given as goal

abbrev pub invariant-loop-entry : goal.invariant-loop-entry
invariant-loop-entry l = found_in l.versions.now (drop l.entry-index l.entries) l.found ≡ found_in l.versions.now l.entries l.fn.found
