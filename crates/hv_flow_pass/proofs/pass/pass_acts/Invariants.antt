use Rattle.std.proofs.Common.{◌≡◌, drop}
use Rattle.hv_flow_pass.specs.Passes.{changed, pass_acts}
use Rattle.hv_flow_pass.proofs.pass.pass_acts.Given as goal

abbrev pub invariant-loop-act : goal.invariant-loop-act
invariant-loop-act l = changed (pass_acts (drop l.act-index l.acts)) l.known ≡ changed (pass_acts l.acts) l.fn.known
