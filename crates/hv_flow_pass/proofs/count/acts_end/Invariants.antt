use Rattle.std.proofs.Common.{◌≡◌, drop}
use Rattle.hv_flow_pass.specs.Passes.{acts_end}
use Rattle.hv_flow_pass.proofs.count.acts_end.Given as goal

abbrev pub invariant-loop-act : goal.invariant-loop-act
invariant-loop-act l = acts_end l.most (drop l.act-index l.acts) ≡ acts_end l.fn.most l.acts
