use Rattle.std.proofs.Common.{◌≡◌, [], drop}
use Rattle.hv_flow_pass.specs.Passes.{read_all}
use Rattle.hv_flow_pass.proofs.pass.read_all.Given as goal

abbrev pub invariant-loop-op : goal.invariant-loop-op
invariant-loop-op l = read_all (drop l.op-index l.plan) l.waiting l.known ≡ read_all l.plan [] l.fn.known
