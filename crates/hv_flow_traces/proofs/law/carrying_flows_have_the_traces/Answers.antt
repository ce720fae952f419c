use Rattle.hv_flow_traces.proofs.CarriedLemmas.{traces}
use Rattle.hv_flow_traces.proofs.law.carrying_flows_have_the_traces.Goals as goal

pub returns : goal.returns
returns c = λ d. traces
