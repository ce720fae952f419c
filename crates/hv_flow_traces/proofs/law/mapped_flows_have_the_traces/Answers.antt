use Rattle.hv_flow_traces.proofs.MappedLemmas.{traces}
use Rattle.hv_flow_traces.proofs.law.mapped_flows_have_the_traces.Goals as goal

pub returns : goal.returns
returns c = λ d. traces
