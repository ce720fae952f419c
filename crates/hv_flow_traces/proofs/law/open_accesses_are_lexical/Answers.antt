use Rattle.hv_flow_traces.proofs.OpenedLemmas.{is_opened_at}
use Rattle.hv_flow_traces.proofs.law.open_accesses_are_lexical.Goals as goal

pub returns : goal.returns
returns c = is_opened_at
