use Rattle.std.proofs.Common.{◌∙◌, ap}
use Rattle.hv_flow_versions.specs.States.{seen_levels}
use Rattle.hv_flow_versions.proofs.Opening.{starting_seen, starting_sound}
use Rattle.hv_flow_versions.proofs.Outcomes.{sound_by}
use Rattle.hv_flow_versions.proofs.versions.Versions.new.Goals as goal

pub invariant_of-result : goal.invariant_of-result
invariant_of-result c = sound_by _ _ c.in_ok-state.ensures (starting_sound c.args.count)

pub returns : goal.returns
returns c = ap seen_levels c.in_ok-state.ensures ∙ starting_seen c.args.count
