use Rattle.hv_flow_versions.specs.Levels as spec
use Rattle.hv_flow_versions.specs.States as state
use Rattle.hv_flow_versions.proofs.Ending.{join_seen, join_sound}
use Rattle.hv_flow_versions.proofs.Outcomes.{seen_by, sound_by}
use Rattle.hv_flow_versions.proofs.versions.Versions.join.Goals as goal

pub invariant_of-self : goal.invariant_of-self
invariant_of-self c = sound_by _ _ c.join.ensures (join_sound c.self.inside.state c.self.invariant)

pub returns : goal.returns
returns c = seen_by state.joined_state spec.joined_level c.self.inside.state c.join.new.self c.args.self.now c.self.view_is (join_seen c.self.inside.state c.self.invariant) c.join.ensures
