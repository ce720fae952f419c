use Rattle.hv_flow_versions.specs.Levels as spec
use Rattle.hv_flow_versions.specs.States as state
use Rattle.hv_flow_versions.proofs.Ending.{leave_seen, leave_sound}
use Rattle.hv_flow_versions.proofs.Outcomes.{seen_by, sound_by}
use Rattle.hv_flow_versions.proofs.versions.Versions.leave.Goals as goal

pub invariant_of-self : goal.invariant_of-self
invariant_of-self c = sound_by _ _ c.leave.ensures (leave_sound c.self.inside.state c.self.invariant)

pub returns : goal.returns
returns c = seen_by state.left_state spec.turned_level c.self.inside.state c.leave.new.self c.args.self.now c.self.view_is (leave_seen c.self.inside.state c.self.invariant) c.leave.ensures
