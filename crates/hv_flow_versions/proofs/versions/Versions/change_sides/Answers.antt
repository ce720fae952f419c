use Rattle.hv_flow_versions.specs.Levels as spec
use Rattle.hv_flow_versions.specs.States as state
use Rattle.hv_flow_versions.proofs.Sides.{change_seen, change_sound}
use Rattle.hv_flow_versions.proofs.Outcomes.{seen_by, sound_by}
use Rattle.hv_flow_versions.proofs.versions.Versions.change_sides.Goals as goal

pub invariant_of-self : goal.invariant_of-self
invariant_of-self c = sound_by _ _ c.change_sides.ensures (change_sound c.self.inside.state c.self.invariant)

pub returns : goal.returns
returns c = seen_by state.sides_changed_state spec.sides_changed c.self.inside.state c.change_sides.new.self c.args.self.now c.self.view_is (change_seen c.self.inside.state c.self.invariant) c.change_sides.ensures
