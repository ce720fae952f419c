use Rattle.hv_flow_versions.specs.Levels as spec
use Rattle.hv_flow_versions.specs.States as state
use Rattle.hv_flow_versions.proofs.Sides.{within_seen, within_sound}
use Rattle.hv_flow_versions.proofs.Outcomes.{ok_then, seen_by, sound_either}
use Rattle.hv_flow_versions.proofs.versions.Versions.change_sides_within.Goals as goal

pub invariant_of-self : goal.invariant_of-self
invariant_of-self c = sound_either c.change_sides_within.result _ _ _ c.change_sides_within.ensures.ok c.change_sides_within.ensures.err (within_sound c.self.inside.state c.self.invariant) c.self.invariant

pub returns : goal.returns
returns c = ok_then c.change_sides_within.result (seen_by state.sides_changed_within_state spec.sides_changed_within c.self.inside.state c.change_sides_within.new.self c.args.self.now c.self.view_is (within_seen c.self.inside.state c.self.invariant)) c.change_sides_within.ensures.ok
