use Rattle.hv_flow_versions.specs.Levels as spec
use Rattle.hv_flow_versions.specs.States as state
use Rattle.hv_flow_versions.proofs.Opening.{entered_seen, entered_sound}
use Rattle.hv_flow_versions.proofs.Outcomes.{ok_then, seen_by, sound_either}
use Rattle.hv_flow_versions.proofs.versions.Versions.enter.Goals as goal

pub invariant_of-self : goal.invariant_of-self
invariant_of-self c = sound_either c.enter.result _ _ _ c.enter.ensures.ok c.enter.ensures.err (entered_sound c.self.inside.state c.self.invariant) c.self.invariant

pub returns : goal.returns
returns c = ok_then c.enter.result (seen_by state.entered_state spec.entered_level c.self.inside.state c.enter.new.self c.args.self.now c.self.view_is (entered_seen c.self.inside.state c.self.invariant)) c.enter.ensures.ok
