use Rattle.hv_flow_versions.specs.Levels as spec
use Rattle.hv_flow_versions.specs.States as state
use Rattle.hv_flow_versions.proofs.Opening.{split_seen, split_sound}
use Rattle.hv_flow_versions.proofs.Outcomes.{ok_then, seen_by, sound_either}
use Rattle.hv_flow_versions.proofs.versions.Versions.split.Goals as goal

pub invariant_of-self : goal.invariant_of-self
invariant_of-self c = sound_either c.split.result _ _ _ c.split.ensures.ok c.split.ensures.err (split_sound c.self.inside.state c.self.invariant) c.self.invariant

pub returns : goal.returns
returns c = ok_then c.split.result (seen_by state.split_state spec.split c.self.inside.state c.split.new.self c.args.self.now c.self.view_is (split_seen c.self.inside.state c.self.invariant)) c.split.ensures.ok
