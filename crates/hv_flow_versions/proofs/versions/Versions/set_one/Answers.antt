use Rattle.std.proofs.Common.{◌∙◌, ap, sym, subst}
use Rattle.hv_flow_versions.specs.declared.state.State.{State}
use Rattle.hv_flow_versions.specs.Levels.{set_level}
use Rattle.hv_flow_versions.specs.States.{Sound, listed_state, set_state}
use Rattle.hv_flow_versions.proofs.Opening.{set_seen, set_sound, listed_sound}
use Rattle.hv_flow_versions.proofs.Outcomes.{ok_then, seen_by, sound_by, sound_either}
use Rattle.hv_flow_versions.proofs.versions.Versions.set_one.Goals as goal

pub invariant_of-self-2 : goal.invariant_of-self-2
invariant_of-self-2 c = sound_either c.set.result _ _ _ c.set.ensures.ok c.set.ensures.err
    (subst (λ (w : State). Sound (set_state c.args.value c.args.index w)) (sym c.in_ok-list.ensures.ok) (set_sound c.args.value c.args.index c.self.inside.state c.self.invariant))
    (sound_by _ _ c.in_ok-list.ensures.ok (listed_sound c.args.index c.self.inside.state c.self.invariant))

pub returns : goal.returns
returns c = ok_then c.set.result
    (λ n. seen_by (λ s. set_state c.args.value c.args.index (listed_state c.args.index s)) (set_level c.args.value c.args.index 1) c.self.inside.state c.set.new.self c.args.self.now c.self.view_is
    (set_seen c.args.value c.args.index c.self.inside.state c.self.invariant) (n ∙ ap (λ (w : State). set_state c.args.value c.args.index w) c.in_ok-list.ensures.ok))
    c.set.ensures.ok
