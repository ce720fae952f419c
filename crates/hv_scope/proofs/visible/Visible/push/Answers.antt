use Rattle.std.proofs.Common.{◌∙◌}
use Rattle.std.proofs.lemmas.Map.Text.{hash_map_updates_str}
use Rattle.hv_scope.proofs.EntryLemmas.{push_kept}
use Rattle.hv_scope.proofs.visible.Visible.push.Goals as goal

pub invariant_of-self-in-Ok : goal.invariant_of-self-in-Ok
invariant_of-self-in-Ok c =
    push_kept c.self.inside.list c.push.new.self _ c.len-place.result c.as_str-text.result.now _ _ c.in_ok-push.ensures.ok c.len-place.ensures c.as_str-text.ensures (c.copied-hides.ensures ∙ c.get.ensures.value) c.self.invariant.0 c.self.invariant.1
    (hash_map_updates_str c.as_str-text.result.now c.self.inside.newest c.insert.new.self _ c.in-Ok.ensures.updates)
