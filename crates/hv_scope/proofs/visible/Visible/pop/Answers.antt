use Rattle.std.proofs.Common.{Some, None}
use Rattle.std.proofs.lemmas.Map.Text.{hash_map_updates_str}
use Rattle.hv_scope.proofs.EntryLemmas.{pop_kept, was_there}
use Rattle.hv_scope.proofs.visible.Visible.pop.Goals as goal

pub invariant_of-self-in-Ok : goal.invariant_of-self-in-Ok
invariant_of-self-in-Ok c =
    pop_kept c.self.inside.list c.pop.new.self c.in-Some.entry (Some c.in-Some-hides.place) c.as_str-text.result.now _ _ c.in-Some.ensures c.as_str-text.ensures c.in-Some-hides.is c.self.invariant.0 c.self.invariant.1
    (hash_map_updates_str c.as_str-text.result.now c.self.inside.newest c.insert.new.self _ c.in-Ok.ensures.updates)

pub invariant_of-self-in-Err : goal.invariant_of-self-in-Err
invariant_of-self-in-Err c =
    absurd (was_there c.self.inside.list c.pop.new.self c.in-Some.entry c.as_str-text.result.now _ c.in-Some.ensures c.as_str-text.ensures (c.self.invariant.0 c.as_str-text.result.now) c.in-Err.ensures.absent)

pub invariant_of-self-in-None : goal.invariant_of-self-in-None
invariant_of-self-in-None c =
    pop_kept c.self.inside.list c.pop.new.self c.in-Some.entry None c.as_str-text.result.now _ _ c.in-Some.ensures c.as_str-text.ensures c.in-None.is c.self.invariant.0 c.self.invariant.1
    (hash_map_updates_str c.as_str-text.result.now c.self.inside.newest c.remove.new.self _ c.remove.ensures.updates)
