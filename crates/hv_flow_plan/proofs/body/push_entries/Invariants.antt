use Rattle.std.proofs.Common.{◌≡◌, ◌++◌, ◌+◌, map, drop}
use Rattle.hv_rules.specs.Events as events
use Rattle.hv_flow_plan.specs.Spelling.{plan_of}
use Rattle.hv_scope.specs.Known.{local_by}
use Rattle.hv_flow_plan.proofs.body.push_entries.Given as goal

abbrev pub invariant-loop-known : goal.invariant-loop-known
invariant-loop-known l = (l.next ≡ l.fn.next + l.known-index)
    × (l.plan ++ plan_of (events.entry_events l.next (map local_by (drop l.known-index l.entry))) ≡ l.fn.plan ++ plan_of (events.entry_events l.fn.next (map local_by l.entry)))
