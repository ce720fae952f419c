-- What the events of a body do to cells that tell of its handles, each at the number of its handle.
use Rattle.std.specs.Prelude.{ℕ, true, false, if◌then◌else◌, List, [], ◌∷◌, map}
use Rattle.hv_tree.specs.declared.place.Place.{Place}
use Rattle.hv_tree.specs.declared.refusal.Rule.{Rule}
use Rattle.hv_tree.specs.declared.refusal.Rule.TheVariants as rule
use Rattle.hv_tree.specs.declared.refusal.Refusal.{Refusal}
use Rattle.hv_rules.specs.declared.event.FlowEvent.{FlowEvent}
use Rattle.hv_rules.specs.declared.event.FlowEvent.TheVariants as event
use Rattle.hv_flow_pass.specs.declared.act.Range.{Range}
use Rattle.hv_flow_pass.specs.declared.act.Act.{Act}
use Rattle.hv_flow_pass.specs.declared.act.Act.TheVariants as act
use Rattle.hv_flow_ends.specs.declared.span.Span.{Span}
use Rattle.hv_flow_ends.specs.declared.span.End.{End}
use Rattle.hv_flow_ends.specs.Ends.{is_end}

-- the cell of a handle
abbrev pub cell : ℕ → Range
cell h = record { from = h; count = 1 }

abbrev pub refusal : Rule → Place → Refusal
refusal r at = record { rule = r; place = at }

-- ---- the cells say whether the handle was spawned and not awaited since

abbrev pub left_event : FlowEvent → List Act
left_event event.Entry = []
left_event (event.Declare n) = []
left_event (event.Init p) = []
left_event (event.Use p) = []
left_event (event.Move p) = []
left_event (event.OpenRead p) = []
left_event (event.OpenWrite p) = []
left_event (event.OpenSet p) = []
left_event event.Close = []
left_event (event.Spawn h) = act.Set (cell h) true ∷ []
left_event (event.Await h) = act.Set (cell h) false ∷ []
left_event event.Return = []
left_event (event.ScopeEnd n) = []

-- none of these handles may be left
abbrev pub none_left : Place → Span → Act
none_left at s = act.Refuse (record { from = s.first; count = s.count }) true (refusal rule.S1 at)

-- nor those of the first end
abbrev pub first_ends : Place → List End → List Act
first_ends at [] = []
first_ends at (e ∷ ends) = map (none_left at) e.handles

-- an event, where these ends are still to come
abbrev pub left_acts : FlowEvent → Place → List End → List Act
left_acts e at ends = if is_end e then first_ends at ends else left_event e

-- ---- the cells say whether the handle was awaited since its spawn

abbrev pub again_acts : FlowEvent → Place → List Act
again_acts event.Entry at = []
again_acts (event.Declare n) at = []
again_acts (event.Init p) at = []
again_acts (event.Use p) at = []
again_acts (event.Move p) at = []
again_acts (event.OpenRead p) at = []
again_acts (event.OpenWrite p) at = []
again_acts (event.OpenSet p) at = []
again_acts event.Close at = []
again_acts (event.Spawn h) at = act.Set (cell h) false ∷ []
again_acts (event.Await h) at = act.Refuse (cell h) true (refusal rule.S2 at) ∷ (act.Set (cell h) true ∷ [])
again_acts event.Return at = []
again_acts (event.ScopeEnd n) at = []
