-- What the events of a body do to cells that tell of its leaves.
use Rattle.std.specs.Prelude.{ℕ, Bool, true, false, if◌then◌else◌, List, [], ◌∷◌, ◌++◌, map, Option, Some, None}
use Rattle.hv_tree.specs.declared.place.Place.{Place}
use Rattle.hv_tree.specs.declared.refusal.Rule.{Rule}
use Rattle.hv_tree.specs.declared.refusal.Rule.TheVariants as rule
use Rattle.hv_tree.specs.declared.refusal.Refusal.{Refusal}
use Rattle.hv_tree.specs.Core.{Core}
use Rattle.hv_decls.specs.declared.path.StaticPath.{StaticPath}
use Rattle.hv_rules.specs.declared.event.FlowEvent.{FlowEvent}
use Rattle.hv_rules.specs.declared.event.FlowEvent.TheVariants as event
use Rattle.hv_rules.specs.Flow.{Flow}
use Rattle.hv_decls.specs.Locals.{CoreBody}
use Rattle.hv_rules.specs.Events.{Mark}
use Rattle.hv_rules.specs.States.{Mode, Reading, Writing, Setting, Access, fields_of, last_called}
use Rattle.hv_decls.specs.Paths.{has_index}
use Rattle.hv_rules.specs.Rules.{asks_whole, back_at, missing_at}
use Rattle.hv_flow_pass.specs.declared.act.Range.{Range}
use Rattle.hv_flow_pass.specs.declared.act.Act.{Act}
use Rattle.hv_flow_pass.specs.declared.act.Act.TheVariants as act
use Rattle.hv_flow_traces.specs.Mapped.{mapped}
use Rattle.hv_flow_traces.specs.Opened.{opened_at}
use Rattle.hv_init_cells.specs.Layout.{Layout}

abbrev pub refusal : Rule → Place → Refusal
refusal r at = record { rule = r; place = at }

-- the cells of the leaves under a path's fields
abbrev pub cells : Layout → StaticPath → Range
cells l p = l.range_of p.root (fields_of p.steps)

-- ---- what is asked

-- the path has to be wholly initialised
abbrev pub whole_asked : Layout → Place → Option StaticPath → List Act
whole_asked l at None = []
whole_asked l at (Some p) = act.Refuse (cells l p) false (refusal rule.I1 at) ∷ []

-- a local that is written back has to be
abbrev pub back_asked : Layout → Place → ℕ → Act
back_asked l at n = act.Refuse (l.range_of n []) false (refusal rule.I2 at)

-- the end isn't to be reached; no act sets the free cell, so that it is a no wherever it is reached
abbrev pub missing_asked : Layout → Place → Bool → List Act
missing_asked l at false = []
missing_asked l at true = act.Refuse (record { from = l.free; count = 1 }) false (refusal rule.I3 at) ∷ []

abbrev pub asks : Layout → Mark → List Act
asks l m = whole_asked l m.place (asks_whole m.event) ++ (map (back_asked l m.place) (back_at m.belongs) ++ missing_asked l m.place (missing_at m.belongs))

-- ---- what is set

-- a path without an index
abbrev pub set_path : Layout → StaticPath → Bool → List Act
set_path l p value = if has_index p.steps then [] else act.Set (cells l p) value ∷ []

abbrev pub set_by_mode : Layout → StaticPath → Mode → List Act
set_by_mode l p Reading = []
set_by_mode l p Writing = []
set_by_mode l p Setting = set_path l p true

abbrev pub set_at_close : Layout → Option Access → List Act
set_at_close l None = []
set_at_close l (Some a) = set_by_mode l a.path a.mode

-- by an event, where these accesses are open
abbrev pub sets : Layout → FlowEvent → List Access → List Act
sets l event.Entry xs = []
sets l (event.Declare n) xs = act.Set (l.range_of n []) false ∷ []
sets l (event.Init p) xs = set_path l p true
sets l (event.Use p) xs = []
sets l (event.Move p) xs = set_path l p false
sets l (event.OpenRead p) xs = []
sets l (event.OpenWrite p) xs = []
sets l (event.OpenSet p) xs = set_path l p false
sets l event.Close xs = set_at_close l (last_called xs)
sets l (event.Spawn h) xs = []
sets l (event.Await h) xs = []
sets l event.Return xs = []
sets l (event.ScopeEnd n) xs = []

-- ---- both

-- what is asked is asked of the state before the event
abbrev pub acts_at : Layout → Mark × List Access → List Act
acts_at l w = asks l w.0 ++ sets l w.0.event w.1

-- a body's acts
abbrev pub acts_of : Core → CoreBody → Layout → Flow (List Act)
acts_of tree body l = mapped (acts_at l) (opened_at tree body)
