-- How each local of a body stands.
use Rattle.std.specs.Prelude.{ℕ, Bool, true, false, if◌then◌else◌, List, [], ◌∷◌, slice_get, slice_set, Option, Some, None}
use Rattle.hv_decls.specs.declared.path.StaticStep.{StaticStep}
use Rattle.hv_decls.specs.declared.path.StaticPath.{StaticPath}
use Rattle.hv_rules.specs.declared.event.FlowEvent.{FlowEvent}
use Rattle.hv_rules.specs.declared.event.FlowEvent.TheVariants as event
use Rattle.hv_decls.specs.Paths.{has_index}
use Rattle.hv_rules.specs.Rules.{asks_whole}
use Rattle.hv_init_needs.specs.declared.standing.Standing.{Standing}
use Rattle.hv_init_needs.specs.declared.standing.Standing.TheVariants as standing
use Rattle.hv_init_needs.specs.Sight.{Seen}
use Rattle.hv_init_needs.specs.Needs.{is_in}

-- ---- the locals of an event

-- the root of a path without steps
abbrev pub whole_root : List StaticStep → ℕ → Option ℕ
whole_root [] n = Some n
whole_root (s ∷ steps) n = None

abbrev pub given_to : Option ℕ → StaticPath → Option ℕ
given_to None p = None
given_to (Some n) p = whole_root p.steps p.root

-- to which local its declaration gives a value
abbrev pub given : FlowEvent → Option ℕ → Option ℕ
given event.Entry of = None
given (event.Declare n) of = None
given (event.Init p) of = given_to of p
given (event.Use p) of = None
given (event.Move p) of = None
given (event.OpenRead p) of = None
given (event.OpenWrite p) of = None
given (event.OpenSet p) of = None
given event.Close of = None
given (event.Spawn h) of = None
given (event.Await h) of = None
given event.Return of = None
given (event.ScopeEnd n) of = None

-- the root of a path without an index
abbrev pub emptied_by : StaticPath → Option ℕ
emptied_by p = if has_index p.steps then None else Some p.root

-- from which local, or part of it, the event takes the value
abbrev pub emptied : FlowEvent → Option ℕ
emptied event.Entry = None
emptied (event.Declare n) = None
emptied (event.Init p) = None
emptied (event.Use p) = None
emptied (event.Move p) = emptied_by p
emptied (event.OpenRead p) = None
emptied (event.OpenWrite p) = None
emptied (event.OpenSet p) = emptied_by p
emptied event.Close = None
emptied (event.Spawn h) = None
emptied (event.Await h) = None
emptied event.Return = None
emptied (event.ScopeEnd n) = None

abbrev pub root_of : Option StaticPath → Option ℕ
root_of None = None
root_of (Some p) = Some p.root

-- for which local, or part of it, the event asks
abbrev pub asked : FlowEvent → Option ℕ
asked e = root_of (asks_whole e)

-- the local, unless it is in sight
abbrev pub outside : List ℕ → Option ℕ → Option ℕ
outside ks None = None
outside ks (Some k) = if is_in ks k then None else Some k

-- ---- standings

abbrev pub unsettled_at : Option ℕ → List Standing → List Standing
unsettled_at None all = all
unsettled_at (Some n) all = slice_set all n standing.Unsettled

-- a local that stands like this gets a value from its declaration
abbrev pub filled_from : Option Standing → ℕ → List Standing → List Standing
filled_from None n all = all
filled_from (Some standing.Unfilled) n all = slice_set all n standing.Filled
filled_from (Some standing.Filled) n all = all
filled_from (Some standing.Unsettled) n all = all

abbrev pub filled_at : Option ℕ → List Standing → List Standing
filled_at None all = all
filled_at (Some n) all = filled_from (slice_get all n) n all

-- behind an event
abbrev pub marked : Seen → List Standing → List Standing
marked s all = filled_at (given s.event s.declaration) (unsettled_at (outside s.sight (asked s.event)) (unsettled_at (emptied s.event) all))

-- behind the events of a text
abbrev pub marked_by : List Seen → List Standing → List Standing
marked_by [] all = all
marked_by (s ∷ text) all = marked_by text (marked s all)

-- a local that stands like this needs a state
abbrev pub needs : Standing → Bool
needs standing.Unfilled = true
needs standing.Filled = false
needs standing.Unsettled = true
