-- What a list of events leaves: initialised leaves, open accesses and handles.
use Rattle.std.specs.Prelude.{ℕ, nat_lt, ◌==◌, Bool, true, false, not, ◌&&◌, if◌then◌else◌, List, [], ◌∷◌, filter, Option, Some, None}
use Rattle.hv_decls.specs.declared.path.StaticStep.{StaticStep}
use Rattle.hv_decls.specs.declared.path.StaticStep.TheVariants as step
use Rattle.hv_decls.specs.declared.path.StaticPath.{StaticPath}
use Rattle.hv_decls.specs.Paths.{has_index}
use Rattle.hv_rules.specs.declared.event.FlowEvent.{FlowEvent}
use Rattle.hv_rules.specs.declared.event.FlowEvent.TheVariants as event
use Rattle.hv_rules.specs.Events.{Belongs, ToNothing, ToDeclaration, ToEnd, Mark}

-- ---- leaves and paths

-- a leaf of a local, by the numbers of the fields that lead to it
pub record Leaf : Type 0 where
  pub root : ℕ
  pub fields : List ℕ

-- the fields of a path before its first index
abbrev pub fields_of : List StaticStep → List ℕ
fields_of [] = []
fields_of (step.Field f ∷ steps) = f ∷ fields_of steps
fields_of (step.Literal n ∷ steps) = []
fields_of (step.Any ∷ steps) = []

-- whether the first list is a front of the second
abbrev pub is_front : List ℕ → List ℕ → Bool
is_front [] ys = true
is_front (x ∷ xs) [] = false
is_front (x ∷ xs) (y ∷ ys) = (x == y) && is_front xs ys

-- whether the leaf is one of the path's; an index step and what follows it doesn't count
abbrev pub covers : StaticPath → Leaf → Bool
covers p l = (p.root == l.root) && is_front (fields_of p.steps) l.fields

-- ---- the parts of a state

-- what an access may do
pub data Mode : Type 0 where
  Reading : Mode
  Writing : Mode
  Setting : Mode

-- an open access, with the binding that it belongs to, or none where a call opened it
pub record Access : Type 0 where
  pub path : StaticPath
  pub mode : Mode
  pub binding : Option ℕ

-- what has become of a handle
pub data HandleState : Type 0 where
  NotSpawned : HandleState
  Spawned : HandleState
  Awaited : HandleState

-- the initialised leaves, the open accesses and the handles
pub record State : Type 0 where
  pub filled : Leaf → Bool
  -- the newest first
  pub accesses : List Access
  pub handles : ℕ → HandleState

-- ---- initialised leaves

-- all leaves of a path get the value, where the path has no index step
abbrev pub changed : StaticPath → Bool → (Leaf → Bool) → Leaf → Bool
changed p value filled = λ l. if covers p l && not (has_index p.steps) then value else filled l

-- local n has no initialised leaf
abbrev pub emptied : ℕ → (Leaf → Bool) → Leaf → Bool
emptied n filled = λ l. if n == l.root then false else filled l

-- ---- open accesses

-- the binding that an access belongs to
abbrev pub binding_of : Belongs → Option ℕ
binding_of ToNothing = None
binding_of (ToDeclaration n) = Some n
binding_of (ToEnd back handles missing) = None

-- one access more
abbrev pub opened : StaticPath → Mode → Belongs → List Access → List Access
opened p mode of accesses = record { path = p; mode = mode; binding = binding_of of } ∷ accesses

-- this access, or the other one where it belongs to a binding
abbrev pub unless_bound : Access → Option ℕ → Option Access → Option Access
unless_bound a None other = Some a
unless_bound a (Some n) other = other

-- of the accesses that calls opened, the one opened last
abbrev pub last_called : List Access → Option Access
last_called [] = None
last_called (a ∷ accesses) = unless_bound a a.binding (last_called accesses)

-- the accesses without this one, or with it where it belongs to a binding
abbrev pub dropped_or_kept : Access → Option ℕ → List Access → List Access → List Access
dropped_or_kept a None accesses others = accesses
dropped_or_kept a (Some n) accesses others = a ∷ others

-- the accesses without that one
abbrev pub closed : List Access → List Access
closed [] = []
closed (a ∷ accesses) = dropped_or_kept a a.binding accesses (closed accesses)

-- a set access fills its place as it closes
abbrev pub filled_by : StaticPath → Mode → (Leaf → Bool) → Leaf → Bool
filled_by p Reading filled = filled
filled_by p Writing filled = filled
filled_by p Setting filled = changed p true filled

-- what the closing access fills
abbrev pub filled_at_close : Option Access → (Leaf → Bool) → Leaf → Bool
filled_at_close None filled = filled
filled_at_close (Some a) filled = filled_by a.path a.mode filled

-- whether an access outlives the locals from n on
abbrev pub stays : ℕ → Option ℕ → Bool
stays n None = true
stays n (Some b) = nat_lt b n

-- the end of the locals from n on closes the accesses of these bindings
abbrev pub without_bindings : ℕ → List Access → List Access
without_bindings n accesses = filter (λ a. stays n a.binding) accesses

-- ---- handles

-- handle h becomes this, and the others stay
abbrev pub with_handle : ℕ → HandleState → (ℕ → HandleState) → ℕ → HandleState
with_handle h to handles = λ k. if h == k then to else handles k

-- ---- one event, and a list of them

-- the state with other leaves
abbrev pub filling : State → (Leaf → Bool) → State
filling s filled = record { filled = filled; accesses = s.accesses; handles = s.handles }

-- the state with one access more
abbrev pub opening : StaticPath → Mode → Belongs → State → State
opening p mode of s = record { filled = s.filled; accesses = opened p mode of s.accesses; handles = s.handles }

-- the state with a handle changed
abbrev pub handling : ℕ → HandleState → State → State
handling h to s = record { filled = s.filled; accesses = s.accesses; handles = with_handle h to s.handles }

-- what an event does
abbrev pub after_event : FlowEvent → Belongs → State → State
after_event event.Entry of s = s
after_event (event.Declare n) of s = filling s (emptied n s.filled)
after_event (event.Init p) of s = filling s (changed p true s.filled)
after_event (event.Use p) of s = s
after_event (event.Move p) of s = filling s (changed p false s.filled)
after_event (event.OpenRead p) of s = opening p Reading of s
after_event (event.OpenWrite p) of s = opening p Writing of s
after_event (event.OpenSet p) of s = opening p Setting of (filling s (changed p false s.filled))
after_event event.Close of s = record { filled = filled_at_close (last_called s.accesses) s.filled; accesses = closed s.accesses; handles = s.handles }
after_event (event.Spawn h) of s = handling h Spawned s
after_event (event.Await h) of s = handling h Awaited s
after_event event.Return of s = s
after_event (event.ScopeEnd n) of s = record { filled = s.filled; accesses = without_bindings n s.accesses; handles = s.handles }

-- what a mark does
abbrev pub after : Mark → State → State
after m s = after_event m.event m.belongs s

-- what a list of marks does
abbrev pub after_all : List Mark → State → State
after_all [] s = s
after_all (m ∷ ms) s = after_all ms (after m s)

-- before the first event
abbrev pub start : State
start = record { filled = λ l. false; accesses = []; handles = λ h. NotSpawned }

-- what a list of marks leaves
abbrev pub state_after : List Mark → State
state_after ms = after_all ms start

-- the initialised leaves, the open accesses and the handles after a list of events
abbrev pub Filled : List Mark → Leaf → Bool
Filled ms = (state_after ms).filled

abbrev pub Open : List Mark → List Access
Open ms = (state_after ms).accesses

abbrev pub Handles : List Mark → ℕ → HandleState
Handles ms = (state_after ms).handles
