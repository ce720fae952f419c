-- The accesses that are open at each event of a body.
use Rattle.std.specs.Prelude.{◌≡◌, List, [], ◌∷◌, ◌++◌}
use Rattle.hv_tree.specs.Core.{Core}
use Rattle.hv_rules.specs.declared.event.FlowEvent.{FlowEvent}
use Rattle.hv_rules.specs.declared.event.FlowEvent.TheVariants as event
use Rattle.hv_rules.specs.Flow.{Flow, IsTrace}
use Rattle.hv_decls.specs.Locals.{CoreBody}
use Rattle.hv_rules.specs.Events.{Belongs, Mark, body_events}
use Rattle.hv_rules.specs.States.{Access, Reading, Writing, Setting, opened, closed, without_bindings, Open}
use Rattle.hv_rules.specs.Rules.{Trace}
use Rattle.hv_flow_traces.specs.Carried.{carrying, without}

-- the open accesses behind an event
abbrev pub open_behind : FlowEvent → Belongs → List Access → List Access
open_behind event.Entry of xs = xs
open_behind (event.Declare n) of xs = xs
open_behind (event.Init p) of xs = xs
open_behind (event.Use p) of xs = xs
open_behind (event.Move p) of xs = xs
open_behind (event.OpenRead p) of xs = opened p Reading of xs
open_behind (event.OpenWrite p) of xs = opened p Writing of xs
open_behind (event.OpenSet p) of xs = opened p Setting of xs
open_behind event.Close of xs = closed xs
open_behind (event.Spawn h) of xs = xs
open_behind (event.Await h) of xs = xs
open_behind event.Return of xs = xs
open_behind (event.ScopeEnd n) of xs = without_bindings n xs

abbrev pub opens : Mark → List Access → List Access
opens m xs = open_behind m.event m.belongs xs

-- a body's events, each with the accesses that the text before it leaves open
abbrev pub opened_at : Core → CoreBody → Flow (Mark × List Access)
opened_at tree body = carrying opens (body_events tree body) []

-- these accesses are open at an event at the end of a trace, exactly where the text says so
pub record IsOpenedAt (tree : Core) (body : CoreBody) : Type 0 where
  pub there : (ms : List Mark) (m : Mark) → Trace tree body (ms ++ m ∷ []) → (ps : List (Mark × List Access)) × IsTrace (opened_at tree body) (ps ++ (m, Open ms) ∷ []) × (without ps ≡ ms)
  pub only : (ps : List (Mark × List Access)) (m : Mark) (xs : List Access) → IsTrace (opened_at tree body) (ps ++ (m, xs) ∷ []) → Trace tree body (without ps ++ m ∷ []) × (xs ≡ Open (without ps))
