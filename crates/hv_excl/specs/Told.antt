-- Which binding the events of a plan belong to, told by the words around them.
use Rattle.std.specs.Prelude.{ℕ, List, [], ◌∷◌, Option, Some, None}
use Rattle.hv_rules.specs.declared.event.FlowEvent.{FlowEvent}
use Rattle.hv_rules.specs.declared.event.FlowEvent.TheVariants as event
use Rattle.hv_flow_plan.specs.declared.plan.FlowOp.{FlowOp}
use Rattle.hv_flow_plan.specs.declared.plan.FlowOp.TheVariants as op

-- the local that an event declares
abbrev pub declared_by : FlowEvent → Option ℕ
declared_by event.Entry = None
declared_by (event.Declare n) = Some n
declared_by (event.Init p) = None
declared_by (event.Use p) = None
declared_by (event.Move p) = None
declared_by (event.OpenRead p) = None
declared_by (event.OpenWrite p) = None
declared_by (event.OpenSet p) = None
declared_by event.Close = None
declared_by (event.Spawn h) = None
declared_by (event.Await h) = None
declared_by event.Return = None
declared_by (event.ScopeEnd n) = None

-- the local that a word declares
abbrev pub declares : FlowOp → Option ℕ
declares op.Skip = None
declares (op.Do e at) = declared_by e
declares (op.Stop e at) = None
declares op.Then = None
declares op.Either = None
declares op.Loop = None

-- the local that the first word declares
abbrev pub declared_first : List FlowOp → Option ℕ
declared_first [] = None
declared_first (o ∷ os) = declares o

-- the local that the word behind a Then declares
abbrev pub declared_next : List FlowOp → Option ℕ
declared_next [] = None
declared_next (op.Skip ∷ os) = None
declared_next (op.Do e at ∷ os) = None
declared_next (op.Stop e at ∷ os) = None
declared_next (op.Then ∷ os) = declared_first os
declared_next (op.Either ∷ os) = None
declared_next (op.Loop ∷ os) = None

-- the binding of an event: an Init stands behind the Declare of its local, and an access that a local keeps open before it
abbrev pub told_by : Option ℕ → Option ℕ → FlowEvent → Option ℕ
told_by before next event.Entry = None
told_by before next (event.Declare n) = None
told_by before next (event.Init p) = before
told_by before next (event.Use p) = None
told_by before next (event.Move p) = None
told_by before next (event.OpenRead p) = next
told_by before next (event.OpenWrite p) = next
told_by before next (event.OpenSet p) = next
told_by before next event.Close = None
told_by before next (event.Spawn h) = None
told_by before next (event.Await h) = None
told_by before next event.Return = None
told_by before next (event.ScopeEnd n) = None
