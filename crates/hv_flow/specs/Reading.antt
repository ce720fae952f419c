-- The graph of a plan, word by word.
use Rattle.std.specs.Prelude.{List, [], ◌∷◌, ◌++◌, length}
use Rattle.hv_flow.specs.declared.nodes.Node.{Node}
use Rattle.hv_flow.specs.declared.waiting.Part.{Part}
use Rattle.hv_flow.specs.declared.waiting.Frame.{Frame}
use Rattle.hv_flow.specs.declared.waiting.Frame.TheVariants as frame
use Rattle.hv_flow_plan.specs.declared.plan.FlowOp.{FlowOp}
use Rattle.hv_flow_plan.specs.declared.plan.FlowOp.TheVariants as op
use Rattle.hv_flow.specs.Graphs.{new_node, linked, nothing, then_part, either_part, loop_part, alone}

-- what waits for a part, the innermost first, and the nodes so far
pub record Progress : Type 0 where
  pub waiting : List Frame
  pub nodes : List Node

-- a part is there, and so is each operator that waited for it alone
abbrev pub given : Part → List Frame → List Node → Progress
given p [] ns = record { waiting = []; nodes = ns }
given p (frame.Before ∷ fs) ns = record { waiting = frame.Behind p ∷ fs; nodes = ns }
given p (frame.Behind q ∷ fs) ns = given (then_part q p) fs (linked q.last p.first ns)
given p (frame.OneSide ∷ fs) ns = record { waiting = frame.OtherSide p ∷ fs; nodes = ns }
given p (frame.OtherSide q ∷ fs) ns = given (either_part q p) fs ns
given p (frame.Turn ∷ fs) ns = given (loop_part p) fs (linked p.last p.first ns)

-- the next word
abbrev pub read : FlowOp → List Frame → List Node → Progress
read op.Skip fs ns = given nothing fs ns
read (op.Do e at) fs ns = given (alone (length ns) (length ns ∷ [])) fs (ns ++ new_node e at ∷ [])
read (op.Stop e at) fs ns = given (alone (length ns) []) fs (ns ++ new_node e at ∷ [])
read op.Then fs ns = record { waiting = frame.Before ∷ fs; nodes = ns }
read op.Either fs ns = record { waiting = frame.OneSide ∷ fs; nodes = ns }
read op.Loop fs ns = record { waiting = frame.Turn ∷ fs; nodes = ns }

-- all words
abbrev pub read_all : List FlowOp → List Frame → List Node → List Node
read_all [] fs ns = ns
read_all (o ∷ os) fs ns = read_all os (read o fs ns).waiting (read o fs ns).nodes
