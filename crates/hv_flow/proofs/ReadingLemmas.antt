-- Reading a plan builds the graph of its flow.
use Rattle.std.proofs.Common.{◌≡◌, List, [], ◌∷◌, ◌++◌, refl, sym, ◌∙◌, ap, append_assoc}
use Rattle.std.proofs.lemmas.List.{append-nil}
use Rattle.hv_rules.specs.Flow.{Skip, Do, Stop, Then, Either, Loop}
use Rattle.hv_rules.specs.Events.{Events}
use Rattle.hv_flow.specs.declared.nodes.Node.{Node}
use Rattle.hv_flow.specs.declared.waiting.Frame.{Frame}
use Rattle.hv_flow.specs.declared.waiting.Frame.TheVariants as frame
use Rattle.hv_flow_plan.specs.declared.plan.FlowOp.{FlowOp}
use Rattle.hv_flow.specs.Acts.{acts_of}
use Rattle.hv_flow_plan.specs.Spelling.{plan_of}
use Rattle.hv_flow.specs.Graphs.{built}
use Rattle.hv_flow.specs.Reading.{given, read_all}

-- what is read after the part of a flow
abbrev behind : Events → List FlowOp → List Frame → List Node → List Node
behind f os fs ns = read_all os (given (built (acts_of f) ns).part fs (built (acts_of f) ns).nodes).waiting (given (built (acts_of f) ns).part fs (built (acts_of f) ns).nodes).nodes

read_flow : (f : Events) (os : List FlowOp) (fs : List Frame) (ns : List Node) → read_all (plan_of f ++ os) fs ns ≡ behind f os fs ns
read_flow Skip os fs ns = refl
read_flow (Do m) os fs ns = refl
read_flow (Stop m) os fs ns = refl
read_flow (Then a b) os fs ns =
    ap (λ (w : List FlowOp). read_all w (frame.Before ∷ fs) ns) (append_assoc (plan_of a) (plan_of b) os) ∙ (read_flow a (plan_of b ++ os) (frame.Before ∷ fs) ns ∙
    read_flow b os (frame.Behind (built (acts_of a) ns).part ∷ fs) (built (acts_of a) ns).nodes)
read_flow (Either a b) os fs ns =
    ap (λ (w : List FlowOp). read_all w (frame.OneSide ∷ fs) ns) (append_assoc (plan_of a) (plan_of b) os) ∙ (read_flow a (plan_of b ++ os) (frame.OneSide ∷ fs) ns ∙
    read_flow b os (frame.OtherSide (built (acts_of a) ns).part ∷ fs) (built (acts_of a) ns).nodes)
read_flow (Loop a) os fs ns = read_flow a os (frame.Turn ∷ fs) ns

pub read_plan : (f : Events) → read_all (plan_of f) [] [] ≡ (built (acts_of f) []).nodes
read_plan f = ap (λ (w : List FlowOp). read_all w [] []) (sym (append-nil (plan_of f))) ∙ read_flow f [] [] []
