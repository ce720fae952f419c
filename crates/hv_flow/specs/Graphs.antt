-- The graph of a flow, as it is built.
use Rattle.std.specs.Prelude.{◌≡◌, ◌⊎◌, ℕ, zero, suc, true, false, ◌&&◌, ◌||◌, if◌then◌else◌, List, [], ◌∷◌, ◌++◌, length}
use Rattle.hv_tree.specs.declared.place.Place.{Place}
use Rattle.hv_rules.specs.declared.event.FlowEvent.{FlowEvent}
use Rattle.hv_flow.specs.Acts.{Act}
use Rattle.hv_flow.specs.declared.nodes.Node.{Node}
use Rattle.hv_flow.specs.declared.waiting.Part.{Part}
use Rattle.hv_rules.specs.Flow.{Flow, Skip, Do, Stop, Then, Either, Loop}

-- a node before any may come next
abbrev pub new_node : FlowEvent → Place → Node
new_node e at = record { event = e; place = at; next = [] }

abbrev pub node_of : Act → Node
node_of e = new_node e.event e.place

-- what stands at a node
abbrev pub act_at : Node → Act
act_at n = record { event = n.event; place = n.place }

-- more acts may follow the one act
abbrev pub extend_at : ℕ → List ℕ → List Node → List Node
extend_at i to [] = []
extend_at zero to (n ∷ ns) = record n { next = n.next ++ to } ∷ ns
extend_at (suc i) to (n ∷ ns) = n ∷ extend_at i to ns

-- and each of several
abbrev pub linked : List ℕ → List ℕ → List Node → List Node
linked [] to ns = ns
linked (i ∷ from) to ns = linked from to (extend_at i to ns)

-- the nodes so far, and the part that was built last
pub record Built : Type 0 where
  pub part : Part
  pub nodes : List Node

abbrev pub nothing : Part
nothing = record { first = []; last = []; empty = true }

abbrev pub then_part : Part → Part → Part
then_part p q =
    record { first = if p.empty then p.first ++ q.first else p.first; last = if q.empty then p.last ++ q.last else q.last; empty = p.empty && q.empty }

abbrev pub either_part : Part → Part → Part
either_part p q = record { first = p.first ++ q.first; last = p.last ++ q.last; empty = p.empty || q.empty }

abbrev pub loop_part : Part → Part
loop_part p = record p { empty = true }

abbrev pub alone : ℕ → List ℕ → Part
alone k last = record { first = k ∷ []; last = last; empty = false }

abbrev pub then_built : Part → Built → Built
then_built p b = record { part = then_part p b.part; nodes = linked p.last b.part.first b.nodes }

abbrev pub either_built : Part → Built → Built
either_built p b = record { part = either_part p b.part; nodes = b.nodes }

abbrev pub loop_built : Built → Built
loop_built b = record { part = loop_part b.part; nodes = linked b.part.last b.part.first b.nodes }

abbrev pub built : Flow Act → List Node → Built
built Skip ns = record { part = nothing; nodes = ns }
built (Do e) ns = record { part = alone (length ns) (length ns ∷ []); nodes = ns ++ node_of e ∷ [] }
built (Stop e) ns = record { part = alone (length ns) []; nodes = ns ++ node_of e ∷ [] }
built (Then a b) ns = then_built (built a ns).part (built b (built a ns).nodes)
built (Either a b) ns = either_built (built a ns).part (built b (built a ns).nodes)
built (Loop a) ns = loop_built (built a ns)

-- ---- what the graph is

abbrev pub next_of : List Node → ℕ → List ℕ
next_of [] i = []
next_of (n ∷ ns) zero = n.next
next_of (n ∷ ns) (suc i) = next_of ns i

abbrev pub Among : List ℕ → ℕ → Type 0
Among [] j = ⊥
Among (x ∷ xs) j = (x ≡ j) ⊎ Among xs j

abbrev pub Edge : List Node → ℕ → ℕ → Type 0
Edge ns i j = Among (next_of ns i) j

abbrev pub ActAt : List Node → ℕ → Act → Type 0
ActAt [] i e = ⊥
ActAt (n ∷ ns) zero e = e ≡ act_at n
ActAt (n ∷ ns) (suc i) e = ActAt ns i e
