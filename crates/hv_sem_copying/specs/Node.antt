-- What a task did, and how it ended.
use Rattle.std.specs.Prelude.{ℕ, List, [], ◌∷◌}
use Rattle.hv_tree.specs.declared.place.Place.{Place}
use Rattle.hv_value.specs.ValueTree.{ValueTree}
use Rattle.hv_sem_copying.specs.declared.end.TrapKind.{TrapKind}

-- a task's name: the root is 0, and the m-th spawn of a task, from 0, adds m
abbrev pub Id : Type 0
Id = List ℕ

pub data End : Type 0 where
  Done : ValueTree → End
  -- the kind, the place, and the task in which it came
  Trapped : TrapKind → Place → Id → End
  -- the place of what could not be paid, and the task
  SpentAt : Place → Id → End

mutual
  -- the id, the steps used, the end, the output and the children in the order of their spawns
  pub data Node : Type 0 where
    NodeOf : Id → ℕ → End → List ℕ → Nodes → Node

  pub data Nodes : Type 0 where
    NoNodes : Nodes
    NodeAnd : Node → Nodes → Nodes

abbrev pub nodes : List Node → Nodes
nodes [] = NoNodes
nodes (n ∷ ns) = NodeAnd n (nodes ns)

abbrev pub used : Node → ℕ
used (NodeOf id steps end output children) = steps

abbrev pub end_of : Node → End
end_of (NodeOf id steps end output children) = end

abbrev pub output_of : Node → List ℕ
output_of (NodeOf id steps end output children) = output
