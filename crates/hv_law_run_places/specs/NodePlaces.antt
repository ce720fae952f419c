-- All places that stand in a task's node: those at which it or one below it ended.
use Rattle.std.specs.Prelude.{List, [], ◌∷◌, ◌++◌}
use Rattle.hv_tree.specs.declared.place.Place.{Place}
use Rattle.hv_sem_copying.specs.Node.{End, Done, Trapped, SpentAt, Node, NodeOf, Nodes, NoNodes, NodeAnd}

-- where a task ended, if not well
abbrev pub in_end : End → List Place
in_end (Done v) = []
in_end (Trapped kind at id) = at ∷ []
in_end (SpentAt at id) = at ∷ []

abbrev mutual
  -- that of its own end, and those of its children
  pub in_node : Node → List Place
  in_node (NodeOf id steps end output children) = in_end end ++ in_nodes children

  -- those of nodes
  pub in_nodes : Nodes → List Place
  in_nodes NoNodes = []
  in_nodes (NodeAnd n rest) = in_node n ++ in_nodes rest
