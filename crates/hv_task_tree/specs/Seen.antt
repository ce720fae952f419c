-- What a node stands for in the meaning.
use Rattle.std.specs.Prelude.{[], ◌∷◌}
use Rattle.hv_sem_copying.specs.Node.{Id, Node, NodeOf, NoNodes}
use Rattle.hv_sem_copying.specs.Node as node
use Rattle.hv_partial.specs.HeldTree.{held_tree}
use Rattle.hv_task_tree.specs.declared.node.End.{End}
use Rattle.hv_task_tree.specs.declared.node.End.TheVariants as end
use Rattle.hv_task_tree.specs.declared.node.TaskNode.{TaskNode}

abbrev pub root : Id
root = 0 ∷ []

abbrev pub end_seen : End → node.End
end_seen (end.Done v) = node.Done (held_tree v)
end_seen (end.Trap kind at) = node.Trapped kind at root
end_seen (end.Spent at) = node.SpentAt at root

abbrev pub node_seen : TaskNode → Node
node_seen n = NodeOf root n.used (end_seen n.end) n.output NoNodes
