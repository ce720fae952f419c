-- The texts of the root, whose numbers are `0`.
use Rattle.std.proofs.Common.{◌≡◌, ℕ, List, [], ◌∷◌, ◌++◌, refl, ap, ◌∙◌, append-nil}
use Rattle.std.specs.Prelude.{codes, decimal}
use Rattle.std.specs.Fmt.{digits}
use Rattle.hv_tree.specs.declared.place.Place.{Place}
use Rattle.hv_sem_copying.specs.declared.end.TrapKind.{TrapKind}
use Rattle.hv_task_tree.specs.Seen.{root, end_seen, node_seen}
use Rattle.hv_task_tree.specs.declared.node.End.TheVariants as end
use Rattle.hv_task_tree.specs.declared.node.TaskNode.{TaskNode}
use Rattle.hv_report.specs.Lines.{at_place, kind_name, id_text, ending, task_line, task_lines}

root_named : id_text root ≡ codes "0"
unfolding digits
root_named = refl

pub trap_said : (source : List ℕ) (kind : TrapKind) (at : Place) → ending source (end_seen (end.Trap kind at)) ≡ codes "trap " ++ (kind_name kind ++ (codes " at " ++ at_place source at (codes " in 0")))
trap_said source kind at = ap (λ t. codes "trap " ++ (kind_name kind ++ (codes " at " ++ at_place source at (codes " in " ++ t)))) root_named

pub spent_said : (source : List ℕ) (at : Place) → ending source (end_seen (end.Spent at)) ≡ codes "spent at " ++ at_place source at (codes " in 0")
spent_said source at = ap (λ t. codes "spent at " ++ at_place source at (codes " in " ++ t)) root_named

pub task_said : (source : List ℕ) (node : TaskNode) → task_lines source (node_seen node) ≡ codes "task 0 steps " ++ (decimal node.used ++ (codes " " ++ (ending source (end_seen node.end) ++ 10 ∷ [])))
task_said source node =
    append-nil (task_line source root node.used (end_seen node.end))
    ∙ ap (λ t. codes "task " ++ (t ++ (codes " steps " ++ (decimal node.used ++ (codes " " ++ (ending source (end_seen node.end) ++ 10 ∷ [])))))) root_named
