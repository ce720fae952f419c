use Rattle.hv_law_run_places.proofs.NodesTell.{nodes_tell}
use Rattle.hv_law_run_places.proofs.law.nodes_name_places_of_the_tree.Goals as goal

pub returns : goal.returns
returns c = nodes_tell
