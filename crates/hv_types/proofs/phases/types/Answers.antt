use Rattle.hv_tree.specs.Core.{core_tree}
use Rattle.hv_types.proofs.Great.{found_first}
use Rattle.hv_types.proofs.phases.types.Goals as goal

pub returns : goal.returns
returns c = found_first (core_tree c.args.tree.now) c.in_ok-found.found.items _ c.first.result c.in_ok-found.ensures c.as_slice.ensures.value c.first.ensures
