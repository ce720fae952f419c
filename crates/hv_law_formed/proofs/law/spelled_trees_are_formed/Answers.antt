use Rattle.hv_law_formed.proofs.Spelled.{spelled_formed}
use Rattle.hv_law_formed.proofs.law.spelled_trees_are_formed.Goals as goal

pub returns : goal.returns
returns c = spelled_formed
