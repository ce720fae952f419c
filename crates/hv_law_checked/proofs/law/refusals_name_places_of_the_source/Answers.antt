use Rattle.hv_law_checked.proofs.Placed.{first_placed}
use Rattle.hv_law_checked.proofs.law.refusals_name_places_of_the_source.Goals as goal

pub returns : goal.returns
returns c = first_placed
