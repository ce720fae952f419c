use Rattle.hv_law_places.proofs.TreesSay.{places_said}
use Rattle.hv_law_places.proofs.law.trees_name_places_of_their_tokens.Goals as goal

pub returns : goal.returns
returns c = places_said
