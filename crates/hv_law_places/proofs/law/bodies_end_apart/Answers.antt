use Rattle.hv_law_places.proofs.EndsFit.{bodies_apart}
use Rattle.hv_law_places.proofs.law.bodies_end_apart.Goals as goal

pub returns : goal.returns
returns c = bodies_apart
