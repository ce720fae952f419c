use Rattle.hv_law_checked.proofs.Inside.{places_inside, ends_apart}
use Rattle.hv_law_checked.proofs.law.programs_lie_inside_their_source.Goals as goal

pub returns-clause-inside : goal.returns-clause-inside
returns-clause-inside c = places_inside

pub returns-clause-apart : goal.returns-clause-apart
returns-clause-apart c = ends_apart
