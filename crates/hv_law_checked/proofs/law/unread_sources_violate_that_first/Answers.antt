use Rattle.hv_law_checked.proofs.Unread.{unread_first, read_obeys}
use Rattle.hv_law_checked.proofs.law.unread_sources_violate_that_first.Goals as goal

pub returns-clause-first : goal.returns-clause-first
returns-clause-first c = unread_first

pub returns-clause-none : goal.returns-clause-none
returns-clause-none c = read_obeys
