use Rattle.hv_law_places.proofs.NamesTell.{names_tell_or_begin, types_tell}
use Rattle.hv_law_places.proofs.EventsTell.{events_tell}
use Rattle.hv_law_places.proofs.law.violations_name_places_of_the_tree.Goals as goal

pub returns-clause-names : goal.returns-clause-names
returns-clause-names c = names_tell_or_begin

pub returns-clause-types : goal.returns-clause-types
returns-clause-types c = types_tell

pub returns-clause-events : goal.returns-clause-events
returns-clause-events c = events_tell
