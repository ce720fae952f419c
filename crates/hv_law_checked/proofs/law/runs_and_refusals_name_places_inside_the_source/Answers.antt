use Rattle.hv_law_checked.proofs.Inside.{nodes_inside, names_inside, types_inside, events_inside}
use Rattle.hv_law_checked.proofs.law.runs_and_refusals_name_places_inside_the_source.Goals as goal

pub returns-clause-runs : goal.returns-clause-runs
returns-clause-runs c = nodes_inside

pub returns-clause-names : goal.returns-clause-names
returns-clause-names c = names_inside

pub returns-clause-types : goal.returns-clause-types
returns-clause-types c = types_inside

pub returns-clause-events : goal.returns-clause-events
returns-clause-events c = events_inside
