use Rattle.hv_law_checked.proofs.Begins.{tokens_begin, tokens_rise, tokens_apart, stop_lies}
use Rattle.hv_law_checked.proofs.law.tokens_begin_inside_the_source.Goals as goal

pub returns-clause-inside : goal.returns-clause-inside
returns-clause-inside c = tokens_begin

pub returns-clause-rising : goal.returns-clause-rising
returns-clause-rising c = tokens_rise

pub returns-clause-stops : goal.returns-clause-stops
returns-clause-stops c = stop_lies

pub returns-clause-alone : goal.returns-clause-alone
returns-clause-alone c = tokens_apart
