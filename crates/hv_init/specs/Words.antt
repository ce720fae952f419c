-- The acts of a plan of events, word by word, where the ends are handed to the events one by one.
use Rattle.std.specs.Prelude.{ℕ, false, if◌then◌else◌, List, [], ◌∷◌, ◌++◌, map, Option}
use Rattle.hv_tree.specs.declared.place.Place.{Place}
use Rattle.hv_tree.specs.declared.refusal.Rule.TheVariants as rule
use Rattle.hv_rules.specs.declared.event.FlowEvent.{FlowEvent}
use Rattle.hv_rules.specs.States.{Access}
use Rattle.hv_rules.specs.Rules.{asks_whole}
use Rattle.hv_flow_plan.specs.declared.plan.FlowOp.{FlowOp}
use Rattle.hv_flow_plan.specs.declared.plan.FlowOp.TheVariants as op
use Rattle.hv_flow_pass.specs.declared.act.Act.{Act}
use Rattle.hv_flow_pass.specs.declared.act.Act.TheVariants as act
use Rattle.hv_flow_pass.specs.declared.plan.PassOp.{PassOp}
use Rattle.hv_flow_pass.specs.declared.plan.PassOp.TheVariants as pass
use Rattle.hv_flow_ends.specs.declared.span.Span.{Span}
use Rattle.hv_flow_ends.specs.declared.span.End.{End}
use Rattle.hv_flow_ends.specs.Ends.{is_end}
use Rattle.hv_flow_ends.specs.Words.{ends_behind}
use Rattle.hv_excl.specs.Told.{declares}
use Rattle.hv_excl.specs.Judged.{open_op, told_op}
use Rattle.hv_init_cells.specs.Layout.{Layout}
use Rattle.hv_init_cells.specs.Acts.{refusal, whole_asked, missing_asked, sets}
use Rattle.hv_init_layout.specs.Spans.{span_of}

-- ---- what is asked

-- the locals of a span that are written back have to be initialised
abbrev pub span_asked : Layout → Place → Span → Act
span_asked l at s = act.Refuse (span_of l s.first s.count) false (refusal rule.I2 at)

abbrev pub end_asked : Layout → Place → End → List Act
end_asked l at e = map (span_asked l at) e.back ++ missing_asked l at e.missing

-- at the first of these ends
abbrev pub next_asked : Layout → Place → List End → List Act
next_asked l at [] = []
next_asked l at (e ∷ ends) = end_asked l at e

-- at an event, where these ends are to come
abbrev pub ended_asked : Layout → FlowEvent → Place → List End → List Act
ended_asked l e at ends = if is_end e then next_asked l at ends else []

-- ---- words

-- the acts of an event, where an end asks this and these accesses are open
abbrev pub acts_with : Layout → FlowEvent → Place → List Act → List Access → List Act
acts_with l e at asked xs = (whole_asked l at (asks_whole e) ++ asked) ++ sets l e xs

abbrev pub event_acts : Layout → List Access → List End → FlowEvent → Place → List Act
event_acts l xs ends e at = acts_with l e at (ended_asked l e at ends) xs

abbrev pub init_word : Layout → List Access → List End → FlowOp → PassOp
init_word l xs ends op.Skip = pass.Skip
init_word l xs ends (op.Do e at) = pass.Do (event_acts l xs ends e at)
init_word l xs ends (op.Stop e at) = pass.Stop (event_acts l xs ends e at)
init_word l xs ends op.Then = pass.Then
init_word l xs ends op.Either = pass.Either
init_word l xs ends op.Loop = pass.Loop

-- behind a word that declares this, or nothing
abbrev pub init_words : Layout → Option ℕ → List Access → List End → List FlowOp → List PassOp
init_words l before xs ends [] = []
init_words l before xs ends (o ∷ os) = init_word l xs ends o ∷ init_words l (declares o) (open_op (told_op before o os) o xs) (ends_behind o ends) os
