-- What the words of a plan tell of its events.
use Rattle.std.specs.Prelude.{ℕ, List, [], ◌∷◌, ◌++◌, Option}
use Rattle.hv_flow_plan.specs.declared.plan.FlowOp.{FlowOp}
use Rattle.hv_flow_plan.specs.declared.plan.FlowOp.TheVariants as op
use Rattle.hv_excl.specs.Told.{declares}
use Rattle.hv_excl.specs.Judged.{told_op}
use Rattle.hv_init_needs.specs.Sight.{sight_behind, Seen}

-- the event of a word that belongs to this declaration, or to none, with this in sight
abbrev pub seen_op : Option ℕ → List ℕ → FlowOp → List Seen
seen_op of ks op.Skip = []
seen_op of ks (op.Do e at) = record { event = e; declaration = of; sight = ks } ∷ []
seen_op of ks (op.Stop e at) = record { event = e; declaration = of; sight = ks } ∷ []
seen_op of ks op.Then = []
seen_op of ks op.Either = []
seen_op of ks op.Loop = []

-- what is in sight behind such a word
abbrev pub sight_op : Option ℕ → FlowOp → List ℕ → List ℕ
sight_op of op.Skip ks = ks
sight_op of (op.Do e at) ks = sight_behind e of ks
sight_op of (op.Stop e at) ks = sight_behind e of ks
sight_op of op.Then ks = ks
sight_op of op.Either ks = ks
sight_op of op.Loop ks = ks

-- the events of words, behind a word that declares this, with this in sight
abbrev pub seen_words : Option ℕ → List ℕ → List FlowOp → List Seen
seen_words before ks [] = []
seen_words before ks (o ∷ os) = seen_op (told_op before o os) ks o ++ seen_words (declares o) (sight_op (told_op before o os) o ks) os
