-- The pass, by recursion on the flow and word by word.
use Rattle.std.specs.Prelude.{ℕ, ◌+◌, max, true, false, List, [], ◌∷◌, replicate, Option, Some, None}
use Rattle.hv_tree.specs.declared.refusal.Refusal.{Refusal}
use Rattle.hv_rules.specs.Flow.{Flow, Skip, Do, Stop, Then, Either, Loop}
use Rattle.hv_flow_versions.specs.declared.cell.Cell.{Cell}
use Rattle.hv_flow_versions.specs.Cells.{set_cells, joined, begun, turned}
use Rattle.hv_flow_versions.specs.Levels.{Levels, Saved, split, entered_level, sides_changed, sides_changed_within, joined_level, turned_level}
use Rattle.hv_flow_pass.specs.declared.act.Act.{Act}
use Rattle.hv_flow_pass.specs.declared.act.Act.TheVariants as act
use Rattle.hv_flow_pass.specs.declared.asked.Entry.{Entry}
use Rattle.hv_flow_pass.specs.declared.asked.Asks.{Asks}
use Rattle.hv_flow_pass.specs.declared.plan.PassOp.{PassOp}
use Rattle.hv_flow_pass.specs.declared.plan.PassOp.TheVariants as op
use Rattle.hv_flow_pass.specs.declared.known.Known.{Known}
use Rattle.hv_flow_pass.specs.declared.known.Frame.{Frame}
use Rattle.hv_flow_pass.specs.declared.known.Frame.TheVariants as frame
use Rattle.hv_flow_pass.specs.Hints.{no_hint}
use Rattle.hv_flow_pass.specs.Cells.{may_in, when, earlier, asked_in, found_in, passed_on}

-- ---- by recursion on the flow

-- what is known at a place
pub record Facts : Type 0 where
  -- none where nothing reaches
  pub cells : List Cell
  -- in the innermost turn of a loop
  pub asked : Asks
  pub found : Option Refusal

abbrev pub pass_act : Act → Facts → Facts
pass_act (act.Set range value) k = record { cells = set_cells value range.from range.count k.cells; asked = k.asked; found = k.found }
pass_act (act.Refuse range value r) k = record {
  cells = k.cells;
  asked = asked_in value r k.cells range.from range.count k.asked;
  found = earlier k.found (when (may_in value range.from range.count k.cells) (Some r));
}

abbrev pub pass_acts : List Act → Facts → Facts
pass_acts [] k = k
pass_acts (a ∷ acts) k = pass_acts acts (pass_act a k)

abbrev pub with_cells : List Cell → Facts → Facts
with_cells cs k = record { cells = cs; asked = k.asked; found = k.found }

-- nothing is reached
abbrev pub stopped : Facts → Facts
stopped k = with_cells [] k

-- the list of another turn, with the same hints
abbrev pub asks_in : List Entry → Asks → Asks
asks_in list asks = record { list = list; hints = asks.hints }

-- a turn begins, where anything may be
abbrev pub entered : Facts → Facts
entered k = record { cells = begun k.cells; asked = asks_in [] k.asked; found = k.found }

-- behind the loop, where its one turn came to this
abbrev pub left : Facts → Facts → Facts
left k turn = record {
  cells = turned k.cells turn.cells;
  asked = passed_on (turned k.cells turn.cells) turn.asked.list (asks_in k.asked.list turn.asked);
  found = found_in (turned k.cells turn.cells) turn.asked.list turn.found;
}

abbrev pub joined_with : List Cell → Facts → Facts
joined_with cs k = with_cells (joined cs k.cells) k

abbrev pub passed : Flow (List Act) → Facts → Facts
passed Skip k = k
passed (Do acts) k = pass_acts acts k
passed (Stop acts) k = stopped (pass_acts acts k)
passed (Then a b) k = passed b (passed a k)
passed (Either a b) k = joined_with (passed a k).cells (passed b (with_cells k.cells (passed a k)))
passed (Loop a) k = left k (passed a (entered k))

-- ---- word by word

-- what is known at a place, with the cells that wait there
abbrev pub with_saved : List Saved → Facts → Known
with_saved saved f = record { versions = record { now = f.cells; saved = saved }; asked = f.asked; found = f.found }

-- what is known here is changed, and the cells that wait stay
abbrev pub changed : (Facts → Facts) → Known → Known
changed change k = with_saved k.versions.saved (change (record { cells = k.versions.now; asked = k.asked; found = k.found }))

abbrev pub with_levels : Levels → Known → Known
with_levels l k = record { versions = l; asked = k.asked; found = k.found }

abbrev pub entered_known : Known → Known
entered_known k = record { versions = entered_level k.versions; asked = asks_in [] k.asked; found = k.found }

-- the turn ends, around which this was asked
abbrev pub left_known : List Entry → Known → Known
left_known outer k = record {
  versions = turned_level k.versions;
  asked = passed_on (turned_level k.versions).now k.asked.list (asks_in outer k.asked);
  found = found_in (turned_level k.versions).now k.asked.list k.found;
}

-- what waits for a part, the innermost first, and what is known
pub record Progress : Type 0 where
  pub waiting : List Frame
  pub known : Known

-- behind a side; sides that end together are one
abbrev pub waiting_behind : List Frame → List Frame
waiting_behind [] = frame.OtherSide ∷ []
waiting_behind (frame.Before ∷ fs) = frame.OtherSide ∷ (frame.Before ∷ fs)
waiting_behind (frame.OneSide ∷ fs) = frame.OtherSide ∷ (frame.OneSide ∷ fs)
waiting_behind (frame.OtherSide ∷ fs) = frame.OtherSide ∷ fs
waiting_behind (frame.Turn outer ∷ fs) = frame.OtherSide ∷ (frame.Turn outer ∷ fs)

-- and the cells
abbrev pub sides_changed_before : List Frame → Levels → Levels
sides_changed_before [] l = sides_changed l
sides_changed_before (frame.Before ∷ fs) l = sides_changed l
sides_changed_before (frame.OneSide ∷ fs) l = sides_changed l
sides_changed_before (frame.OtherSide ∷ fs) l = sides_changed_within l
sides_changed_before (frame.Turn outer ∷ fs) l = sides_changed l

-- a part is passed, and so is each operator that waited for it alone
abbrev pub given : List Frame → Known → Progress
given [] k = record { waiting = []; known = k }
given (frame.Before ∷ fs) k = record { waiting = fs; known = k }
given (frame.OneSide ∷ fs) k = record { waiting = waiting_behind fs; known = with_levels (sides_changed_before fs k.versions) k }
given (frame.OtherSide ∷ fs) k = given fs (with_levels (joined_level k.versions) k)
given (frame.Turn outer ∷ fs) k = given fs (left_known outer k)

-- the next word
abbrev pub read : PassOp → List Frame → Known → Progress
read op.Skip fs k = given fs k
read (op.Do acts) fs k = given fs (changed (pass_acts acts) k)
read (op.Stop acts) fs k = given fs (changed (λ f. stopped (pass_acts acts f)) k)
read op.Then fs k = record { waiting = frame.Before ∷ fs; known = k }
read op.Either fs k = record { waiting = frame.OneSide ∷ fs; known = with_levels (split k.versions) k }
read op.Loop fs k = record { waiting = frame.Turn k.asked.list ∷ fs; known = entered_known k }

-- all words
abbrev pub read_all : List PassOp → List Frame → Known → Known
read_all [] fs k = k
read_all (o ∷ os) fs k = read_all os (read o fs k).waiting (read o fs k).known

-- ---- the beginning

-- behind the last cell of an act, of acts and of a plan
abbrev pub act_end : Act → ℕ
act_end (act.Set range value) = range.from + range.count
act_end (act.Refuse range value r) = range.from + range.count

abbrev pub acts_end : ℕ → List Act → ℕ
acts_end n [] = n
acts_end n (a ∷ acts) = acts_end (max n (act_end a)) acts

abbrev pub op_end : ℕ → PassOp → ℕ
op_end n op.Skip = n
op_end n (op.Do acts) = acts_end n acts
op_end n (op.Stop acts) = acts_end n acts
op_end n op.Then = n
op_end n op.Either = n
op_end n op.Loop = n

abbrev pub plan_end : ℕ → List PassOp → ℕ
plan_end n [] = n
plan_end n (o ∷ os) = plan_end (op_end n o) os

-- so many cells, each a no
abbrev pub starting : ℕ → Facts
starting n = record { cells = replicate n (record { kept = false; no = true; yes = false }); asked = record { list = []; hints = replicate n no_hint }; found = None }
