-- Reading a plan passes over its flow.
use Rattle.std.proofs.Common.{◌≡◌, Bool, true, false, ◌||◌, List, [], ◌∷◌, ◌++◌, refl, sym, ◌∙◌, ap, append_assoc}
use Rattle.std.proofs.lemmas.List.{append-nil}
use Rattle.hv_rules.specs.Flow.{Flow, Skip, Do, Stop, Then, Either, Loop}
use Rattle.hv_flow_versions.specs.declared.cell.Cell.{Cell}
use Rattle.hv_flow_versions.specs.Cells.{either_cell, joined}
use Rattle.hv_flow_versions.specs.Levels.{Saved}
use Rattle.hv_flow_versions.specs.Levels as saved
use Rattle.hv_flow_pass.specs.declared.act.Act.{Act}
use Rattle.hv_flow_pass.specs.declared.asked.Entry.{Entry}
use Rattle.hv_flow_pass.specs.declared.plan.PassOp.{PassOp}
use Rattle.hv_flow_pass.specs.declared.known.Known.{Known}
use Rattle.hv_flow_pass.specs.declared.known.Frame.{Frame}
use Rattle.hv_flow_pass.specs.declared.known.Frame.TheVariants as frame
use Rattle.hv_flow_pass.specs.Plans.{plan_of}
use Rattle.hv_flow_pass.specs.Passes.{Facts, with_saved, Progress, with_cells, entered, joined_with, passed, given, read_all}

or_assoc : (a b c : Bool) → ((a || b) || c) ≡ (a || (b || c))
or_assoc true b c = refl
or_assoc false b c = refl

either_assoc : (c d e : Cell) → either_cell (either_cell c d) e ≡ either_cell c (either_cell d e)
either_assoc c d e = rw (or_assoc c.kept d.kept e.kept, or_assoc c.no d.no e.no, or_assoc c.yes d.yes e.yes)

joined_assoc : (cs ds es : List Cell) → joined (joined cs ds) es ≡ joined cs (joined ds es)
joined_assoc [] ds es = refl
joined_assoc (c ∷ cs) [] es = refl
joined_assoc (c ∷ cs) (d ∷ ds) [] = refl
joined_assoc (c ∷ cs) (d ∷ ds) (e ∷ es) = rw (either_assoc c d e, joined_assoc cs ds es)

-- ---- what waits, with its cells

-- an operator that waits for a part
data Open : Type 0 where
  before : Open
  one_side : List Cell → Open
  other_side : List Cell → Open
  turn : List Cell → List Entry → Open

abbrev frames_of : List Open → List Frame
frames_of [] = []
frames_of (before ∷ ws) = frame.Before ∷ frames_of ws
frames_of (one_side cs ∷ ws) = frame.OneSide ∷ frames_of ws
frames_of (other_side cs ∷ ws) = frame.OtherSide ∷ frames_of ws
frames_of (turn cs outer ∷ ws) = frame.Turn outer ∷ frames_of ws

abbrev saved_of : List Open → List Saved
saved_of [] = []
saved_of (before ∷ ws) = saved_of ws
saved_of (one_side cs ∷ ws) = saved.OneSide cs ∷ saved_of ws
saved_of (other_side cs ∷ ws) = saved.OtherSide cs ∷ saved_of ws
saved_of (turn cs outer ∷ ws) = saved.Turn cs ∷ saved_of ws

-- the cells wait behind a side; sides that end together are one
abbrev open_behind : List Cell → List Open → List Open
open_behind cs [] = other_side cs ∷ []
open_behind cs (before ∷ ws) = other_side cs ∷ (before ∷ ws)
open_behind cs (one_side ds ∷ ws) = other_side cs ∷ (one_side ds ∷ ws)
open_behind cs (other_side ds ∷ ws) = other_side (joined ds cs) ∷ ws
open_behind cs (turn ds outer ∷ ws) = other_side cs ∷ (turn ds outer ∷ ws)

-- a part is passed, where this waits
abbrev given_to : List Open → Facts → Progress
given_to ws f = given (frames_of ws) (with_saved (saved_of ws) f)

given_side : (cs : List Cell) (ws : List Open) (f : Facts) →
    given_to (one_side cs ∷ ws) f ≡ record { waiting = frames_of (open_behind f.cells ws); known = with_saved (saved_of (open_behind f.cells ws)) (with_cells cs f) }
given_side cs [] f = refl
given_side cs (before ∷ ws) f = refl
given_side cs (one_side ds ∷ ws) f = refl
given_side cs (other_side ds ∷ ws) f = refl
given_side cs (turn ds outer ∷ ws) f = refl

given_behind : (cs : List Cell) (ws : List Open) (f : Facts) → given_to (open_behind cs ws) f ≡ given_to ws (joined_with cs f)
given_behind cs [] f = refl
given_behind cs (before ∷ ws) f = refl
given_behind cs (one_side ds ∷ ws) f = refl
given_behind cs (other_side ds ∷ ws) f = ap (λ (w : List Cell). given_to ws (with_cells w f)) (joined_assoc ds cs f.cells)
given_behind cs (turn ds outer ∷ ws) f = refl

-- ---- a plan

-- what is read after the part of a flow
abbrev behind : Progress → List PassOp → Known
behind p os = read_all os p.waiting p.known

abbrev read_to : List PassOp → List Open → Facts → Known
read_to os ws f = read_all os (frames_of ws) (with_saved (saved_of ws) f)

read_flow : (f : Flow (List Act)) (os : List PassOp) (ws : List Open) (k : Facts) → read_to (plan_of f ++ os) ws k ≡ behind (given_to ws (passed f k)) os
read_flow Skip os ws k = refl
read_flow (Do acts) os ws k = refl
read_flow (Stop acts) os ws k = refl
read_flow (Then a b) os ws k =
    ap (λ (w : List PassOp). read_to w (before ∷ ws) k) (append_assoc (plan_of a) (plan_of b) os) ∙ (read_flow a (plan_of b ++ os) (before ∷ ws) k ∙ read_flow b os ws (passed a k))
read_flow (Either a b) os ws k =
    let side = with_cells k.cells (passed a k) in
    let cs = (passed a k).cells in
    ap (λ (w : List PassOp). read_to w (one_side k.cells ∷ ws) k) (append_assoc (plan_of a) (plan_of b) os) ∙ (read_flow a (plan_of b ++ os) (one_side k.cells ∷ ws) k ∙
    (ap (λ (p : Progress). behind p (plan_of b ++ os)) (given_side k.cells ws (passed a k)) ∙ (read_flow b os (open_behind cs ws) side ∙
    ap (λ (p : Progress). behind p os) (given_behind cs ws (passed b side)))))
read_flow (Loop a) os ws k = read_flow a os (turn k.cells k.asked.list ∷ ws) (entered k)

pub read_plan : (f : Flow (List Act)) (k : Facts) → read_all (plan_of f) [] (with_saved [] k) ≡ with_saved [] (passed f k)
read_plan f k = ap (λ (w : List PassOp). read_to w [] k) (sym (append-nil (plan_of f))) ∙ read_flow f [] [] k
