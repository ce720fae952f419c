-- All cells and the parts that are open, as the code computes them, and how they are seen.
use Rattle.std.specs.Prelude.{◌≡◌, ℕ, suc, ◌+◌, ◌≤◌, nat_eq, Bool, true, false, not, ◌||◌, if◌then◌else◌, List, [], ◌∷◌, ◌++◌, length, map, drop, take, replicate, Option, Some, None}
use Rattle.hv_flow_versions.specs.declared.cell.Cell.{Cell}
use Rattle.hv_flow_versions.specs.declared.version.Version.{Version}
use Rattle.hv_flow_versions.specs.declared.version.Site.{Site}
use Rattle.hv_flow_versions.specs.declared.history.History.{History}
use Rattle.hv_flow_versions.specs.declared.closing.Closing.{Closing}
use Rattle.hv_flow_versions.specs.declared.closing.Closing.TheVariants as closing
use Rattle.hv_flow_versions.specs.declared.part.Kind.{Kind}
use Rattle.hv_flow_versions.specs.declared.part.Kind.TheVariants as kind
use Rattle.hv_flow_versions.specs.declared.part.Part.{Part}
use Rattle.hv_flow_versions.specs.declared.state.State.{State}
use Rattle.hv_flow_versions.specs.Cells.{is_reached}
use Rattle.hv_flow_versions.specs.Levels.{Levels, Saved, OneSide, OtherSide, Turn}
use Rattle.hv_flow_versions.specs.Stacks.{first_of, rest_of, with_first}
use Rattle.hv_flow_versions.specs.Histories.{first_history, visible, sides_at, stripped, set_history, changed_at, is_new, closed_all, kept_all}

-- ---- what the calls do

-- how many sides are passed that were reached to their end
abbrev pub number : Kind → ℕ
number (kind.OneSide before) = 0
number (kind.OtherSide sides) = sides
number (kind.Turn before) = 0

abbrev pub sides_in : Option Part → ℕ
sides_in None = 0
sides_in (Some p) = number p.kind

abbrev pub site_of : List Part → ℕ → Site
site_of ps turn = record { depth = length ps; sides = sides_in (first_of ps); turn = turn }

abbrev pub starting_state : ℕ → State
starting_state n = record { histories = replicate n first_history; trail = []; parts = []; reached = true; turn = 0 }

abbrev pub listed_state : ℕ → State → State
listed_state i s = record {
  histories = s.histories;
  trail = if is_new (length s.parts) i 0 s.histories then s.trail ++ i ∷ [] else s.trail;
  parts = s.parts;
  reached = s.reached;
  turn = s.turn;
}

abbrev pub set_state : Bool → ℕ → State → State
set_state value i s = record {
  histories = if s.reached then changed_at (set_history (site_of s.parts s.turn) value) i 0 s.histories else s.histories;
  trail = s.trail;
  parts = s.parts;
  reached = s.reached;
  turn = s.turn;
}

abbrev pub stopped_state : State → State
stopped_state s = record { histories = s.histories; trail = s.trail; parts = s.parts; reached = false; turn = s.turn }

abbrev pub opened_state : Kind → State → State
opened_state k s = record {
  histories = s.histories;
  trail = s.trail;
  parts = (record { kind = k; from = length s.trail; around = s.turn }) ∷ s.parts;
  reached = s.reached;
  turn = s.turn;
}

abbrev pub split_state : State → State
split_state s = opened_state (kind.OneSide s.reached) s

abbrev pub entered_state : State → State
entered_state s = record {
  histories = s.histories;
  trail = s.trail;
  parts = (record { kind = kind.Turn s.reached; from = length s.trail; around = s.turn }) ∷ s.parts;
  reached = s.reached;
  turn = suc (length s.parts);
}

-- the cells of the part of this depth are as in the other side, or as outside
abbrev pub closed_state : ℕ → ℕ → Closing → State → State
closed_state from d k s = record {
  histories = closed_all d k (drop from s.trail) s.histories;
  trail = s.trail;
  parts = s.parts;
  reached = s.reached;
  turn = s.turn;
}

-- the part of this depth ends
abbrev pub ended_state : ℕ → ℕ → Closing → State → State
ended_state from d k s = record {
  histories = closed_all d k (drop from s.trail) s.histories;
  trail = take from s.trail ++ kept_all d k (drop from s.trail) s.histories;
  parts = s.parts;
  reached = s.reached;
  turn = s.turn;
}

abbrev pub with_parts : List Part → State → State
with_parts ps s = record { histories = s.histories; trail = s.trail; parts = ps; reached = s.reached; turn = s.turn }

abbrev pub with_reached : Bool → State → State
with_reached r s = record { histories = s.histories; trail = s.trail; parts = s.parts; reached = r; turn = s.turn }

abbrev pub with_turn : ℕ → State → State
with_turn t s = record { histories = s.histories; trail = s.trail; parts = s.parts; reached = s.reached; turn = t }

-- ---- the other side begins

abbrev pub begin_other : Bool → ℕ → ℕ → State → State
begin_other before from around s = with_reached before
    (with_parts (with_first (record { kind = kind.OtherSide (if s.reached then 1 else 0); from = from; around = around }) s.parts)
    (closed_state from (length s.parts) (if s.reached then closing.ChangeSides around else closing.Uncover) s))

abbrev pub sides_changed_in : Kind → ℕ → ℕ → State → State
sides_changed_in (kind.OneSide before) from around s = begin_other before from around s
sides_changed_in (kind.OtherSide sides) from around s = s
sides_changed_in (kind.Turn before) from around s = s

abbrev pub sides_changed_by : Option Part → State → State
sides_changed_by None s = s
sides_changed_by (Some p) s = sides_changed_in p.kind p.from p.around s

abbrev pub sides_changed_state : State → State
sides_changed_state s = sides_changed_by (first_of s.parts) s

-- ---- the same, one side more

abbrev pub sides_put : ℕ → Option Part → State → State
sides_put sides None s = s
sides_put sides (Some p) s = with_parts (with_first (record { kind = kind.OtherSide sides; from = p.from; around = p.around }) s.parts) s

abbrev pub with_sides : ℕ → State → State
with_sides sides s = sides_put sides (first_of s.parts) s

abbrev pub pass_in : ℕ → ℕ → ℕ → State → State
pass_in from d sides s = if s.reached
    then with_sides (sides + 1) (ended_state from d (closing.Pass (site_of s.parts s.turn) (sides + 1)) s)
    else ended_state from d closing.Uncover s

abbrev pub passed_state : Bool → ℕ → ℕ → State → State
passed_state before from sides s = with_reached before (pass_in from (length s.parts) sides (with_parts (rest_of s.parts) s))

abbrev pub passed_between : Kind → ℕ → Kind → State → State
passed_between (kind.OneSide before) from (kind.OneSide b) s = sides_changed_state s
passed_between (kind.OneSide before) from (kind.OtherSide sides) s = passed_state before from sides s
passed_between (kind.OneSide before) from (kind.Turn b) s = sides_changed_state s
passed_between (kind.OtherSide n) from k s = sides_changed_state s
passed_between (kind.Turn before) from k s = sides_changed_state s

abbrev pub sides_changed_within_by : Option Part → Option Part → State → State
sides_changed_within_by None q s = sides_changed_state s
sides_changed_within_by (Some p) None s = sides_changed_state s
sides_changed_within_by (Some p) (Some q) s = passed_between p.kind p.from q.kind s

abbrev pub sides_changed_within_state : State → State
sides_changed_within_state s = sides_changed_within_by (first_of s.parts) (first_of (rest_of s.parts)) s

-- ---- the other side ends

abbrev pub join_in : ℕ → ℕ → ℕ → State → State
join_in from d sides s = with_reached (not (nat_eq sides 0) || s.reached) (ended_state from d (closing.Join (site_of s.parts s.turn) sides s.reached) s)

abbrev pub joined_in : Kind → ℕ → State → State
joined_in (kind.OneSide before) from s = s
joined_in (kind.OtherSide sides) from s = join_in from (length s.parts) sides (with_parts (rest_of s.parts) s)
joined_in (kind.Turn before) from s = s

abbrev pub joined_by : Option Part → State → State
joined_by None s = s
joined_by (Some p) s = joined_in p.kind p.from s

abbrev pub joined_state : State → State
joined_state s = joined_by (first_of s.parts) s

-- ---- the turn ends

abbrev pub leave_in : Bool → ℕ → ℕ → State → State
leave_in before from d s = with_reached before (ended_state from d (if s.reached then closing.Leave (site_of s.parts s.turn) else closing.Uncover) s)

abbrev pub left_in : Kind → ℕ → ℕ → State → State
left_in (kind.OneSide before) from around s = s
left_in (kind.OtherSide sides) from around s = s
left_in (kind.Turn before) from around s = leave_in before from (length s.parts) (with_turn around (with_parts (rest_of s.parts) s))

abbrev pub left_by : Option Part → State → State
left_by None s = s
left_by (Some p) s = left_in p.kind p.from p.around s

abbrev pub left_state : State → State
left_state s = left_by (first_of s.parts) s

-- ---- how it is seen

-- what isn't reached has no cells
abbrev pub if_reached : Bool → List Cell → List Cell
if_reached reached cs = if reached then cs else []

abbrev pub now_seen : Bool → ℕ → List History → List Cell
now_seen reached turn hs = if_reached reached (map (λ h. visible turn h.newest) hs)

-- the cells before the part of this depth
abbrev pub before_seen : Bool → ℕ → ℕ → List History → List Cell
before_seen before turn d hs = if_reached before (map (λ h. visible turn (stripped d h).newest) hs)

-- the cells behind the sides that are passed
abbrev pub sides_seen : ℕ → ℕ → ℕ → List History → List Cell
sides_seen sides turn d hs = if_reached (not (nat_eq sides 0)) (map (λ h. sides_at (record { depth = d; sides = sides; turn = turn }) h.newest) hs)

abbrev pub saved_as : Kind → ℕ → ℕ → List History → Saved
saved_as (kind.OneSide before) turn d hs = OneSide (before_seen before turn d hs)
saved_as (kind.OtherSide sides) turn d hs = OtherSide (sides_seen sides turn d hs)
saved_as (kind.Turn before) turn d hs = Turn (before_seen before turn d hs)

abbrev pub saved_seen : List Part → List History → List Saved
saved_seen [] hs = []
saved_seen (p ∷ ps) hs = saved_as p.kind p.around (suc (length ps)) hs ∷ saved_seen ps (map (λ h. stripped (suc (length ps)) h) hs)

abbrev pub seen_levels : State → Levels
seen_levels s = record { now = now_seen s.reached s.turn s.histories; saved = saved_seen s.parts s.histories }

-- ---- what holds of it

-- whether the number is in the list
abbrev pub has : ℕ → List ℕ → Bool
has i [] = false
has i (k ∷ ks) = nat_eq i k || has i ks

-- a version is made only where the walk comes
pub record AreReached (v : Version) : Type 0 where
  pub now : is_reached v.now ≡ true
  pub sides : is_reached v.sides ≡ true

-- of the version of an open part
pub record IsMade (trail : List ℕ) (i : ℕ) (p : Part) (v : Version) : Type 0 where
  pub seen : v.seen ≤ number p.kind
  pub reached : AreReached v
  pub listed : has i (drop p.from trail) ≡ true

-- a cell of this number has versions of open parts only, and is in the trail of each of those
abbrev pub Stands : List ℕ → ℕ → List Part → History → Type 0
Stands trail i [] h = (h.newest.depth ≡ 0) × AreReached h.newest
Stands trail i (p ∷ ps) h = (nat_eq h.newest.depth (suc (length ps)) ≡ true → IsMade trail i p h.newest) × Stands (take p.from trail) i ps (stripped (suc (length ps)) h)

abbrev pub Standing : List ℕ → ℕ → List Part → List History → Type 0
Standing trail i ps [] = Unit {0}
Standing trail i ps (h ∷ hs) = Stands trail i ps h × Standing trail (suc i) ps hs

-- how deep the innermost turn is
abbrev pub turn_in : Kind → ℕ → ℕ → ℕ
turn_in (kind.OneSide before) around d = around
turn_in (kind.OtherSide sides) around d = around
turn_in (kind.Turn before) around d = d

abbrev pub turn_of : List Part → ℕ
turn_of [] = 0
turn_of (p ∷ ps) = turn_in p.kind p.around (suc (length ps))

-- where the trail of the innermost part begins
abbrev pub from_of : List Part → ℕ
from_of [] = 0
from_of (p ∷ ps) = p.from

pub record IsPlaced (p : Part) (ps : List Part) : Type 0 where
  pub around : p.around ≡ turn_of ps
  pub from : from_of ps ≤ p.from

abbrev pub Placed : List Part → Type 0
Placed [] = Unit {0}
Placed (p ∷ ps) = IsPlaced p ps × Placed ps

pub record Sound (s : State) : Type 0 where
  pub placed : Placed s.parts
  pub turn : s.turn ≡ turn_of s.parts
  pub within : from_of s.parts ≤ length s.trail
  pub standing : Standing s.trail 0 s.parts s.histories
