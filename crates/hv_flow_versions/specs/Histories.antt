-- What a cell may be in each part where it was changed, as the code computes it.
use Rattle.std.specs.Prelude.{ℕ, suc, nat_eq, nat_lt, Bool, true, false, not, ◌&&◌, if◌then◌else◌, List, [], ◌∷◌}
use Rattle.hv_flow_versions.specs.declared.cell.Cell.{Cell}
use Rattle.hv_flow_versions.specs.declared.version.Version.{Version}
use Rattle.hv_flow_versions.specs.declared.version.Site.{Site}
use Rattle.hv_flow_versions.specs.declared.history.History.{History}
use Rattle.hv_flow_versions.specs.declared.closing.Closing.{Closing}
use Rattle.hv_flow_versions.specs.declared.closing.Closing.TheVariants as closing
use Rattle.hv_flow_versions.specs.Cells.{set_cell, either_cell, turned_cell}

-- ---- one version

abbrev pub a_no : Cell
a_no = record { kept = false; no = true; yes = false }

abbrev pub kept_cell : Cell
kept_cell = record { kept = true; no = false; yes = false }

abbrev pub first_version : Version
first_version = record { depth = 0; now = a_no; sides = a_no; seen = 0 }

-- seen from a turn that began later, the cell is as it was there
abbrev pub visible : ℕ → Version → Cell
visible turn v = if nat_lt v.depth turn then kept_cell else v.now

-- behind so many sides, at the end of each of which that it has not seen it was as it is now
abbrev pub behind : ℕ → Version → Cell
behind sides v = if nat_eq v.seen 0 then v.now else (if nat_lt v.seen sides then either_cell v.sides v.now else v.sides)

-- behind the sides that are passed here
abbrev pub sides_at : Site → Version → Cell
sides_at s v = if nat_eq v.depth s.depth then behind s.sides v else visible s.turn v

-- ---- one cell

abbrev pub first_history : History
first_history = record { newest = first_version; older = [] }

abbrev pub under_of : List Version → Version
under_of [] = first_version
under_of (v ∷ vs) = v

abbrev pub below : List Version → List Version
below [] = []
below (v ∷ vs) = vs

-- without the newest version
abbrev pub uncovered : History → History
uncovered h = record { newest = under_of h.older; older = below h.older }

-- as before the part of this depth
abbrev pub stripped : ℕ → History → History
stripped d h = if nat_eq h.newest.depth d then uncovered h else h

-- without what was changed further out, at this depth
abbrev pub older_outside : ℕ → List Version → List Version
older_outside d [] = []
older_outside d (v ∷ vs) = if nat_eq v.depth d then vs else v ∷ vs

abbrev pub put_outside : Version → History → History
put_outside v h = record { newest = v; older = older_outside v.depth h.older }

abbrev pub changed_outside : Site → Cell → History → History
changed_outside s now h = put_outside (record { depth = s.depth; now = now; sides = sides_at s (under_of h.older); seen = s.sides }) h

abbrev pub other_side : ℕ → History → History
other_side turn h = if nat_eq h.newest.seen 0 then record {
  newest = record { depth = h.newest.depth; now = visible turn (under_of h.older); sides = h.newest.now; seen = 1 };
  older = h.older;
} else h

abbrev pub passed : Site → ℕ → History → History
passed s seen h = put_outside (record {
  depth = s.depth;
  now = visible s.turn (under_of h.older);
  sides = if nat_eq s.sides 0 then h.newest.now else either_cell (sides_at s (under_of h.older)) h.newest.now;
  seen = seen;
}) h

abbrev pub joined_value : ℕ → Bool → Version → Cell
joined_value sides reached v = if nat_eq sides 0 then v.now else (if reached then either_cell (behind sides v) v.now else behind sides v)

abbrev pub left : Site → History → History
left s h = changed_outside s (turned_cell (visible s.turn (under_of h.older)) h.newest.now) h

abbrev pub closed : Closing → History → History
closed closing.Uncover h = uncovered h
closed (closing.ChangeSides turn) h = other_side turn h
closed (closing.Pass s seen) h = passed s seen h
closed (closing.Join s sides reached) h = changed_outside s (joined_value sides reached h.newest) h
closed (closing.Leave s) h = left s h

-- the part of this depth ends
abbrev pub close : ℕ → Closing → History → History
close d k h = if nat_eq h.newest.depth d then closed k h else h

abbrev pub set_history : Site → Bool → History → History
set_history s value h = record {
  newest = record { depth = s.depth; now = set_cell value (visible s.turn h.newest); sides = sides_at s h.newest; seen = s.sides };
  older = if nat_eq h.newest.depth s.depth then h.older else h.newest ∷ h.older;
}

-- ---- all cells

-- the item of this number is changed, where the first has the other
abbrev pub changed_at : {A : Type 0} → (A → A) → ℕ → ℕ → List A → List A
changed_at f i k [] = []
changed_at f i k (x ∷ xs) = (if nat_eq k i then f x else x) ∷ changed_at f i (suc k) xs

-- whether the cell of this number has no version of this depth
abbrev pub is_new : ℕ → ℕ → ℕ → List History → Bool
is_new d i k [] = false
is_new d i k (h ∷ hs) = if nat_eq k i then not (nat_eq h.newest.depth d) else is_new d i (suc k) hs

-- whether there is no version outside yet
abbrev pub is_first_at : Site → History → Bool
is_first_at s h = not (nat_eq (under_of h.older).depth s.depth)

abbrev pub is_first : Closing → History → Bool
is_first closing.Uncover h = false
is_first (closing.ChangeSides turn) h = false
is_first (closing.Pass s seen) h = is_first_at s h
is_first (closing.Join s sides reached) h = is_first_at s h
is_first (closing.Leave s) h = is_first_at s h

-- whether the first version outside is made as the part of this depth ends
abbrev pub keeps : ℕ → Closing → History → Bool
keeps d k h = nat_eq h.newest.depth d && is_first k h

-- whether it is so of the cell of this number
abbrev pub kept_at : (History → Bool) → ℕ → ℕ → List History → Bool
kept_at t i k [] = false
kept_at t i k (h ∷ hs) = if nat_eq k i then t h else kept_at t i (suc k) hs

-- the part of this depth ends for these cells
abbrev pub closed_all : ℕ → Closing → List ℕ → List History → List History
closed_all d k [] hs = hs
closed_all d k (i ∷ is) hs = closed_all d k is (changed_at (close d k) i 0 hs)

abbrev pub kept_one : Bool → ℕ → List ℕ → List ℕ
kept_one b i is = if b then i ∷ is else is

-- those of them whose first version outside is made
abbrev pub kept_all : ℕ → Closing → List ℕ → List History → List ℕ
kept_all d k [] hs = []
kept_all d k (i ∷ is) hs = kept_one (kept_at (keeps d k) i 0 hs) i (kept_all d k is (changed_at (close d k) i 0 hs))
