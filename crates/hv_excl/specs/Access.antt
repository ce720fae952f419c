-- Open accesses as the code has them.
use Rattle.std.specs.Prelude.{◌≡◌, ℕ, max, List, [], ◌∷◌, Option, Some, None, map, reverse}
use Rattle.hv_rules.specs.States.{Mode, Reading, Writing, Setting, Access}
use Rattle.hv_excl.specs.declared.access.AccessMode.{AccessMode}
use Rattle.hv_excl.specs.declared.access.AccessMode.TheVariants as mode
use Rattle.hv_excl.specs.declared.access.OpenAccess.{OpenAccess}
use Rattle.hv_excl.specs.declared.access.Entry.{Entry}

abbrev pub mode_by : AccessMode → Mode
mode_by mode.Reading = Reading
mode_by mode.Writing = Writing
mode_by mode.Setting = Setting

abbrev pub access_by : OpenAccess → Access
access_by a = record { path = a.path.now; mode = mode_by a.mode; binding = a.binding }

-- an access, or none
abbrev pub found_by : Option OpenAccess → Option Access
found_by None = None
found_by (Some a) = Some (access_by a)

abbrev pub entry_by : Entry → Access
entry_by e = access_by e.access

-- the code has the newest last
abbrev pub accesses_by : List Entry → List Access
accesses_by all = map entry_by (reverse all)

-- ---- the highest local that keeps an access open

-- of two, where there are any
abbrev pub higher : Option ℕ → Option ℕ → Option ℕ
higher None b = b
higher (Some n) None = Some n
higher (Some n) (Some m) = Some (max n m)

-- of all
abbrev pub highest : List Access → Option ℕ
highest [] = None
highest (a ∷ xs) = higher a.binding (highest xs)

-- this is the highest, and each entry has that of the older ones; the newest comes first
abbrev pub Told : Option ℕ → List Entry → Type 0
Told top [] = top ≡ None
Told top (e ∷ es) = (top ≡ higher e.access.binding e.below) × Told e.below es
