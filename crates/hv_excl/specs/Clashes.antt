-- What an event refuses, and which accesses are open behind it, as the code computes them.
use Rattle.std.specs.Prelude.{ℕ, ◌==◌, Bool, true, false, ◌&&◌, ◌||◌, if◌then◌else◌, List, [], ◌∷◌, Option, Some, None}
use Rattle.hv_tree.specs.declared.place.Place.{Place}
use Rattle.hv_tree.specs.declared.refusal.Refusal.{Refusal}
use Rattle.hv_tree.specs.declared.refusal.Rule.TheVariants as rule
use Rattle.hv_decls.specs.declared.path.StaticPath.{StaticPath}
use Rattle.hv_rules.specs.declared.event.FlowEvent.{FlowEvent}
use Rattle.hv_rules.specs.declared.event.FlowEvent.TheVariants as event
use Rattle.hv_decls.specs.Paths.{steps_meet}
use Rattle.hv_rules.specs.States.{Mode, Reading, Writing, Setting, Access, closed, without_bindings}

-- ---- what is open behind an event that belongs to this binding, or to none

abbrev pub opened_by : StaticPath → Mode → Option ℕ → List Access → List Access
opened_by p m b xs = record { path = p; mode = m; binding = b } ∷ xs

abbrev pub open_behind : FlowEvent → Option ℕ → List Access → List Access
open_behind event.Entry b xs = xs
open_behind (event.Declare n) b xs = xs
open_behind (event.Init p) b xs = xs
open_behind (event.Use p) b xs = xs
open_behind (event.Move p) b xs = xs
open_behind (event.OpenRead p) b xs = opened_by p Reading b xs
open_behind (event.OpenWrite p) b xs = opened_by p Writing b xs
open_behind (event.OpenSet p) b xs = opened_by p Setting b xs
open_behind event.Close b xs = closed xs
open_behind (event.Spawn h) b xs = xs
open_behind (event.Await h) b xs = xs
open_behind event.Return b xs = xs
open_behind (event.ScopeEnd n) b xs = without_bindings n xs

-- ---- clashes

-- the two places may share a part
abbrev pub overlaps : StaticPath → StaticPath → Bool
overlaps a b = (a.root == b.root) && steps_meet a.steps b.steps

-- whether an access counts, where those that only read do or don't
abbrev pub counts : Bool → Mode → Bool
counts reading Reading = reading
counts reading Writing = true
counts reading Setting = true

-- whether the path overlaps an open access that counts
abbrev pub clash : Bool → StaticPath → Access → Bool
clash reading p a = counts reading a.mode && overlaps p a.path

-- whether it overlaps one of them
abbrev pub clashes : Bool → StaticPath → List Access → Bool
clashes reading p [] = false
clashes reading p (a ∷ xs) = clash reading p a || clashes reading p xs

-- ---- what an event refuses

-- as a change
abbrev pub change_refused : StaticPath → Place → List Access → Option Refusal
change_refused p at xs = if clashes true p xs then Some (record { rule = rule.X1; place = at }) else None

-- as a read
abbrev pub read_refused : StaticPath → Place → List Access → Option Refusal
read_refused p at xs = if clashes false p xs then Some (record { rule = rule.X2; place = at }) else None

-- as the first value of a local that it belongs to, or as a change
abbrev pub init_refused : Option ℕ → StaticPath → Place → List Access → Option Refusal
init_refused None p at xs = change_refused p at xs
init_refused (Some n) p at xs = None

abbrev pub refused_at : FlowEvent → Option ℕ → Place → List Access → Option Refusal
refused_at event.Entry b at xs = None
refused_at (event.Declare n) b at xs = None
refused_at (event.Init p) b at xs = init_refused b p at xs
refused_at (event.Use p) b at xs = read_refused p at xs
refused_at (event.Move p) b at xs = change_refused p at xs
refused_at (event.OpenRead p) b at xs = read_refused p at xs
refused_at (event.OpenWrite p) b at xs = change_refused p at xs
refused_at (event.OpenSet p) b at xs = change_refused p at xs
refused_at event.Close b at xs = None
refused_at (event.Spawn h) b at xs = None
refused_at (event.Await h) b at xs = None
refused_at event.Return b at xs = None
refused_at (event.ScopeEnd n) b at xs = None
