-- The rules on events: some trace of the body ends in an event that violates the rule.
use Rattle.std.specs.Prelude.{◌≡◌, ◌≢◌, ◌⊎◌, ℕ, zero, suc, Bool, true, false, if◌then◌else◌, List, [], ◌∷◌, ◌++◌, Option, Some, None, Contains}
use Rattle.hv_tree.specs.declared.place.Place.{Place}
use Rattle.hv_tree.specs.declared.refusal.Rule.{Rule}
use Rattle.hv_tree.specs.declared.refusal.Rule.TheVariants as rule
use Rattle.hv_tree.specs.declared.types.Conv.{Conv}
use Rattle.hv_tree.specs.declared.types.Conv.TheVariants as conv
use Rattle.hv_tree.specs.Core.{Core, CoreStmt, Task, CoreCall, CallOf}
use Rattle.hv_decls.specs.declared.path.StaticPath.{StaticPath}
use Rattle.hv_rules.specs.declared.event.FlowEvent.{FlowEvent}
use Rattle.hv_rules.specs.declared.event.FlowEvent.TheVariants as event
use Rattle.hv_decls.specs.Paths.{Overlap, has_index}
use Rattle.hv_decls.specs.Types.{ValueType, leaves_of}
use Rattle.hv_decls.specs.Locals.{Local, CoreBody, locals_of, local_in}
use Rattle.hv_decls.specs.Sites.{Part, ExprPart, CallPart, PlacePart, StmtPart, TestPart, Scope, Site, sites_of, bodies_of}
use Rattle.hv_rules.specs.Flow.{IsTrace}
use Rattle.hv_rules.specs.Events.{Belongs, ToNothing, ToDeclaration, ToEnd, Mark, Callee, Constructs, Takes, callee_by, body_events}
use Rattle.hv_rules.specs.States.{fields_of, is_front, Access, Reading, Spawned, Awaited, State, state_after}

-- ---- the leaves of a local

-- the leaves of a type, which may be unknown
abbrev pub leaves_by : Core → Option ValueType → List (List ℕ)
leaves_by tree None = [] ∷ []
leaves_by tree (Some t) = leaves_of tree t

-- the leaves of the local with this number
abbrev pub leaves_from : Core → List Local → ℕ → List (List ℕ)
leaves_from tree [] n = []
leaves_from tree (l ∷ ls) zero = leaves_by tree l.ty
leaves_from tree (l ∷ ls) (suc n) = leaves_from tree ls n

-- ---- what an event asks

-- the path that has to be wholly initialised, or whose fields before an index step have to be
abbrev pub asks_whole : FlowEvent → Option StaticPath
asks_whole event.Entry = None
asks_whole (event.Declare n) = None
asks_whole (event.Init p) = if has_index p.steps then Some p else None
asks_whole (event.Use p) = Some p
asks_whole (event.Move p) = Some p
asks_whole (event.OpenRead p) = Some p
asks_whole (event.OpenWrite p) = Some p
asks_whole (event.OpenSet p) = if has_index p.steps then Some p else None
asks_whole event.Close = None
asks_whole (event.Spawn h) = None
asks_whole (event.Await h) = None
asks_whole event.Return = None
asks_whole (event.ScopeEnd n) = None

-- the path, unless a declaration makes the event
abbrev pub unless_declaring : Belongs → StaticPath → Option StaticPath
unless_declaring ToNothing p = Some p
unless_declaring (ToDeclaration n) p = None
unless_declaring (ToEnd back handles missing) p = Some p

-- the path that no open access may overlap; the Init of a declaration asks nothing
abbrev pub asks_free : FlowEvent → Belongs → Option StaticPath
asks_free event.Entry of = None
asks_free (event.Declare n) of = None
asks_free (event.Init p) of = unless_declaring of p
asks_free (event.Use p) of = None
asks_free (event.Move p) of = Some p
asks_free (event.OpenRead p) of = None
asks_free (event.OpenWrite p) of = Some p
asks_free (event.OpenSet p) of = Some p
asks_free event.Close of = None
asks_free (event.Spawn h) of = None
asks_free (event.Await h) of = None
asks_free event.Return of = None
asks_free (event.ScopeEnd n) of = None

-- the path that no open write or set access may overlap
abbrev pub asks_unwritten : FlowEvent → Option StaticPath
asks_unwritten event.Entry = None
asks_unwritten (event.Declare n) = None
asks_unwritten (event.Init p) = None
asks_unwritten (event.Use p) = Some p
asks_unwritten (event.Move p) = None
asks_unwritten (event.OpenRead p) = Some p
asks_unwritten (event.OpenWrite p) = None
asks_unwritten (event.OpenSet p) = None
asks_unwritten event.Close = None
asks_unwritten (event.Spawn h) = None
asks_unwritten (event.Await h) = None
asks_unwritten event.Return = None
asks_unwritten (event.ScopeEnd n) = None

-- the locals that are written back at the event, the handles whose block ends there, and whether a result is missing
abbrev pub back_at : Belongs → List ℕ
back_at ToNothing = []
back_at (ToDeclaration n) = []
back_at (ToEnd back handles missing) = back

abbrev pub handles_at : Belongs → List ℕ
handles_at ToNothing = []
handles_at (ToDeclaration n) = []
handles_at (ToEnd back handles missing) = handles

abbrev pub missing_at : Belongs → Bool
missing_at ToNothing = false
missing_at (ToDeclaration n) = false
missing_at (ToEnd back handles missing) = missing

-- ---- the rules, of one event and the state before it

module _ (tree : Core) (body : CoreBody) (s : State) where
  -- a leaf of the local under these fields isn't initialised
  abbrev pub HasHole : ℕ → List ℕ → Type 0
  HasHole root fields = (leaf : List ℕ) × Contains (leaves_from tree (locals_of body) root) leaf × (is_front fields leaf ≡ true) × (s.filled (record { root = root; fields = leaf }) ≡ false)

  -- an open access overlaps the path
  abbrev pub Clashes : StaticPath → Type 0
  Clashes p = (a : Access) × Contains s.accesses a × Overlap p a.path

  -- an open write or set access overlaps the path
  abbrev pub ClashesWithChange : StaticPath → Type 0
  ClashesWithChange p = (a : Access) × Contains s.accesses a × Overlap p a.path × (a.mode ≢ Reading)

  -- a place is used, lent or changed in part that isn't wholly initialised
  abbrev pub ViolatesI1 : Mark → Type 0
  ViolatesI1 m = (p : StaticPath) × (asks_whole m.event ≡ Some p) × HasHole p.root (fields_of p.steps)

  -- what is written back isn't wholly initialised
  abbrev pub ViolatesI2 : Mark → Type 0
  ViolatesI2 m = (n : ℕ) × Contains (back_at m.belongs) n × HasHole n []

  -- the end of a body with a result is reached
  abbrev pub ViolatesI3 : Mark → Type 0
  ViolatesI3 m = missing_at m.belongs ≡ true

  -- a change of what an open access overlaps
  abbrev pub ViolatesX1 : Mark → Type 0
  ViolatesX1 m = (p : StaticPath) × (asks_free m.event m.belongs ≡ Some p) × Clashes p

  -- a read of what an open write or set access overlaps
  abbrev pub ViolatesX2 : Mark → Type 0
  ViolatesX2 m = (p : StaticPath) × (asks_unwritten m.event ≡ Some p) × ClashesWithChange p

  -- a handle's block ends while its task is spawned and not awaited
  abbrev pub ViolatesS1 : Mark → Type 0
  ViolatesS1 m = (h : ℕ) × Contains (handles_at m.belongs) h × (s.handles h ≡ Spawned)

  -- a handle is awaited again since its spawn
  abbrev pub ViolatesS2 : Mark → Type 0
  ViolatesS2 m = (h : ℕ) × (m.event ≡ event.Await h) × (s.handles h ≡ Awaited)

  -- the event violates this rule
  abbrev pub Violates : Rule → Mark → Type 0
  Violates rule.I1 m = ViolatesI1 m
  Violates rule.I2 m = ViolatesI2 m
  Violates rule.I3 m = ViolatesI3 m
  Violates rule.X1 m = ViolatesX1 m
  Violates rule.X2 m = ViolatesX2 m
  Violates rule.S1 m = ViolatesS1 m
  Violates rule.S2 m = ViolatesS2 m
  Violates _ m = ⊥

-- ---- the rules, of a body

-- a trace of a body, whole or cut anywhere
abbrev pub Trace : Core → CoreBody → List Mark → Type 0
Trace tree body es = IsTrace (body_events tree body) es

-- some trace of the body ends in an event that violates the rule there
pub record IsViolatedIn (tree : Core) (body : CoreBody) (r : Rule) (place : Place) : Type 0 where
  pub before : List Mark
  pub last : Mark
  pub trace : Trace tree body (before ++ last ∷ [])
  pub at : last.place ≡ place
  pub violates : Violates tree body (state_after before) r last

-- ---- the rules, of a program

-- a convention by which a call changes what its caller has
abbrev pub Changes : Conv → Type 0
Changes c = (c ≡ conv.Inout) ⊎ (c ≡ conv.Set)

-- the conventions of a callee
abbrev pub convs_or_none : Callee → List Conv
convs_or_none Constructs = []
convs_or_none (Takes cs) = cs

-- the callee has an `inout` or `set` parameter
abbrev pub TakesChange : Core → Scope → CoreCall → Place → Type 0
TakesChange tree s (CallOf root steps paren args) place =
    (root.place ≡ place) × (c : Conv) × Contains (convs_or_none (callee_by tree (local_in s.visible root.text) root steps)) c × Changes c

-- a task whose function would change what its caller has, at the callee's root name
abbrev pub SpawnsChange : Core → Scope → CoreStmt → Place → Type 0
SpawnsChange tree s (Task at name t spawn budget call) place = TakesChange tree s call place
SpawnsChange tree s _ place = ⊥

-- the part is such a task
abbrev pub ViolatesS3 : Core → Scope → Part → Place → Type 0
ViolatesS3 tree s (StmtPart x) place = SpawnsChange tree s x place
ViolatesS3 tree s (ExprPart x) place = ⊥
ViolatesS3 tree s (CallPart call) place = ⊥
ViolatesS3 tree s (PlacePart root steps) place = ⊥
ViolatesS3 tree s (TestPart x) place = ⊥

-- a rule on events is violated in some body, or S3 at some task, whether a trace reaches it or not
pub data IsViolatedByEvents (tree : Core) (r : Rule) (place : Place) : Type 0 where
  in_body : (body : CoreBody) → Contains (bodies_of tree) body → IsViolatedIn tree body r place → IsViolatedByEvents tree r place
  at_task : (w : Site) → r ≡ rule.S3 → Contains (sites_of tree) w → ViolatesS3 tree w.scope w.part place → IsViolatedByEvents tree r place
