-- Cells that tell of the leaves of a body's locals.
use Rattle.std.specs.Prelude.{◌≡◌, ◌⊎◌, ℕ, Bool, true, false, List, [], ◌∷◌, ◌++◌, Some, Contains}
use Rattle.hv_tree.specs.Core.{Core}
use Rattle.hv_decls.specs.declared.path.StaticPath.{StaticPath}
use Rattle.hv_rules.specs.declared.event.FlowEvent.{FlowEvent}
use Rattle.hv_rules.specs.declared.event.FlowEvent.TheVariants as event
use Rattle.hv_decls.specs.Locals.{CoreBody, locals_of}
use Rattle.hv_rules.specs.Events.{Mark}
use Rattle.hv_rules.specs.States.{Leaf, fields_of, is_front, Filled}
use Rattle.hv_rules.specs.Rules.{Trace, leaves_from, asks_whole, back_at}
use Rattle.hv_flow_pass.specs.declared.act.Range.{Range}
use Rattle.hv_flow_pass.specs.Refused.{covers}

-- which locals have cells, the cells of the leaves under a local's fields, the cell of each leaf, and one that is no leaf's
pub record Layout : Type 0 where
  pub tracks : ℕ → Bool
  pub range_of : ℕ → List ℕ → Range
  pub cell_of : Leaf → ℕ
  pub free : ℕ

-- ---- what occurs in a body

-- the path's local, and its fields before an index
abbrev pub IsOf : StaticPath → ℕ → List ℕ → Type 0
IsOf p root fields = (p.root ≡ root) × (fields_of p.steps ≡ fields)

-- the event's local and fields
abbrev pub SpeaksOf : FlowEvent → ℕ → List ℕ → Type 0
SpeaksOf event.Entry root fields = ⊥
SpeaksOf (event.Declare n) root fields = (n ≡ root) × ([] ≡ fields)
SpeaksOf (event.Init p) root fields = IsOf p root fields
SpeaksOf (event.Use p) root fields = IsOf p root fields
SpeaksOf (event.Move p) root fields = IsOf p root fields
SpeaksOf (event.OpenRead p) root fields = IsOf p root fields
SpeaksOf (event.OpenWrite p) root fields = IsOf p root fields
SpeaksOf (event.OpenSet p) root fields = IsOf p root fields
SpeaksOf event.Close root fields = ⊥
SpeaksOf (event.Spawn h) root fields = ⊥
SpeaksOf (event.Await h) root fields = ⊥
SpeaksOf event.Return root fields = ⊥
SpeaksOf (event.ScopeEnd n) root fields = ⊥

-- or the whole of a local that is written back there
abbrev pub Names : Mark → ℕ → List ℕ → Type 0
Names m root fields = SpeaksOf m.event root fields ⊎ (Contains (back_at m.belongs) root × ([] ≡ fields))

-- some trace of the body comes to an event that names them
abbrev pub Occurs : Core → CoreBody → ℕ → List ℕ → Type 0
Occurs tree body root fields = (before : List Mark) × (last : Mark) × Trace tree body (before ++ last ∷ []) × Names last root fields

-- ---- when the cells tell of the leaves

-- the leaf is one of a local's
abbrev pub IsLeaf : Core → CoreBody → Leaf → Type 0
IsLeaf tree body leaf = Contains (leaves_from tree (locals_of body) leaf.root) leaf.fields

abbrev pub leaf_of : ℕ → List ℕ → Leaf
leaf_of root fields = record { root = root; fields = fields }

-- the event asks for the local, for all of it or for what is under some fields
abbrev pub AsksFor : Mark → ℕ → Type 0
AsksFor m root = ((p : StaticPath) × (asks_whole m.event ≡ Some p) × (p.root ≡ root)) ⊎ Contains (back_at m.belongs) root

-- wherever an event asks for the local, each of its leaves is initialised
abbrev pub IsFilledWhereAsked : Core → CoreBody → ℕ → Type 0
IsFilledWhereAsked tree body root =
    (before : List Mark) (last : Mark) → Trace tree body (before ++ last ∷ []) → AsksFor last root → (leaf : List ℕ) → IsLeaf tree body (leaf_of root leaf) → Filled before (leaf_of root leaf) ≡ true

-- what is asked of the cells, where a local and fields occur; leaves of one local may share a cell
pub record Fits (tree : Core) (body : CoreBody) (l : Layout) : Type 0 where
  -- of the leaves of a local that has cells, those under the fields have theirs in the range
  pub told : (root : ℕ) (fields : List ℕ) → Occurs tree body root fields → l.tracks root ≡ true → (leaf : List ℕ) → IsLeaf tree body (leaf_of root leaf) → covers (l.range_of root fields) (l.cell_of (leaf_of root leaf)) ≡ is_front fields leaf
  -- each cell of the range is that of such a leaf
  pub only : (root : ℕ) (fields : List ℕ) → Occurs tree body root fields → (i : ℕ) → covers (l.range_of root fields) i ≡ true →
      (l.tracks root ≡ true) × (leaf : List ℕ) × IsLeaf tree body (leaf_of root leaf) × (is_front fields leaf ≡ true) × (l.cell_of (leaf_of root leaf) ≡ i)
  -- leaves of two locals share none
  pub apart : (a b : Leaf) → IsLeaf tree body a → IsLeaf tree body b → l.tracks a.root ≡ true → l.tracks b.root ≡ true → l.cell_of a ≡ l.cell_of b → a.root ≡ b.root
  -- the free one is in no range
  pub is_free : (root : ℕ) (fields : List ℕ) → Occurs tree body root fields → covers (l.range_of root fields) l.free ≡ false
  -- and a local without cells needs none
  pub steady : (root : ℕ) → l.tracks root ≡ false → IsFilledWhereAsked tree body root
