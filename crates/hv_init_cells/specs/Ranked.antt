-- The layout in which leaves that no range parts share a cell.
use Rattle.std.specs.Prelude.{◌≡◌, ℕ, zero, suc, ◌+◌, ◌-◌, Bool, true, if◌then◌else◌, List, []}
use Rattle.hv_tree.specs.Core.{Core}
use Rattle.hv_decls.specs.Locals.{CoreBody}
use Rattle.hv_rules.specs.States.{Leaf}
use Rattle.hv_flow_pass.specs.declared.act.Range.{Range}
use Rattle.hv_init_cells.specs.Layout.{Layout, Occurs, IsLeaf}
use Rattle.hv_init_cells.specs.Plain.{plain}

-- how many cuts there are up to a cell of the plain layout, the first one aside
abbrev pub rank : (ℕ → Bool) → ℕ → ℕ
rank cut zero = 0
rank cut (suc i) = if cut (suc i) then suc (rank cut i) else rank cut i

-- what a range becomes
abbrev pub ranked : (ℕ → Bool) → Range → Range
ranked cut r = record { from = rank cut r.from; count = rank cut (r.from + r.count) - rank cut r.from }

-- the plain layout, where the cells between two cuts are one
abbrev pub merged : Core → CoreBody → (ℕ → Bool) → (ℕ → Bool) → Layout
merged tree body tracks cut = record {
  tracks = tracks;
  range_of = λ root fields. ranked cut ((plain tree body tracks).range_of root fields);
  cell_of = λ leaf. rank cut ((plain tree body tracks).cell_of leaf);
  free = 0;
}

-- of the locals that have cells, there is a cut at both ends of each range that occurs, and at the first cell of each
pub record Cuts (tree : Core) (body : CoreBody) (tracks cut : ℕ → Bool) : Type 0 where
  pub begins : (root : ℕ) (fields : List ℕ) → Occurs tree body root fields → tracks root ≡ true → cut ((plain tree body tracks).range_of root fields).from ≡ true
  pub ends : (root : ℕ) (fields : List ℕ) → Occurs tree body root fields → tracks root ≡ true → cut (((plain tree body tracks).range_of root fields).from + ((plain tree body tracks).range_of root fields).count) ≡ true
  pub locals : (leaf : Leaf) → IsLeaf tree body leaf → tracks leaf.root ≡ true → cut ((plain tree body tracks).range_of leaf.root []).from ≡ true
