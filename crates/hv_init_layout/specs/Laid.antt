-- A layout as a body's acts read it.
use Rattle.std.specs.Prelude.{ℕ, Bool, List}
use Rattle.hv_flow_pass.specs.declared.act.Range.{Range}
use Rattle.hv_init_cells.specs.Layout as law
use Rattle.hv_init_cells.specs.Plain.{tracked_range}
use Rattle.hv_init_cells.specs.Ranked.{rank, ranked}
use Rattle.hv_init_leaves.specs.Leaves.{range_by}
use Rattle.hv_init_layout.specs.declared.layout.Layout.{Layout}
use Rattle.hv_init_layout.specs.Cuts.{stands}
use Rattle.hv_init_layout.specs.Tracked.{flag_at}

-- the leaves of the locals that have cells are in these ranges; of them, those between two cuts share a cell
abbrev pub laid_by : (ℕ → Bool) → (ℕ → List ℕ → Range) → List ℕ → law.Layout
laid_by tracks range_of cuts = record {
  tracks = tracks;
  range_of = λ root fields. ranked (stands cuts) (tracked_range tracks range_of root fields);
  cell_of = λ leaf. rank (stands cuts) (tracked_range tracks range_of leaf.root leaf.fields).from;
  free = 0;
}

abbrev pub laid : Layout → law.Layout
laid l = laid_by (flag_at l.tracked) (range_by l.sizes.now l.leaves) l.cuts
