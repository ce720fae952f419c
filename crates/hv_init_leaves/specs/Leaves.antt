-- Where the leaves of a body's locals stand.
use Rattle.std.specs.Prelude.{◌≡◌, ℕ, ◌+◌, List, [], ◌∷◌}
use Rattle.hv_tree.specs.Core.{Core}
use Rattle.hv_decls.specs.Types.{ValueType, shape, most_depth}
use Rattle.hv_decls.specs.Locals.{Local}
use Rattle.hv_flow_pass.specs.declared.act.Range.{Range}
use Rattle.hv_init_cells.specs.Plain.{size, span, shifted, shape_by}
use Rattle.hv_init_leaves.specs.declared.row.Part.{Part}
use Rattle.hv_init_leaves.specs.declared.sizes.Sizes.{Sizes}
use Rattle.hv_init_leaves.specs.declared.leaves.Leaves.{Leaves}
use Rattle.hv_init_leaves.specs.declared.reached.Reached.TheVariants as reached
use Rattle.hv_init_leaves.specs.Table.{number_of, local_number}
use Rattle.hv_init_leaves.specs.Rows.{size_at}
use Rattle.hv_init_leaves.specs.Reached.{part_at, walked, range_of}

-- ---- types

-- the leaves under the fields of a part that is this struct, or none
abbrev pub range_under : Sizes → Part → List ℕ → Range
range_under s p fields = range_of s (walked s (reached.Part p) fields)

-- the sizes tell the leaves of each type, and those under its fields
pub record AreSizesOf (tree : Core) (s : Sizes) : Type 0 where
  pub counted : (t : ValueType) → size_at s.sizes (number_of tree t) ≡ size (shape tree most_depth t)
  pub led : (t : ValueType) (n : ℕ) (fields : List ℕ) → range_under s (record { begin = n; number = number_of tree t }) fields ≡ shifted n (span (shape tree most_depth t) fields)

-- ---- locals

-- one part for each local
abbrev pub locals_in : Leaves → List Part
locals_in l = l.row.parts

-- the leaves under a local's fields
abbrev pub range_by : Sizes → Leaves → ℕ → List ℕ → Range
range_by s l root fields = range_of s (walked s (part_at l.row root) fields)

-- locals, where so many leaves come before
abbrev pub parts_of : Core → ℕ → List Local → List Part
parts_of tree n [] = []
parts_of tree n (l ∷ ls) = record { begin = n; number = local_number tree l } ∷ parts_of tree (n + size (shape_by tree l.ty)) ls

-- where their leaves end
abbrev pub end_of : Core → ℕ → List Local → ℕ
end_of tree n [] = n
end_of tree n (l ∷ ls) = end_of tree (n + size (shape_by tree l.ty)) ls

abbrev pub AreLeavesOf : Core → List Local → Leaves → Type 0
AreLeavesOf tree locals l = l.row ≡ record { parts = parts_of tree 1 locals; end = end_of tree 1 locals }
