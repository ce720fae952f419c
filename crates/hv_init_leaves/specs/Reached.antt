-- What the fields of a path lead to.
use Rattle.std.specs.Prelude.{ℕ, ◌+◌, List, [], ◌∷◌, Option, Some, None}
use Rattle.std.specs.List.{slice_get}
use Rattle.hv_flow_pass.specs.declared.act.Range.{Range}
use Rattle.hv_init_leaves.specs.declared.row.Part.{Part}
use Rattle.hv_init_leaves.specs.declared.row.Row.{Row}
use Rattle.hv_init_leaves.specs.declared.sizes.Sizes.{Sizes}
use Rattle.hv_init_leaves.specs.declared.reached.Reached.{Reached}
use Rattle.hv_init_leaves.specs.declared.reached.Reached.TheVariants as reached
use Rattle.hv_init_leaves.specs.Rows.{size_at, row_by}

-- the part, or nothing behind all of them
abbrev pub or_end : ℕ → Option Part → Reached
or_end n None = reached.Nothing n
or_end n (Some p) = reached.Part p

abbrev pub part_at : Row → ℕ → Reached
part_at row i = or_end row.end (slice_get row.parts i)

-- where so many leaves more come before
abbrev pub moved : ℕ → Reached → Reached
moved n (reached.Part p) = reached.Part (record { begin = n + p.begin; number = p.number })
moved n (reached.Nothing m) = reached.Nothing (n + m)

-- a field of a part that begins there; a leaf has none
abbrev pub field_in : Option Row → ℕ → ℕ → Reached
field_in None n f = reached.Nothing n
field_in (Some row) n f = moved n (part_at row f)

abbrev pub row_of : Sizes → Part → Option Row
row_of s p = row_by s p.number

abbrev pub after : Sizes → Reached → ℕ → Reached
after s (reached.Part p) f = field_in (row_of s p) p.begin f
after s (reached.Nothing n) f = reached.Nothing n

-- field by field
abbrev pub walked : Sizes → Reached → List ℕ → Reached
walked s r [] = r
walked s r (f ∷ fs) = walked s (after s r f) fs

-- its leaves
abbrev pub range_of : Sizes → Reached → Range
range_of s (reached.Part p) = record { from = p.begin; count = size_at s.sizes p.number }
range_of s (reached.Nothing n) = record { from = n; count = 0 }
