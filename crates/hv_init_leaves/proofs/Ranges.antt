-- Where the sizes tell the leaves of types, the locals have theirs where the plain layout has them.
use Rattle.std.proofs.Common.{◌≡◌, ◌+◌, ℕ, zero, suc, List, [], ◌∷◌, length, map, Option, Some, None, refl, ap, ◌∙◌, arith}
use Rattle.std.specs.List.{slice_get}
use Rattle.hv_tree.specs.Core.{Core}
use Rattle.hv_decls.specs.Types.{ValueType}
use Rattle.hv_decls.specs.Locals.{Local}
use Rattle.hv_init_cells.specs.Plain.{size, span, shifted, shape_by, ranges}
use Rattle.hv_init_leaves.specs.declared.row.Row.{Row}
use Rattle.hv_init_leaves.specs.declared.sizes.Sizes.{Sizes}
use Rattle.hv_init_leaves.specs.declared.leaves.Leaves.{Leaves}
use Rattle.hv_init_leaves.specs.Table.{number_by, local_number}
use Rattle.hv_init_leaves.specs.Rows.{size_at, parts_from, end_from, row_from}
use Rattle.hv_init_leaves.specs.Reached.{or_end, part_at}
use Rattle.hv_init_leaves.specs.Leaves.{range_under, range_by, locals_in, parts_of, end_of, AreSizesOf, AreLeavesOf}
use Rattle.hv_init_leaves.proofs.Settled.{range_same, none_under, under}

module _ (tree : Core) (s : Sizes) (h : AreSizesOf tree s) where
  -- ---- a type that may be unknown

  counted_by : (t : Option ValueType) → size_at s.sizes (number_by tree t) ≡ size (shape_by tree t)
  counted_by None = refl
  counted_by (Some t) = h.counted t

  led_by : (t : Option ValueType) (n : ℕ) (fields : List ℕ) → range_under s (record { begin = n; number = number_by tree t }) fields ≡ shifted n (span (shape_by tree t) fields)
  led_by None n [] = range_same n (n + 0) 1 1 (omega arith) refl
  led_by None n (f ∷ fs) = none_under s n fs ∙ range_same n (n + 0) 0 0 (omega arith) refl
  led_by (Some t) n fields = h.led t n fields

  -- ---- locals

  parts_same : (ls : List Local) (n : ℕ) → parts_from s.sizes n (map (local_number tree) ls) ≡ parts_of tree n ls
  parts_same [] n = refl
  parts_same (l ∷ ls) n =
      ap (λ k. record { begin = n; number = local_number tree l } ∷ parts_from s.sizes (n + k) (map (local_number tree) ls)) (counted_by l.ty)
      ∙ ap (λ ps. record { begin = n; number = local_number tree l } ∷ ps) (parts_same ls (n + size (shape_by tree l.ty)))

  end_same : (ls : List Local) (n : ℕ) → end_from s.sizes n (map (local_number tree) ls) ≡ end_of tree n ls
  end_same [] n = refl
  end_same (l ∷ ls) n = ap (λ k. end_from s.sizes (n + k) (map (local_number tree) ls)) (counted_by l.ty) ∙ end_same ls (n + size (shape_by tree l.ty))

  row_same : (ls : List Local) → row_from s.sizes 1 (map (local_number tree) ls) ≡ record { parts = parts_of tree 1 ls; end = end_of tree 1 ls }
  row_same ls =
      ap (λ ps. let r : Row = record { parts = ps; end = end_from s.sizes 1 (map (local_number tree) ls) } in r) (parts_same ls 1)
      ∙ ap (λ k. let r : Row = record { parts = parts_of tree 1 ls; end = k } in r) (end_same ls 1)

  ranges_same : (ls : List Local) (n root : ℕ) (fields : List ℕ) → under s (or_end (end_of tree n ls) (slice_get (parts_of tree n ls) root)) fields ≡ ranges tree n ls root fields
  ranges_same [] n root fields = none_under s n fields
  ranges_same (l ∷ ls) n zero fields = led_by l.ty n fields
  ranges_same (l ∷ ls) n (suc root) fields = ranges_same ls (n + size (shape_by tree l.ty)) root fields

pub are_leaves : (tree : Core) (s : Sizes) (locals : List Local) (row : Row) → row ≡ row_from s.sizes 1 (map (local_number tree) locals) → AreSizesOf tree s → AreLeavesOf tree locals (record { row = row })
are_leaves tree s locals row e h = e ∙ row_same tree s h locals

-- the ranges are those of the plain layout
pub range_is : (tree : Core) (locals : List Local) (s : Sizes) (l : Leaves) → AreSizesOf tree s → AreLeavesOf tree locals l → (root : ℕ) (fields : List ℕ) → range_by s l root fields ≡ ranges tree 1 locals root fields
range_is tree locals s l h e root fields = ap (λ r. under s (part_at r root) fields) e ∙ ranges_same tree s h locals 1 root fields

-- each local has a part
parts_long : (tree : Core) (ls : List Local) (n : ℕ) → length (parts_of tree n ls) ≡ length ls
parts_long tree [] n = refl
parts_long tree (l ∷ ls) n = ap (λ k. suc k) (parts_long tree ls (n + size (shape_by tree l.ty)))

pub how_many : (tree : Core) (locals : List Local) (l : Leaves) → AreLeavesOf tree locals l → length (locals_in l) ≡ length locals
how_many tree locals l e = ap (λ (r : Row). length r.parts) e ∙ parts_long tree locals 1
