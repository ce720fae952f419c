-- The layout that numbers all leaves of the locals that have cells one after the other.
use Rattle.std.specs.Prelude.{ℕ, zero, suc, ◌+◌, Bool, true, false, if◌then◌else◌, List, [], ◌∷◌, Option, Some, None}
use Rattle.hv_tree.specs.Core.{Core}
use Rattle.hv_decls.specs.Types.{ValueType, TypeShape, LeafShape, StructShape, TypeShapes, NoShapes, ShapeOf, shape, most_depth}
use Rattle.hv_decls.specs.Locals.{Local, CoreBody, locals_of}
use Rattle.hv_flow_pass.specs.declared.act.Range.{Range}
use Rattle.hv_init_cells.specs.Layout.{Layout}

-- ---- the leaves of a shape

-- a struct without fields is a leaf
abbrev pub or_one : TypeShapes → ℕ → ℕ
or_one NoShapes n = 1
or_one (ShapeOf s ss) n = n

abbrev mutual
  -- how many leaves there are
  pub size : TypeShape → ℕ
  size LeafShape = 1
  size (StructShape ss) = or_one ss (sizes ss)

  pub sizes : TypeShapes → ℕ
  sizes NoShapes = 0
  sizes (ShapeOf s ss) = size s + sizes ss

abbrev pub none_there : Range
none_there = record { from = 0; count = 0 }

abbrev pub shifted : ℕ → Range → Range
shifted n r = record { from = n + r.from; count = r.count }

abbrev mutual
  -- the leaves under these fields, none where there are no such fields
  pub span : TypeShape → List ℕ → Range
  span LeafShape [] = record { from = 0; count = 1 }
  span LeafShape (f ∷ fs) = none_there
  span (StructShape ss) [] = record { from = 0; count = or_one ss (sizes ss) }
  span (StructShape ss) (f ∷ fs) = spans ss f fs

  pub spans : TypeShapes → ℕ → List ℕ → Range
  spans NoShapes f fs = none_there
  spans (ShapeOf s ss) zero fs = span s fs
  spans (ShapeOf s ss) (suc f) fs = shifted (size s) (spans ss f fs)

-- ---- locals

-- the shape of a type, which may be unknown
abbrev pub shape_by : Core → Option ValueType → TypeShape
shape_by tree None = LeafShape
shape_by tree (Some t) = shape tree most_depth t

-- the leaves under a local's fields, where so many come before
abbrev pub ranges : Core → ℕ → List Local → ℕ → List ℕ → Range
ranges tree n [] root fields = record { from = n; count = 0 }
ranges tree n (l ∷ ls) zero fields = shifted n (span (shape_by tree l.ty) fields)
ranges tree n (l ∷ ls) (suc root) fields = ranges tree (n + size (shape_by tree l.ty)) ls root fields

-- ---- the locals that have cells

-- these, in their order
abbrev pub kept : (ℕ → Bool) → List Local → List Local
kept tracks [] = []
kept tracks (l ∷ ls) = if tracks 0 then l ∷ kept (λ k. tracks (suc k)) ls else kept (λ k. tracks (suc k)) ls

-- how many of them come before a local
abbrev pub kept_before : (ℕ → Bool) → ℕ → ℕ
kept_before tracks zero = 0
kept_before tracks (suc n) = if tracks n then suc (kept_before tracks n) else kept_before tracks n

-- the range, or nothing where it begins
abbrev pub range_if : Bool → Range → Range
range_if true r = r
range_if false r = record { from = r.from; count = 0 }

-- the cells of the leaves under a local's fields, where the leaves of those that have cells are in these ranges
abbrev pub tracked_range : (ℕ → Bool) → (ℕ → List ℕ → Range) → ℕ → List ℕ → Range
tracked_range tracks range_of root fields = range_if (tracks root) (range_of (kept_before tracks root) fields)

abbrev pub plain_range : Core → CoreBody → (ℕ → Bool) → ℕ → List ℕ → Range
plain_range tree body tracks = tracked_range tracks (ranges tree 1 (kept tracks (locals_of body)))

-- the first cell is free
abbrev pub plain : Core → CoreBody → (ℕ → Bool) → Layout
plain tree body tracks = record {
  tracks = tracks;
  range_of = plain_range tree body tracks;
  cell_of = λ leaf. (plain_range tree body tracks leaf.root leaf.fields).from;
  free = 0;
}
