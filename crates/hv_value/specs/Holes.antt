-- Holes in trees: which trees have none, and what taking out and clearing leave.
use Rattle.std.specs.Prelude.{ℕ, ◌+◌, Bool, true, false, ◌&&◌, if◌then◌else◌, Option, Some, None, option_map, option_and_then}
use Rattle.hv_value.specs.declared.value.Shape.{Shape}
use Rattle.hv_value.specs.declared.value.Shape.TheOpen.{Shape-F}
use Rattle.hv_value.specs.declared.value.Shape.TheFolds.{fold-Shape}
use Rattle.hv_value.specs.ValueTree.{ValueTree, Hole, Number, Truth, Fields, Elements, Closure, Parts, Nil, Cons, row}
use Rattle.hv_value.specs.Places.{Path, get, put}

-- no hole is in it
abbrev mutual
  pub is_whole : ValueTree → Bool
  is_whole Hole = false
  is_whole (Number z) = true
  is_whole (Truth b) = true
  is_whole (Fields ts) = all_whole ts
  is_whole (Elements ts) = all_whole ts
  is_whole (Closure body ts) = all_whole ts

  pub all_whole : Parts → Bool
  all_whole Nil = true
  all_whole (Cons t ts) = is_whole t && all_whole ts

-- the fields of a struct, which is a leaf where it has none
abbrev pub fields_or_hole : Parts → ValueTree
fields_or_hole Nil = Hole
fields_or_hole (Cons t ts) = Fields (Cons t ts)

-- a hole for each leaf: a number, a truth value, an array, a function or a struct without fields.
-- Two trees have one shape where this is the same
abbrev mutual
  pub emptied : ValueTree → ValueTree
  emptied Hole = Hole
  emptied (Number z) = Hole
  emptied (Truth b) = Hole
  emptied (Fields ts) = fields_or_hole (all_emptied ts)
  emptied (Elements ts) = Hole
  emptied (Closure body ts) = Hole

  pub all_emptied : Parts → Parts
  all_emptied Nil = Nil
  all_emptied (Cons t ts) = Cons (emptied t) (all_emptied ts)

abbrev pub put_if_there : ValueTree → Path → Option ValueTree → ValueTree
put_if_there t p None = t
put_if_there t p (Some u) = put t p u

-- the tree with a hole for each leaf of the place, or as it is where the place isn't there
abbrev pub clear : ValueTree → Path → ValueTree
clear t p = put_if_there t p (option_map emptied (get t p))

abbrev pub if_whole : ValueTree → Option ValueTree
if_whole t = if is_whole t then Some t else None

-- the part at the place, where it is there and has no hole
abbrev pub read : ValueTree → Path → Option ValueTree
read t p = option_and_then if_whole (get t p)

abbrev pub leaving : ValueTree → Path → ValueTree → ValueTree × ValueTree
leaving t p u = (u, clear t p)

-- that part, and the tree without it
abbrev pub take_out : ValueTree → Path → Option (ValueTree × ValueTree)
take_out t p = option_map (leaving t p) (read t p)

-- ---- shapes

abbrev pub holes_step : Shape-F ValueTree → ValueTree
holes_step Shape-F.Leaf = Hole
holes_step (Shape-F.Struct parts) = fields_or_hole (row parts)

-- a hole for each leaf of a shape
abbrev pub holes_of : Shape → ValueTree
holes_of = fold-Shape ValueTree holes_step

-- the number of leaves
abbrev mutual
  pub leaves : ValueTree → ℕ
  leaves Hole = 1
  leaves (Number z) = 1
  leaves (Truth b) = 1
  leaves (Fields ts) = fields_leaves ts
  leaves (Elements ts) = 1
  leaves (Closure body ts) = 1

  -- those of a struct's fields, and 1 where it has none
  pub fields_leaves : Parts → ℕ
  fields_leaves Nil = 1
  fields_leaves (Cons t ts) = leaves t + rest_leaves ts

  pub rest_leaves : Parts → ℕ
  rest_leaves Nil = 0
  rest_leaves (Cons t ts) = leaves t + rest_leaves ts
