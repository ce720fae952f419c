-- Values as plain data. A hole may stand in place of any leaf, so a tree is also what a local or a slot holds.
use Rattle.std.specs.Prelude.{ℕ, ℤ, Bool, List, [], ◌∷◌, map, Option, Some, None, option_map}
use Rattle.hv_value.specs.declared.value.Value.{Value}
use Rattle.hv_value.specs.declared.value.Value.TheOpen.{Value-F}
use Rattle.hv_value.specs.declared.value.Value.TheFolds.{fold-Value}
use Rattle.hv_value.specs.declared.value.Value.TheVariants as value

mutual
  pub data ValueTree : Type 0 where
    Hole : ValueTree
    Number : ℤ → ValueTree
    Truth : Bool → ValueTree
    Fields : Parts → ValueTree
    Elements : Parts → ValueTree
    -- the number of a body, and the captures
    Closure : ℕ → Parts → ValueTree

  -- trees in a row
  pub data Parts : Type 0 where
    Nil : Parts
    Cons : ValueTree → Parts → Parts

abbrev pub row : List ValueTree → Parts
row [] = Nil
row (t ∷ ts) = Cons t (row ts)

-- one value, with the tree of each part in its place
abbrev pub tree_step : Value-F ValueTree → ValueTree
tree_step (Value-F.Int z) = Number z
tree_step (Value-F.Bool b) = Truth b
tree_step (Value-F.Struct parts) = Fields (row parts)
tree_step (Value-F.Array parts) = Elements (row parts)
tree_step (Value-F.Fun body captures) = Closure body (row captures)

-- the value as a tree, which has no hole
abbrev pub tree_of : Value → ValueTree
tree_of = fold-Value ValueTree tree_step

abbrev pub trees_of : List Value → Parts
trees_of vs = row (map tree_of vs)

abbrev pub and_first : Option Value → Option (List Value) → Option (List Value)
and_first (Some v) (Some vs) = Some (v ∷ vs)
and_first _ _ = None

-- the value that the tree is, where it has no hole
abbrev mutual
  pub value_of : ValueTree → Option Value
  value_of Hole = None
  value_of (Number z) = Some (value.Int z)
  value_of (Truth b) = Some (value.Bool b)
  value_of (Fields ts) = option_map value.Struct (values_of ts)
  value_of (Elements ts) = option_map value.Array (values_of ts)
  value_of (Closure body ts) = option_map (value.Fun body) (values_of ts)

  pub values_of : Parts → Option (List Value)
  values_of Nil = Some []
  values_of (Cons t ts) = and_first (value_of t) (values_of ts)
