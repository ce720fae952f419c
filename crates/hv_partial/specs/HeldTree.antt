-- What a local holds, as a tree.
use Rattle.std.specs.Prelude.{List, map}
use Rattle.hv_value.specs.ValueTree.{ValueTree, Hole, Number, Truth, Fields, Elements, Closure, Parts, row}
use Rattle.hv_partial.specs.declared.tree.Held.{Held}
use Rattle.hv_partial.specs.declared.tree.Held.TheOpen.{Held-F}
use Rattle.hv_partial.specs.declared.tree.Held.TheFolds.{fold-Held}

-- one layer, with the tree of each part in its place
abbrev pub held_step : Held-F ValueTree → ValueTree
held_step Held-F.Hole = Hole
held_step (Held-F.Int z) = Number z
held_step (Held-F.Bool b) = Truth b
held_step (Held-F.Struct parts) = Fields (row parts)
held_step (Held-F.Array parts) = Elements (row parts)
held_step (Held-F.Fun body captures) = Closure body (row captures)

-- the tree, whose holes are holes
abbrev pub held_tree : Held → ValueTree
held_tree = fold-Held ValueTree held_step

abbrev pub held_trees : List Held → Parts
held_trees hs = row (map held_tree hs)
