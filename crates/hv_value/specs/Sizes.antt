-- Sizes, and the costs that go by them.
use Rattle.std.specs.Prelude.{ℕ, ◌+◌, ◌*◌}
use Rattle.hv_value.specs.ValueTree.{ValueTree, Hole, Number, Truth, Fields, Elements, Closure, Parts, Nil, Cons}

-- 1 for each node, a hole too
abbrev mutual
  pub size : ValueTree → ℕ
  size Hole = 1
  size (Number z) = 1
  size (Truth b) = 1
  size (Fields ts) = 1 + sizes ts
  size (Elements ts) = 1 + sizes ts
  size (Closure body ts) = 1 + sizes ts

  pub sizes : Parts → ℕ
  sizes Nil = 0
  sizes (Cons t ts) = size t + sizes ts

-- what a copy from a place, a callee or a capture costs
abbrev pub copy_cost : ValueTree → ℕ
copy_cost t = size t

-- what an array of so many copies costs
abbrev pub fill_cost : ℕ → ValueTree → ℕ
fill_cost n t = 1 + n * size t
