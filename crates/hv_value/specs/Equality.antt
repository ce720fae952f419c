-- When two trees are equal, and which hold no function.
use Rattle.std.specs.Prelude.{ℤ, pos, negsuc, Bool, true, false, not, ◌==◌, ◌&&◌, ◌||◌}
use Rattle.hv_value.specs.ValueTree.{ValueTree, Hole, Number, Truth, Fields, Elements, Closure, Parts, Nil, Cons}

abbrev pub same_number : ℤ → ℤ → Bool
same_number (pos m) (pos n) = m == n
same_number (negsuc m) (negsuc n) = m == n
same_number _ _ = false

abbrev pub same_truth : Bool → Bool → Bool
same_truth true b = b
same_truth false b = not b

abbrev mutual
  pub same : ValueTree → ValueTree → Bool
  same Hole Hole = true
  same (Number x) (Number y) = same_number x y
  same (Truth a) (Truth b) = same_truth a b
  same (Fields ts) (Fields us) = all_same ts us
  same (Elements ts) (Elements us) = all_same ts us
  same (Closure f ts) (Closure g us) = (f == g) && all_same ts us
  same _ _ = false

  pub all_same : Parts → Parts → Bool
  all_same Nil Nil = true
  all_same (Cons t ts) (Cons u us) = same t u && all_same ts us
  all_same _ _ = false

-- a function value stands in it
abbrev mutual
  pub has_function : ValueTree → Bool
  has_function Hole = false
  has_function (Number z) = false
  has_function (Truth b) = false
  has_function (Fields ts) = some_function ts
  has_function (Elements ts) = some_function ts
  has_function (Closure body ts) = true

  pub some_function : Parts → Bool
  some_function Nil = false
  some_function (Cons t ts) = has_function t || some_function ts
