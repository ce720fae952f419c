-- The text of a value, as bytes.
use Rattle.std.specs.Prelude.{ℕ, List, [], ◌++◌, Bool, true, false, codes}
use Rattle.std.specs.Fmt.{signed_decimal}
use Rattle.hv_value.specs.ValueTree.{ValueTree, Hole, Number, Truth, Fields, Elements, Closure, Parts, Nil, Cons}

abbrev pub bool_text : Bool → List ℕ
bool_text true = codes "true"
bool_text false = codes "false"

-- a number in decimal; the parts of a struct in round brackets, those of an array in square ones.
-- Neither a hole nor a function has a text
abbrev mutual
  pub text : ValueTree → List ℕ
  text Hole = []
  text (Number z) = signed_decimal z
  text (Truth b) = bool_text b
  text (Fields ts) = codes "(" ++ (joined ts ++ codes ")")
  text (Elements ts) = codes "[" ++ (joined ts ++ codes "]")
  text (Closure body ts) = []

  -- the texts, joined by a comma and a space
  pub joined : Parts → List ℕ
  joined Nil = []
  joined (Cons t ts) = text t ++ followed ts

  -- each text with a comma and a space before it
  pub followed : Parts → List ℕ
  followed Nil = []
  followed (Cons t ts) = codes ", " ++ (text t ++ followed ts)
