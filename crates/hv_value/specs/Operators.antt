-- What operations give, or how they trap.
use Rattle.std.specs.Prelude.{ℕ, zero, suc, ◌^◌, Bool, not, if◌then◌else◌, nat_lt, nat_le, ℤ, pos, negsuc, ◌+ℤ◌, ◌-ℤ◌, ◌*ℤ◌, neg_ℤ, int_lt, int_le, int_div, int_rem, Option, Some, None, false}
use Rattle.hv_tree.specs.declared.ast.Operator.{Operator}
use Rattle.hv_tree.specs.declared.ast.Operator.TheVariants as operator
use Rattle.hv_value.specs.ValueTree.{ValueTree, Number, Truth, Elements, Parts, Nil, Cons}
use Rattle.hv_value.specs.Equality.{same}

pub data Given : Type 0 where
  Gives : ValueTree → Given
  Overflow : Given
  DivZero : Given
  BadLength : Given
  TooLong : Given

-- ---- numbers of 64 bits, signed

abbrev pub in_range : ℤ → Bool
in_range (pos n) = nat_lt n (2 ^ 63)
in_range (negsuc n) = nat_lt n (2 ^ 63)

abbrev pub number : ℤ → Given
number z = if in_range z then Gives (Number z) else Overflow

abbrev pub add : ℤ → ℤ → Given
add x y = number (x +ℤ y)

abbrev pub subtract : ℤ → ℤ → Given
subtract x y = number (x -ℤ y)

abbrev pub multiply : ℤ → ℤ → Given
multiply x y = number (x *ℤ y)

-- the quotient, cut towards zero
abbrev pub divide : ℤ → ℤ → Given
divide x (pos zero) = DivZero
divide x (pos (suc n)) = number (int_div x (pos (suc n)))
divide x (negsuc n) = number (int_div x (negsuc n))

-- what that quotient leaves, with the sign of the left side
abbrev pub remainder : ℤ → ℤ → Given
remainder x (pos zero) = DivZero
remainder x (pos (suc n)) = number (int_rem x (pos (suc n)))
remainder x (negsuc n) = number (int_rem x (negsuc n))

abbrev pub negate : ℤ → Given
negate x = number (neg_ℤ x)

-- ---- truth values

abbrev pub truth : Bool → Given
truth b = Gives (Truth b)

abbrev pub equal : ValueTree → ValueTree → Given
equal t u = truth (same t u)

abbrev pub unequal : ValueTree → ValueTree → Given
unequal t u = truth (not (same t u))

abbrev pub less : ℤ → ℤ → Given
less x y = truth (int_lt x y)

abbrev pub at_most : ℤ → ℤ → Given
at_most x y = truth (int_le x y)

abbrev pub greater : ℤ → ℤ → Given
greater x y = truth (int_lt y x)

abbrev pub at_least : ℤ → ℤ → Given
at_least x y = truth (int_le y x)

abbrev pub opposite : Bool → Given
opposite b = truth (not b)

-- ---- operands as they stand; None where they are of another kind

abbrev pub of_numbers : (ℤ → ℤ → Given) → ValueTree → ValueTree → Option Given
of_numbers f (Number x) (Number y) = Some (f x y)
of_numbers f _ _ = None

abbrev pub of_number : (ℤ → Given) → ValueTree → Option Given
of_number f (Number x) = Some (f x)
of_number f _ = None

abbrev pub of_truth : (Bool → Given) → ValueTree → Option Given
of_truth f (Truth b) = Some (f b)
of_truth f _ = None

-- ---- arrays

abbrev pub copies : ℕ → ValueTree → Parts
copies zero t = Nil
copies (suc n) t = Cons t (copies n t)

-- an array of so many copies, at most 1,048,576
abbrev pub filled : ℤ → ValueTree → Given
filled (negsuc n) t = BadLength
filled (pos n) t = if nat_le n 1048576 then Gives (Elements (copies n t)) else TooLong

-- the number of parts
abbrev pub count : Parts → ℕ
count Nil = 0
count (Cons t ts) = suc (count ts)

-- the length of an array
abbrev pub length_of : ValueTree → Option ℕ
length_of (Elements ts) = Some (count ts)
length_of _ = None

-- ---- operators

abbrev pub binary : Operator → ValueTree → ValueTree → Option Given
binary operator.Add v w = of_numbers add v w
binary operator.Sub v w = of_numbers subtract v w
binary operator.Mul v w = of_numbers multiply v w
binary operator.Div v w = of_numbers divide v w
binary operator.Rem v w = of_numbers remainder v w
binary operator.Eq v w = Some (equal v w)
binary operator.Ne v w = Some (unequal v w)
binary operator.Lt v w = of_numbers less v w
binary operator.Le v w = of_numbers at_most v w
binary operator.Gt v w = of_numbers greater v w
binary operator.Ge v w = of_numbers at_least v w
binary operator.And (Truth a) (Truth b) = Some (Gives (Truth b))
binary operator.Or (Truth a) (Truth b) = Some (Gives (Truth b))
binary _ v w = None

abbrev pub unary : Operator → ValueTree → Option Given
unary operator.Neg v = of_number negate v
unary operator.Not v = of_truth opposite v
unary _ v = None

-- `&&` and `||` stop at the operand that decides
abbrev pub decides : Operator → ValueTree → Bool
decides operator.And (Truth b) = not b
decides operator.Or (Truth b) = b
decides _ v = false
