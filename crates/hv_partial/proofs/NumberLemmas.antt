-- Numbers and operators.
use Rattle.std.proofs.Common.{◌≡◌, ◌≢◌, ◌<◌, ℕ, zero, suc, ℤ, pos, negsuc, ◌^◌, Bool, true, false, if◌then◌else◌, nat_lt, Option, Some, None, arith, refl, sym, ap, ◌∙◌}
use Rattle.std.specs.Prelude.{FitsSigned, SomeIff, int_rem, int_div}
use mir.Syntax.{w64}
use Rattle.hv_tree.specs.declared.ast.Operator.{Operator}
use Rattle.hv_tree.specs.declared.ast.Operator.TheVariants as operator
use Rattle.hv_value.specs.ValueTree.{ValueTree, Hole, Number, Truth, Fields, Elements, Closure}
use Rattle.hv_value.specs.Operators.{Given, Gives, Overflow, number, remainder, in_range, of_numbers, binary}
use Rattle.hv_value.proofs.OperatorLaws.{number_fits, number_gives}
use Rattle.hv_partial.specs.Results.{both_numbers, if_fits}

-- a number that has no 64 bits overflows
pub number_overflows : (z : ℤ) → (FitsSigned w64 z → ⊥) → number z ≡ Overflow
number_overflows z h = go (in_range z) refl
  where
    go : (b : Bool) → in_range z ≡ b → number z ≡ Overflow
    go true e = absurd (h (number_gives z z (rw e refl)).1)
    go false e = rw e refl

pub if_fits-number : (r : Option ℤ) (z : ℤ) → SomeIff r (FitsSigned w64 z) z → if_fits r ≡ number z
if_fits-number None z h = sym (number_overflows z h)
if_fits-number (Some x) z h = rw h.1 (sym (number_fits z h.0))

-- the operands of a pair of numbers
pub both_are : (t u : ValueTree) (x y : ℤ) → both_numbers t u ≡ Some (x, y) → (t ≡ Number x) × (u ≡ Number y)
both_are (Number a) (Number b) x y h = (grind (arith, h), grind (arith, h))
both_are (Number a) Hole x y h = cc
both_are (Number a) (Truth b) x y h = cc
both_are (Number a) (Fields b) x y h = cc
both_are (Number a) (Elements b) x y h = cc
both_are (Number a) (Closure f b) x y h = cc
both_are Hole u x y h = cc
both_are (Truth a) u x y h = cc
both_are (Fields a) u x y h = cc
both_are (Elements a) u x y h = cc
both_are (Closure f a) u x y h = cc

-- what is done with a pair of numbers
abbrev pub by_pair : (ℤ → ℤ → Given) → Option (ℤ × ℤ) → Option Given
by_pair f None = None
by_pair f (Some p) = Some (f p.0 p.1)

pub numbers-pair : (f : ℤ → ℤ → Given) (t u : ValueTree) → of_numbers f t u ≡ by_pair f (both_numbers t u)
numbers-pair f (Number a) (Number b) = refl
numbers-pair f (Number a) Hole = refl
numbers-pair f (Number a) (Truth b) = refl
numbers-pair f (Number a) (Fields b) = refl
numbers-pair f (Number a) (Elements b) = refl
numbers-pair f (Number a) (Closure g b) = refl
numbers-pair f Hole u = refl
numbers-pair f (Truth a) u = refl
numbers-pair f (Fields a) u = refl
numbers-pair f (Elements a) u = refl
numbers-pair f (Closure g a) u = refl

-- a pair of numbers that isn't there, and one that is
pub no_pair : (f : ℤ → ℤ → Given) (t u : ValueTree) → both_numbers t u ≡ None → of_numbers f t u ≡ None
no_pair f t u h = numbers-pair f t u ∙ ap (by_pair f) h

pub some_pair : (f : ℤ → ℤ → Given) (t u : ValueTree) (x y : ℤ) → both_numbers t u ≡ Some (x, y) → of_numbers f t u ≡ Some (f x y)
some_pair f t u x y h = numbers-pair f t u ∙ ap (by_pair f) h

pub ruleset by_kind = (numbers-pair, no_pair, some_pair)

pub ruleset by_fit = (if_fits-number)
