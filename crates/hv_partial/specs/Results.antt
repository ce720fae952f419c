-- What operations answer.
use Rattle.std.specs.Prelude.{◌≡◌, ◌≤◌, ◌<◌, ℕ, ℤ, pos, negsuc, Option, Some, None}
use Rattle.hv_value.specs.ValueTree.{ValueTree, Number}
use Rattle.hv_value.specs.Operators.{Given, Gives, Overflow, DivZero}
use Rattle.hv_partial.specs.declared.arrays.Length.{Length}
use Rattle.hv_partial.specs.declared.arrays.Length.TheVariants as asked
use Rattle.hv_partial.specs.declared.operate.Computed.{Computed}
use Rattle.hv_partial.specs.declared.operate.Computed.TheVariants as computed
use Rattle.hv_partial.specs.HeldTree.{held_tree}

abbrev pub given_of : Computed → Given
given_of (computed.Gives held) = Gives (held_tree held)
given_of computed.Overflow = Overflow
given_of computed.DivZero = DivZero

-- which of the three a length is
abbrev pub Lengths : ℤ → Length → Type 0
Lengths z (asked.Right n) = (z ≡ pos n) × (n ≤ 1048576)
Lengths z asked.Bad = (n : ℕ) × (z ≡ negsuc n)
Lengths z asked.TooLong = (n : ℕ) × (z ≡ pos n) × (1048576 < n)

-- ---- inside

-- the operands, where both are numbers
abbrev pub both_numbers : ValueTree → ValueTree → Option (ℤ × ℤ)
both_numbers (Number x) (Number y) = Some (x, y)
both_numbers _ _ = None

-- a number, where it has 64 bits
abbrev pub if_fits : Option ℤ → Given
if_fits (Some z) = Gives (Number z)
if_fits None = Overflow
