-- What an operator gives or how it traps, and values of the kind that is asked for.
use Rattle.std.specs.Prelude.{ℕ, ℤ, pos, negsuc, Bool, Option}
use Rattle.hv_tree.specs.declared.place.Place.{Place}
use Rattle.hv_value.specs.ValueTree.{ValueTree, Number, Truth}
use Rattle.hv_value.specs.Operators.{Given, Gives, Overflow, DivZero, BadLength, TooLong, filled}
use Rattle.hv_value.specs.Sizes.{fill_cost}
use Rattle.hv_sem_copying.specs.declared.end.TrapKind.TheVariants as trap_kind
use Rattle.hv_sem_copying.specs.declared.end.Cause.TheVariants.{Kinds}
use Rattle.hv_sem_copying.specs.Run.{Run, ◌>>=◌, pure, stuck, trap, known, pay}

-- ---- values of a kind

abbrev pub number : {C S : Type 0} → ValueTree → Run C S ℤ
number (Number z) = pure z
number _ = stuck Kinds

abbrev pub truth : {C S : Type 0} → ValueTree → Run C S Bool
truth (Truth b) = pure b
truth _ = stuck Kinds

-- ---- operators

-- the result, or the trap at this place
abbrev pub given : {C S : Type 0} → Place → Given → Run C S ValueTree
given at (Gives v) = pure v
given at Overflow = trap trap_kind.Overflow at
given at DivZero = trap trap_kind.DivZero at
given at BadLength = trap trap_kind.BadLength at
given at TooLong = trap trap_kind.TooLong at

abbrev pub applied : {C S : Type 0} → Place → Option Given → Run C S ValueTree
applied at g = known Kinds g >>= given at

-- ---- `filled`

abbrev pub natural : ℤ → ℕ
natural (pos n) = n
natural (negsuc n) = 0

-- so many copies, which are paid once the length has been tested
abbrev pub filled_with : {C S : Type 0} → Place → ValueTree → ℤ → Run C S ValueTree
filled_with at v z = given at (filled z v) >>= (λ array. pay (fill_cost (natural z) v) at >>= (λ paid. pure array))
