-- What the operators give, at the edges of the range too.
use Rattle.std.proofs.Common.{◌≡◌, ◌≢◌, ◌<◌, ◌-◌, ◌^◌, ◌+ℤ◌, ◌*ℤ◌, ℕ, zero, suc, ℤ, pos, negsuc, Bool, true, false, if◌then◌else◌, nat_lt, Some, arith, refl, sym, ap, ◌∙◌}
use Rattle.std.specs.Prelude.{int_div, int_rem, FitsSigned}
use Rattle.std.specs.Int.Signed.{mag, mag_rem}
use Rattle.std.proofs.lemmas.Int.{quot-rem}
use Rattle.std.proofs.lemmas.Bool.{ltb-true, lt-ltb}
use mir.Syntax.{w64}
use Rattle.hv_value.specs.ValueTree.{ValueTree, Number}
use Rattle.hv_value.specs.Places.{nth}
use Rattle.hv_value.specs.Operators.{Gives, Overflow, DivZero, in_range, number, add, divide, remainder, negate, copies, count}

-- ---- the definitions at numbers

_seven_by_two : divide (negsuc 6) (pos 2) ≡ Gives (Number (negsuc 2))
_seven_by_two = refl

_rest_of_seven_by_two : remainder (negsuc 6) (pos 2) ≡ Gives (Number (negsuc 0))
_rest_of_seven_by_two = refl

_least_by_minus_one : divide (negsuc (2 ^ 63 - 1)) (negsuc 0) ≡ Overflow
_least_by_minus_one = refl

_rest_of_least_by_minus_one : remainder (negsuc (2 ^ 63 - 1)) (negsuc 0) ≡ Gives (Number (pos 0))
_rest_of_least_by_minus_one = refl

_above_the_greatest : add (pos (2 ^ 63 - 1)) (pos 1) ≡ Overflow
_above_the_greatest = refl

_least_negated : negate (negsuc (2 ^ 63 - 1)) ≡ Overflow
_least_negated = refl

_by_zero : divide (pos 1) (pos 0) ≡ DivZero
_by_zero = refl

-- ---- arrays

pub count-copies : (n : ℕ) (t : ValueTree) → count (copies n t) ≡ n
count-copies zero t = refl
count-copies (suc n) t = ap suc (count-copies n t)

pub nth-copies : (n k : ℕ) (t : ValueTree) → k < n → nth (copies n t) k ≡ Some t
nth-copies zero k t h = absurd (omega arith)
nth-copies (suc n) zero t h = refl
nth-copies (suc n) (suc k) t h = nth-copies n k t (omega arith)

-- ---- the range

in_range_mag : (z : ℤ) → in_range z ≡ nat_lt (mag z) (2 ^ 63)
in_range_mag (pos n) = refl
in_range_mag (negsuc n) = refl

-- a number of 64 bits is given as it is, and every other one overflows
pub number_fits : (z : ℤ) → FitsSigned w64 z → number z ≡ Gives (Number z)
number_fits z h = rw (in_range_mag z) (rw (lt-ltb (mag z) (2 ^ 63) h.sfits) refl)

pub number_gives : (z y : ℤ) → number z ≡ Gives (Number y) → (z ≡ y) × FitsSigned w64 z
number_gives z y h = go (nat_lt (mag z) (2 ^ 63)) refl (ap (λ b. if b then Gives (Number z) else Overflow) (sym (in_range_mag z)) ∙ h)
  where
    go : (b : Bool) → nat_lt (mag z) (2 ^ 63) ≡ b → (if b then Gives (Number z) else Overflow) ≡ Gives (Number y) → (z ≡ y) × FitsSigned w64 z
    go true e k = let same : z ≡ y = grind (arith, k) in (same, record { sfits = ltb-true (mag z) (2 ^ 63) e })
    go false e k = cc

-- ---- quotients

pub divide_nonzero : (x y : ℤ) → y ≢ pos 0 → divide x y ≡ number (int_div x y)
divide_nonzero x (pos zero) h = absurd (h refl)
divide_nonzero x (pos (suc n)) h = refl
divide_nonzero x (negsuc n) h = refl

pub remainder_nonzero : (x y : ℤ) → y ≢ pos 0 → remainder x y ≡ number (int_rem x y)
remainder_nonzero x (pos zero) h = absurd (h refl)
remainder_nonzero x (pos (suc n)) h = refl
remainder_nonzero x (negsuc n) h = refl

-- a remainder never overflows, also that of the least number by -1
pub remainder_gives : (x y : ℤ) → FitsSigned w64 x → y ≢ pos 0 → remainder x y ≡ Gives (Number (int_rem x y))
remainder_gives x y f h =
    let fits : FitsSigned w64 (int_rem x y) = record { sfits = omega (arith, mag_rem x y, f.sfits) } in
    remainder_nonzero x y h ∙ number_fits (int_rem x y) fits

not_zero : (x y q : ℤ) → divide x y ≡ Gives (Number q) → y ≢ pos 0
not_zero x (pos zero) q h = cc
not_zero x (pos (suc n)) q h = λ e. cc
not_zero x (negsuc n) q h = λ e. cc

-- quotient and remainder make the left side
pub quotient_and_remainder : (x y q r : ℤ) → divide x y ≡ Gives (Number q) → remainder x y ≡ Gives (Number r) → q *ℤ y +ℤ r ≡ x
quotient_and_remainder x y q r h k =
    let some : y ≢ pos 0 = not_zero x y q h in
    let quotient : int_div x y ≡ q = (number_gives (int_div x y) q (sym (divide_nonzero x y some) ∙ h)).0 in
    let rest : int_rem x y ≡ r = (number_gives (int_rem x y) r (sym (remainder_nonzero x y some) ∙ k)).0 in
    ap (λ z. z *ℤ y +ℤ r) (sym quotient) ∙ ap (λ z. int_div x y *ℤ y +ℤ z) (sym rest) ∙ quot-rem x y

-- for the code of the operators
pub ruleset operator_laws = (number_fits, divide_nonzero, remainder_gives)
