-- A look at one more cell.
use Rattle.std.proofs.Common.{◌≡◌, ℕ, zero, suc, ◌+◌, ◌<◌, nat_lt, Bool, true, false, ◌||◌, List, refl, ◌∙◌, ap, subst, arith}
use Rattle.std.proofs.lemmas.Bool.Decides.{nat_tests}
use Rattle.hv_flow_versions.specs.declared.cell.Cell.{Cell}
use Rattle.hv_flow_pass.specs.Cells.{may_at, may_in}
use Rattle.hv_lemmas.proofs.Bools.{or_left, or_right, neither}

pub may_still : (v : Bool) (from n : ℕ) (cs : List Cell) → may_in v from n cs ≡ false → may_at cs (from + n) v ≡ false → may_in v from (n + 1) cs ≡ false
may_still v from n cs h g = ap (λ (m : ℕ). may_in v from m cs) more ∙ neither (may_in v from n cs) (may_at cs (from + n) v) h g
  where
    more : n + 1 ≡ suc n
    more = omega arith

-- one that may have the value, among those looked at
pub may_there : (v : Bool) (from n k : ℕ) (cs : List Cell) → k < n → may_at cs (from + k) v ≡ true → may_in v from n cs ≡ true
may_there v from zero k cs h m = absurd (omega (arith, h))
may_there v from (suc n) k cs h m = by (nat_lt k n) refl (λ g. may_there v from n k cs g m)
  where
    last : k ≡ n → may_at cs (from + n) v ≡ true
    last e = subst (λ (j : ℕ). may_at cs (from + j) v ≡ true) e m

    by : (b : Bool) → nat_lt k n ≡ b → (k < n → may_in v from n cs ≡ true) → (may_in v from n cs || may_at cs (from + n) v) ≡ true
    by true e ih = or_left (may_in v from n cs) (may_at cs (from + n) v) (ih (grind (arith, nat_tests)))
    by false e ih = or_right (may_in v from n cs) (may_at cs (from + n) v) (last (grind (arith, nat_tests)))
