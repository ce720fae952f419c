-- The two sides of a cell, and the rows of the cells changed at one cell.
use Rattle.std.proofs.Common.{◌≡◌, ℕ, ◌*◌, ◌<◌, ◌≢◌, Bool, true, false, sym, refl, subst, arith}
use Rattle.std.specs.Prelude.{not}
use lib.Bits.{bit_or}
use native.Mathlib.Decide.{ℕ_discrete}
use Rattle.hv_cell.specs.CellRule.{slot_of, bit_of, Row}

abbrev pub pick : {P : Type 0} → Dec P → Row → Row → Row
pick (yes _) a b = a
pick (no _) a b = b

pub put : (ℕ → Row) → ℕ → Row → ℕ → Row
put cells c ph j = pick (ℕ_discrete j c) ph (cells j)

-- what holds of the new row at c, and of each other cell's, holds after
pub at_put : (cells : ℕ → Row) (c : ℕ) (ph : Row) (F : ℕ → Row → Type 0) (j : ℕ) → F c ph → (j ≢ c → F j (cells j)) → F j (put cells c ph j)
unfolding put
at_put cells c ph F j here other = go (ℕ_discrete j c)
  where
    go : (d : Dec (j ≡ c)) → F j (pick d ph (cells j))
    go (yes e) = subst (λ (k : ℕ). F k ph) (sym e) here
    go (no n) = other n

pub put_here : (cells : ℕ → Row) (c : ℕ) (ph : Row) → put cells c ph c ≡ ph
put_here cells c ph = at_put cells c ph (λ q x. q ≡ c → x ≡ ph) c (λ _. refl) (λ n. absurd (n refl)) refl

pub set_side : {A : Type 0} → Bool → A → (Bool → A) → Bool → A
set_side false x f false = x
set_side false x f true = f true
set_side true x f false = f false
set_side true x f true = x

pub side_here : {A : Type 0} (s : Bool) (x : A) (f : Bool → A) → set_side s x f s ≡ x
unfolding set_side
side_here false x f = refl
side_here true x f = refl

pub side_else : {A : Type 0} (s : Bool) (x : A) (f : Bool → A) → set_side s x f (not s) ≡ f (not s)
unfolding set_side
side_else false x f = refl
side_else true x f = refl

-- what holds of one side and of the other, holds of both
pub both_sides : (s : Bool) (F : Bool → Type 0) → F s → F (not s) → (p : Bool) → F p
both_sides false F a b false = a
both_sides false F a b true = b
both_sides true F a b false = b
both_sides true F a b true = a

pub not_not : (s : Bool) → not (not s) ≡ s
not_not false = refl
not_not true = refl

pub other_side : (s : Bool) → not s ≢ s
other_side false e = cc
other_side true e = cc

pub slots_apart : (c d : ℕ) (p q : Bool) → c ≢ d → slot_of c p ≢ slot_of d q
slots_apart c d false false n e = n (omega arith)
slots_apart c d false true n e = n (omega arith)
slots_apart c d true false n e = n (omega arith)
slots_apart c d true true n e = n (omega arith)

pub sides_apart : (c : ℕ) (s : Bool) → slot_of c (not s) ≢ slot_of c s
sides_apart c false e = omega arith
sides_apart c true e = omega arith

pub slot_near : (c n : ℕ) (p : Bool) → c < n → slot_of c p < 2 * n
slot_near c n false h = omega arith
slot_near c n true h = omega arith

pub or_first : (s : Bool) → bit_or 0 (bit_of s) ≡ bit_of s
or_first false = refl
or_first true = refl

pub or_last : (s : Bool) → bit_or (bit_of (not s)) (bit_of s) ≡ 3
or_last false = refl
or_last true = refl
