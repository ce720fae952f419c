-- The locals that have cells, by their numbers among all and among themselves.
use Rattle.std.proofs.Common.{◌≡◌, ◌⊎◌, inl, inr, ◌<◌, ◌≤◌, ℕ, zero, suc, Bool, true, false, if◌then◌else◌, List, [], ◌∷◌, refl, sym, ap, subst, ◌∙◌, arith}
use Rattle.std.proofs.lemmas.Bool.{cases_lt}
use Rattle.std.proofs.lemmas.Bool.Decides.{nat_tests}
use Rattle.hv_tree.specs.Core.{Core}
use Rattle.hv_decls.specs.Locals.{Local}
use Rattle.hv_flow_pass.specs.declared.act.Range.{Range}
use Rattle.hv_flow_pass.specs.Refused.{covers}
use Rattle.hv_init_cells.specs.Plain.{kept, kept_before, range_if}
use Rattle.hv_init_cells.proofs.Leaves.{AtRoot}

-- ---- ranges

pub no_cell : (n m i : ℕ) → m ≡ 0 → covers (record { from = n; count = m }) i ≡ false
no_cell n m i e = grind (arith, nat_tests)

pub from_if : (b : Bool) (r : Range) → (range_if b r).from ≡ r.from
from_if true r = refl
from_if false r = refl

pub all_if : (b : Bool) (r : Range) → b ≡ true → range_if b r ≡ r
all_if true r e = refl
all_if false r e = cc

pub none_if : (b : Bool) (r : Range) (i : ℕ) → b ≡ false → covers (range_if b r) i ≡ false
none_if true r i e = cc
none_if false r i e = no_cell r.from 0 i refl

-- ---- numbers

-- seen from the first local
pub behind_first : (tracks : ℕ → Bool) (n : ℕ) → kept_before tracks (suc n) ≡ (if tracks 0 then suc (kept_before (λ k. tracks (suc k)) n) else kept_before (λ k. tracks (suc k)) n)
behind_first tracks zero = refl
behind_first tracks (suc n) = ap (λ (m : ℕ). if tracks (suc n) then suc m else m) (behind_first tracks n) ∙ by (tracks 0) (tracks (suc n)) (kept_before (λ k. tracks (suc k)) n)
  where
    by : (a b : Bool) (m : ℕ) → (if b then suc (if a then suc m else m) else (if a then suc m else m)) ≡ (if a then suc (if b then suc m else m) else (if b then suc m else m))
    by true true m = refl
    by true false m = refl
    by false true m = refl
    by false false m = refl

one_more : (tracks : ℕ → Bool) (n : ℕ) → kept_before tracks n ≤ kept_before tracks (suc n)
one_more tracks n = by (tracks n) (kept_before tracks n)
  where
    by : (b : Bool) (m : ℕ) → m ≤ (if b then suc m else m)
    by true m = omega arith
    by false m = omega arith

-- of two locals the later one comes later, where the earlier one has cells
pub kept_rises : (tracks : ℕ → Bool) (a b : ℕ) → a < b → tracks a ≡ true → kept_before tracks a < kept_before tracks b
kept_rises tracks a zero h e = absurd (omega (arith, h))
kept_rises tracks a (suc b) h e = by (cases_lt a b) (λ l. kept_rises tracks a b l e)
  where
    next : (n : ℕ) → tracks n ≡ true → kept_before tracks n < kept_before tracks (suc n)
    next n f = let g = ap (λ (t : Bool). if t then suc (kept_before tracks n) else kept_before tracks n) f in omega (arith, g)

    by : (a < b) ⊎ (b ≤ a) → (a < b → kept_before tracks a < kept_before tracks b) → kept_before tracks a < kept_before tracks (suc b)
    by (inl l) ih = let k = ih l in let g = one_more tracks b in omega (arith, k, g)
    by (inr l) ih = subst (λ (n : ℕ). kept_before tracks a < kept_before tracks (suc n)) (omega (arith, h, l)) (next a e)

-- so that no two have one number
pub one_number : (tracks : ℕ → Bool) (a b : ℕ) → tracks a ≡ true → tracks b ≡ true → kept_before tracks a ≡ kept_before tracks b → a ≡ b
one_number tracks a b t u e = by (cases_lt a b) (cases_lt b a)
  where
    by : (a < b) ⊎ (b ≤ a) → (b < a) ⊎ (a ≤ b) → a ≡ b
    by (inl l) o = let k = kept_rises tracks a b l t in absurd (omega (arith, k, e))
    by (inr l) (inl m) = let k = kept_rises tracks b a m u in absurd (omega (arith, k, e))
    by (inr l) (inr m) = omega (arith, l, m)

-- ---- leaves

-- a local that has cells has the same leaves among those that have
module _ (tree : Core) where
  pub kept_leaves : (tracks : ℕ → Bool) (ls : List Local) (root : ℕ) (leaf : List ℕ) → tracks root ≡ true → AtRoot tree (kept tracks ls) (kept_before tracks root) leaf ≡ AtRoot tree ls root leaf
  kept_leaves tracks [] root leaf e = refl
  kept_leaves tracks (l ∷ ls) zero leaf e = by (tracks 0) e
    where
      by : (b : Bool) → b ≡ true → AtRoot tree (if b then l ∷ kept (λ k. tracks (suc k)) ls else kept (λ k. tracks (suc k)) ls) 0 leaf ≡ AtRoot tree (l ∷ ls) 0 leaf
      by true f = refl
      by false f = cc
  kept_leaves tracks (l ∷ ls) (suc root) leaf e =
      ap (λ (n : ℕ). AtRoot tree (kept tracks (l ∷ ls)) n leaf) (behind_first tracks root) ∙ by (tracks 0) ∙ kept_leaves (λ k. tracks (suc k)) ls root leaf e
    where
      by : (b : Bool) → AtRoot tree (if b then l ∷ kept (λ k. tracks (suc k)) ls else kept (λ k. tracks (suc k)) ls) (if b then suc (kept_before (λ k. tracks (suc k)) root) else kept_before (λ k. tracks (suc k)) root) leaf ≡
          AtRoot tree (kept (λ k. tracks (suc k)) ls) (kept_before (λ k. tracks (suc k)) root) leaf
      by true = refl
      by false = refl
