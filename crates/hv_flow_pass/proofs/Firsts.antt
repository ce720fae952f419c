-- The first refusal of several sets of refusals together.
use Rattle.std.proofs.Common.{◌≡◌, ◌⊎◌, inl, inr, ℕ, ◌<◌, ◌≤◌, Bool, true, false, ◌||◌, ◌&&◌, nat_lt, nat_eq, if◌then◌else◌, Option, Some, None, refl, sym, subst, arith}
use Rattle.std.proofs.lemmas.Bool.Decides.{nat_tests}
use Rattle.hv_tree.specs.declared.refusal.Refusal.{Refusal}
use Rattle.hv_tree.specs.Earlier.{number_of, NotAfter, IsFirst}
use Rattle.hv_flow_pass.specs.Cells.{is_before, earlier, when}

pub same_first : (P S : Refusal → Type 0) (v : Option Refusal) → ((r : Refusal) → P r → S r) → ((r : Refusal) → S r → P r) → IsFirst P v → IsFirst S v
same_first P S None to back h = λ r s. h r (back r s)
same_first P S (Some r) to back h = (to r h.0, λ s p. h.1 s (back s p))

pub self_not_after : (r : Refusal) → NotAfter r r
self_not_after r = inr (refl, omega arith)

not_after_by : (a b m n : ℕ) → (nat_lt b a || (nat_eq b a && nat_lt n m)) ≡ false → (a < b) ⊎ ((a ≡ b) × (m ≤ n))
not_after_by a b m n h = by (nat_lt a b) refl
  where
    by : (t : Bool) → nat_lt a b ≡ t → (a < b) ⊎ ((a ≡ b) × (m ≤ n))
    by true e = inl (grind (arith, nat_tests))
    by false e = inr (grind (arith, nat_tests), grind (arith, nat_tests))

after_by : (a b m n : ℕ) → (nat_lt a b || (nat_eq a b && nat_lt m n)) ≡ true → (a < b) ⊎ ((a ≡ b) × (m ≤ n))
after_by a b m n h = by (nat_lt a b) refl
  where
    by : (t : Bool) → nat_lt a b ≡ t → (a < b) ⊎ ((a ≡ b) × (m ≤ n))
    by true e = inl (grind (arith, nat_tests))
    by false e = inr (grind (arith, nat_tests), grind (arith, nat_tests))

trans_by : (a b c l m n : ℕ) → (a < b) ⊎ ((a ≡ b) × (l ≤ m)) → (b < c) ⊎ ((b ≡ c) × (m ≤ n)) → (a < c) ⊎ ((a ≡ c) × (l ≤ n))
trans_by a b c l m n (inl h) (inl g) = inl (omega (arith, h, g))
trans_by a b c l m n (inl h) (inr g) = inl (omega (arith, h, g.0))
trans_by a b c l m n (inr h) (inl g) = inl (omega (arith, h.0, g))
trans_by a b c l m n (inr h) (inr g) = inr (omega (arith, h.0, g.0), omega (arith, h.1, g.1))

pub not_after_trans : (x y z : Refusal) → NotAfter x y → NotAfter y z → NotAfter x z
not_after_trans x y z h g = trans_by x.place.start y.place.start z.place.start (number_of x.rule) (number_of y.rule) (number_of z.rule) h g

-- where none is before another
pub not_before : (x y : Refusal) → is_before y x ≡ false → NotAfter x y
not_before x y h = not_after_by x.place.start y.place.start (number_of x.rule) (number_of y.rule) h

-- the first of some is the first of more, where none of these is before each of those
pub first_of_more : (P S : Refusal → Type 0) (v : Option Refusal) → ((r : Refusal) → P r → S r) → ((r : Refusal) → S r → (s : Refusal) × P s × NotAfter s r) → IsFirst P v → IsFirst S v
first_of_more P S None to back h = λ r g. let p = back r g in h p.0 p.1
first_of_more P S (Some x) to back h = (to x h.0, λ r g. let p = back r g in not_after_trans x p.0 r (h.1 p.0 p.1) p.2)

pub earlier_first : (P S : Refusal → Type 0) (v w : Option Refusal) → IsFirst P v → IsFirst S w → IsFirst (λ r. P r ⊎ S r) (earlier v w)
earlier_first P S None None h g = by
  where
    by : (r : Refusal) → P r ⊎ S r → ⊥
    by r (inl p) = h r p
    by r (inr p) = g r p
earlier_first P S None (Some y) h g = (inr g.0, by)
  where
    by : (r : Refusal) → P r ⊎ S r → NotAfter y r
    by r (inl p) = absurd (h r p)
    by r (inr p) = g.1 r p
earlier_first P S (Some x) None h g = (inl h.0, by)
  where
    by : (r : Refusal) → P r ⊎ S r → NotAfter x r
    by r (inl p) = h.1 r p
    by r (inr p) = absurd (g r p)
earlier_first P S (Some x) (Some y) h g = choice (is_before y x) refl
  where
    choice : (b : Bool) → is_before y x ≡ b → IsFirst (λ r. P r ⊎ S r) (if b then Some y else Some x)
    choice true e = (inr g.0, by)
      where
        by : (r : Refusal) → P r ⊎ S r → NotAfter y r
        by r (inl p) = not_after_trans y x r (after_by y.place.start x.place.start (number_of y.rule) (number_of x.rule) e) (h.1 r p)
        by r (inr p) = g.1 r p
    choice false e = (inl h.0, by)
      where
        by : (r : Refusal) → P r ⊎ S r → NotAfter x r
        by r (inl p) = h.1 r p
        by r (inr p) = not_after_trans x y r (not_before x y e) (g.1 r p)

-- the first of those that are, where that is said
pub when_first : (b : Bool) (P : Refusal → Type 0) (v : Option Refusal) → IsFirst P v → IsFirst (λ r. (b ≡ true) × P r) (when b v)
when_first true P v h = same_first P (λ r. (true ≡ true) × P r) v (λ r p. (refl, p)) (λ r p. p.1) h
when_first false P v h = λ r p. never p.0
  where
    never : false ≡ true → ⊥
    never e = cc

pub one_first : (t : Refusal) → IsFirst (λ r. r ≡ t) (Some t)
one_first t = (refl, λ r e. subst (λ (w : Refusal). NotAfter t w) (sym e) (self_not_after t))

pub none_first : IsFirst (λ (r : Refusal). ⊥) None
none_first = λ r h. h
