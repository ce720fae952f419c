-- Which of two refusals comes first.
use Rattle.std.specs.Prelude.{◌≡◌, ◌⊎◌, ◌<◌, ◌≤◌, ℕ, Option, Some, None}
use Rattle.hv_tree.specs.declared.refusal.Rule.{Rule}
use Rattle.hv_tree.specs.declared.refusal.Rule.TheVariants as rule
use Rattle.hv_tree.specs.declared.refusal.Refusal.{Refusal}

-- the place of a rule in the order of all rules
abbrev pub number_of : Rule → ℕ
number_of rule.L0 = 1
number_of rule.L1 = 2
number_of rule.L2 = 3
number_of rule.L3 = 4
number_of rule.P1 = 5
number_of rule.P2 = 6
number_of rule.N1 = 7
number_of rule.N2 = 8
number_of rule.N3 = 9
number_of rule.T1 = 10
number_of rule.T2 = 11
number_of rule.T3 = 12
number_of rule.T4 = 13
number_of rule.T5 = 14
number_of rule.T6 = 15
number_of rule.T7 = 16
number_of rule.T8 = 17
number_of rule.T9 = 18
number_of rule.I1 = 19
number_of rule.I2 = 20
number_of rule.I3 = 21
number_of rule.X1 = 22
number_of rule.X2 = 23
number_of rule.S1 = 24
number_of rule.S2 = 25
number_of rule.S3 = 26

-- a lesser place, or at one place no greater rule
abbrev pub NotAfter : Refusal → Refusal → Type 0
NotAfter a b = (a.place.start < b.place.start) ⊎ ((a.place.start ≡ b.place.start) × (number_of a.rule ≤ number_of b.rule))

-- the answer is one of both and neither is before it; it is there unless both lack
abbrev pub IsEarlier : Option Refusal → Option Refusal → Option Refusal → Type 0
IsEarlier None None r = r ≡ None
IsEarlier (Some x) None r = r ≡ Some x
IsEarlier None (Some y) r = r ≡ Some y
IsEarlier (Some x) (Some y) r = ((r ≡ Some x) × NotAfter x y) ⊎ ((r ≡ Some y) × NotAfter y x)

-- the first of all refusals that there are, or none where there is none
abbrev pub IsFirst : (Refusal → Type 0) → Option Refusal → Type 0
IsFirst Is None = (r : Refusal) → Is r → ⊥
IsFirst Is (Some first) = Is first × ((r : Refusal) → Is r → NotAfter first r)
