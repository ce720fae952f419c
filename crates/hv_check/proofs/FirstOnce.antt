-- There is one first violation.
use Rattle.std.proofs.Common.{◌≡◌, inl, inr, List, [], ◌∷◌, Option, Some, None, refl, sym, ◌∙◌, ap, arith}
use Rattle.std.specs.List.{slice_get}
use Rattle.hv_tree.specs.declared.refusal.Rule.{Rule}
use Rattle.hv_tree.specs.declared.refusal.Rule.TheVariants as rule
use Rattle.hv_tree.specs.declared.refusal.Refusal.{Refusal}
use Rattle.hv_tree.specs.Core.{Core}
use Rattle.hv_tree.specs.Earlier.{number_of, NotAfter, IsFirst}
use Rattle.hv_rules.specs.Accepted.{Phase, IsViolatedInPhase, IsFirstOf}

-- each rule at its number
rules : List Rule
rules =
    rule.L0 ∷ (rule.L0 ∷ (rule.L1 ∷ (rule.L2 ∷ (rule.L3 ∷ (rule.P1 ∷ (rule.P2 ∷ (rule.N1 ∷ (rule.N2 ∷ (rule.N3 ∷
    (rule.T1 ∷ (rule.T2 ∷ (rule.T3 ∷ (rule.T4 ∷ (rule.T5 ∷ (rule.T6 ∷ (rule.T7 ∷ (rule.T8 ∷ (rule.T9 ∷
    (rule.I1 ∷ (rule.I2 ∷ (rule.I3 ∷ (rule.X1 ∷ (rule.X2 ∷ (rule.S1 ∷ (rule.S2 ∷ (rule.S3 ∷ []))))))))))))))))))))))))))

at_number : (r : Rule) → slice_get rules (number_of r) ≡ Some r
unfolding rules
at_number rule.L0 = refl
at_number rule.L1 = refl
at_number rule.L2 = refl
at_number rule.L3 = refl
at_number rule.P1 = refl
at_number rule.P2 = refl
at_number rule.N1 = refl
at_number rule.N2 = refl
at_number rule.N3 = refl
at_number rule.T1 = refl
at_number rule.T2 = refl
at_number rule.T3 = refl
at_number rule.T4 = refl
at_number rule.T5 = refl
at_number rule.T6 = refl
at_number rule.T7 = refl
at_number rule.T8 = refl
at_number rule.T9 = refl
at_number rule.I1 = refl
at_number rule.I2 = refl
at_number rule.I3 = refl
at_number rule.X1 = refl
at_number rule.X2 = refl
at_number rule.S1 = refl
at_number rule.S2 = refl
at_number rule.S3 = refl

-- the number tells the rule
same_rule : (a b : Rule) → number_of a ≡ number_of b → a ≡ b
same_rule a b e = let h : Some a ≡ Some b = sym (at_number a) ∙ ap (slice_get rules) e ∙ at_number b in cc

same_refusal : (a b : Refusal) → a.rule ≡ b.rule → a.place.start ≡ b.place.start → a ≡ b
same_refusal a b e f =
    let at : a.place ≡ b.place = ap (λ n. record { start = n }) f in
    let named : record { rule = a.rule; place = a.place } ≡ record { rule = b.rule; place = a.place } = ap (λ r. record { rule = r; place = a.place }) e in
    named ∙ ap (λ p. record { rule = b.rule; place = p }) at

neither_later : (a b : Refusal) → NotAfter a b → NotAfter b a → b ≡ a
neither_later a b (inl l) (inl m) = absurd (omega arith)
neither_later a b (inl l) (inr m) = let e = m.0 in absurd (omega arith)
neither_later a b (inr l) (inl m) = let e = l.0 in absurd (omega arith)
neither_later a b (inr l) (inr m) = let n = l.1 in let k = m.1 in same_refusal b a (same_rule b.rule a.rule (omega arith)) m.0

first_once : (Is : Refusal → Type 0) (v w : Option Refusal) → IsFirst Is v → IsFirst Is w → w ≡ v
first_once Is None None h k = refl
first_once Is None (Some b) h k = absurd (h b k.0)
first_once Is (Some a) None h k = absurd (k a h.0)
first_once Is (Some a) (Some b) h k = ap Some (neither_later a b (h.1 b k.0) (k.1 a h.0))

pub first_of_once : (phases : List Phase) (tree : Core) (v w : Option Refusal) → IsFirstOf phases tree v → IsFirstOf phases tree w → w ≡ v
first_of_once [] tree v w h k = k ∙ sym h
first_of_once (phase ∷ phases) tree v w (inl h) (inl k) = first_once (IsViolatedInPhase phase tree) v w h.1 k.1
first_of_once (phase ∷ phases) tree v w (inl h) (inr k) = absurd (h.0 (sym (first_once (IsViolatedInPhase phase tree) v None h.1 k.0)))
first_of_once (phase ∷ phases) tree v w (inr h) (inl k) = absurd (k.0 (first_once (IsViolatedInPhase phase tree) None w h.0 k.1))
first_of_once (phase ∷ phases) tree v w (inr h) (inr k) = first_of_once phases tree v w h.1 k.1
