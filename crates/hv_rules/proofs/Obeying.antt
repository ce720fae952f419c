-- How to show that a program violates nothing: site by site, and event by event along its whole traces.
use Rattle.std.proofs.Common.{◌≡◌, ◌≢◌, ℕ, zero, suc, false, List, [], ◌∷◌, ◌++◌, None, Contains, subst, arith}
use Rattle.hv_tree.specs.declared.refusal.Rule.{Rule}
use Rattle.hv_tree.specs.declared.refusal.Rule.TheVariants as rule
use Rattle.hv_tree.specs.Core.{Core}
use Rattle.hv_rules.specs.declared.event.FlowEvent.TheVariants as event
use Rattle.hv_decls.specs.Locals.{CoreBody}
use Rattle.hv_rules.specs.Events.{Mark}
use Rattle.hv_rules.specs.States.{State, after, after_all}
use Rattle.hv_rules.specs.Rules.{asks_whole, asks_free, asks_unwritten, back_at, handles_at, missing_at, Violates}

-- ---- lists

abbrev pub AllOf : {A : Type 0} → (A → Type 0) → List A → Type 0
AllOf P [] = Unit {0}
AllOf P (x ∷ xs) = P x × AllOf P xs

pub all_at : {A : Type 0} (P : A → Type 0) (xs : List A) (x : A) → AllOf P xs → Contains xs x → P x
all_at P [] x a (k, l, e) = absurd (omega arith)
all_at P (y ∷ ys) x a (zero, l, e) = subst (λ (z : _). P z) e a.0
all_at P (y ∷ ys) x a (suc k, l, e) = all_at P ys x a.1 (k, (omega arith), e)

pub none_in : {A : Type 0} (x : A) → Contains [] x → ⊥
none_in x (k, l, e) = omega arith

-- ---- events

module _ (tree : Core) (body : CoreBody) where
  -- no event violates a rule, from this state on
  abbrev pub Clears : State → List Mark → Type 0
  Clears s [] = Unit {0}
  Clears s (m ∷ ms) = ((r : Rule) → Violates tree body s r m → ⊥) × Clears (after m s) ms

  -- so no trace that is a front of them ends in a violation
  pub front_clears : (before : List Mark) (last : Mark) (rest ms : List Mark) (s : State) (r : Rule) → Clears s ms → (before ++ last ∷ []) ++ rest ≡ ms → Violates tree body (after_all before s) r last → ⊥
  front_clears [] last rest [] s r c e v = cc
  front_clears [] last rest (m ∷ ms) s r c e v = let same : last ≡ m = cc in c.0 r (subst (λ (k : Mark). Violates tree body s r k) same v)
  front_clears (b ∷ before) last rest [] s r c e v = cc
  front_clears (b ∷ before) last rest (m ∷ ms) s r c e v =
      let same : m ≡ b = cc in
      let more : (before ++ last ∷ []) ++ rest ≡ ms = cc in
      front_clears before last rest ms (after b s) r (subst (λ (k : Mark). Clears (after k s) ms) same c.1) more v

  -- an event that asks nothing
  pub quiet : (s : State) (m : Mark) → asks_whole m.event ≡ None → asks_free m.event m.belongs ≡ None → asks_unwritten m.event ≡ None →
      back_at m.belongs ≡ [] → handles_at m.belongs ≡ [] → missing_at m.belongs ≡ false → ((h : ℕ) → m.event ≢ event.Await h) → (r : Rule) → Violates tree body s r m → ⊥
  quiet s m a b c d e f g rule.I1 (p, q, hole) = cc
  quiet s m a b c d e f g rule.I2 (n, q, hole) = none_in n (subst (λ (ns : List ℕ). Contains ns n) d q)
  quiet s m a b c d e f g rule.I3 q = cc
  quiet s m a b c d e f g rule.X1 (p, q, clash) = cc
  quiet s m a b c d e f g rule.X2 (p, q, clash) = cc
  quiet s m a b c d e f g rule.S1 (h, q, was) = none_in h (subst (λ (ns : List ℕ). Contains ns h) e q)
  quiet s m a b c d e f g rule.S2 (h, q, was) = g h q
  quiet s m a b c d e f g _ v = v
