-- A flow each event of which carries the state that the text before it leaves.
use Rattle.std.specs.Prelude.{◌≡◌, List, [], ◌∷◌, ⊤}
use Rattle.hv_rules.specs.Flow.{Flow, Skip, Do, Stop, Then, Either, Loop}

-- what the text of a flow leaves, where sides and loops are skipped
abbrev pub behind : {M S : Type 0} → (M → S → S) → Flow M → S → S
behind next Skip s = s
behind next (Do m) s = next m s
behind next (Stop m) s = next m s
behind next (Then a b) s = behind next b (behind next a s)
behind next (Either a b) s = s
behind next (Loop a) s = s

-- each side, and each turn of a loop, leaves the state as it is, so that all runs leave what the text leaves
abbrev pub Steady : {M S : Type 0} → (M → S → S) → Flow M → S → Type 0
Steady next Skip s = ⊤
Steady next (Do m) s = ⊤
Steady next (Stop m) s = ⊤
Steady next (Then a b) s = Steady next a s × Steady next b (behind next a s)
Steady next (Either a b) s = Steady next a s × (behind next a s ≡ s) × Steady next b s × (behind next b s ≡ s)
Steady next (Loop a) s = Steady next a s × (behind next a s ≡ s)

-- each event with the state before it
abbrev pub carrying : {M S : Type 0} → (M → S → S) → Flow M → S → Flow (M × S)
carrying next Skip s = Skip
carrying next (Do m) s = Do (m, s)
carrying next (Stop m) s = Stop (m, s)
carrying next (Then a b) s = Then (carrying next a s) (carrying next b (behind next a s))
carrying next (Either a b) s = Either (carrying next a s) (carrying next b s)
carrying next (Loop a) s = Loop (carrying next a s)

-- the events alone
abbrev pub without : {M S : Type 0} → List (M × S) → List M
without [] = []
without (p ∷ ps) = p.0 ∷ without ps

-- what events leave, one after the other
abbrev pub after_each : {M S : Type 0} → (M → S → S) → List M → S → S
after_each next [] s = s
after_each next (m ∷ ms) s = after_each next ms (next m s)

-- each event carries what those before it leave
abbrev pub Carries : {M S : Type 0} → (M → S → S) → List (M × S) → S → Type 0
Carries next [] s = ⊤
Carries next (p ∷ ps) s = (p.1 ≡ s) × Carries next ps (next p.0 s)
