-- The places of a flow's events, numbered in order from a base, and which can follow which.
use Rattle.std.specs.Prelude.{◌≡◌, ◌⊎◌, ℕ, ◌+◌, Bool, true, false, ◌&&◌, ◌||◌, List, [], ◌∷◌}
use Rattle.hv_rules.specs.Flow.{Flow, Skip, Do, Stop, Then, Either, Loop}

-- how many events stand in the flow
abbrev pub places : {E : Type 0} → Flow E → ℕ
places Skip = 0
places (Do e) = 1
places (Stop e) = 1
places (Then a b) = places a + places b
places (Either a b) = places a + places b
places (Loop a) = places a

-- whether it may end with no event
abbrev pub is_empty : {E : Type 0} → Flow E → Bool
is_empty Skip = true
is_empty (Do e) = false
is_empty (Stop e) = false
is_empty (Then a b) = is_empty a && is_empty b
is_empty (Either a b) = is_empty a || is_empty b
is_empty (Loop a) = true

-- which event stands at the place
abbrev pub At : {E : Type 0} → ℕ → Flow E → ℕ → E → Type 0
At k Skip i x = ⊥
At k (Do e) i x = (i ≡ k) × (x ≡ e)
At k (Stop e) i x = (i ≡ k) × (x ≡ e)
At k (Then a b) i x = At k a i x ⊎ At (k + places a) b i x
At k (Either a b) i x = At k a i x ⊎ At (k + places a) b i x
At k (Loop a) i x = At k a i x

-- a run may begin at the place
abbrev pub First : {E : Type 0} → ℕ → Flow E → ℕ → Type 0
First k Skip i = ⊥
First k (Do e) i = i ≡ k
First k (Stop e) i = i ≡ k
First k (Then a b) i = First k a i ⊎ ((is_empty a ≡ true) × First (k + places a) b i)
First k (Either a b) i = First k a i ⊎ First (k + places a) b i
First k (Loop a) i = First k a i

-- the flow may end after the place
abbrev pub Last : {E : Type 0} → ℕ → Flow E → ℕ → Type 0
Last k Skip i = ⊥
Last k (Do e) i = i ≡ k
Last k (Stop e) i = ⊥
Last k (Then a b) i = Last (k + places a) b i ⊎ ((is_empty b ≡ true) × Last k a i)
Last k (Either a b) i = Last k a i ⊎ Last (k + places a) b i
Last k (Loop a) i = Last k a i

-- the body is left at the place
abbrev pub Final : {E : Type 0} → ℕ → Flow E → ℕ → Type 0
Final k Skip i = ⊥
Final k (Do e) i = ⊥
Final k (Stop e) i = i ≡ k
Final k (Then a b) i = Final k a i ⊎ Final (k + places a) b i
Final k (Either a b) i = Final k a i ⊎ Final (k + places a) b i
Final k (Loop a) i = Final k a i

-- the one place may follow the other
abbrev pub Next : {E : Type 0} → ℕ → Flow E → ℕ → ℕ → Type 0
Next k Skip i j = ⊥
Next k (Do e) i j = ⊥
Next k (Stop e) i j = ⊥
Next k (Then a b) i j = Next k a i j ⊎ (Next (k + places a) b i j ⊎ (Last k a i × First (k + places a) b j))
Next k (Either a b) i j = Next k a i j ⊎ Next (k + places a) b i j
Next k (Loop a) i j = Next k a i j ⊎ (Last k a i × First k a j)

-- a walk from the one place to the other, with the events on it
pub data Path {E : Type 0} (k : ℕ) (f : Flow E) : ℕ → List E → ℕ → Type 0 where
  here : {i : ℕ} {e : E} → At k f i e → Path k f i (e ∷ []) i
  step : {i m j : ℕ} {e : E} {es : List E} → At k f i e → Next k f i m → Path k f m es j → Path k f i (e ∷ es) j
