-- What a body may do, as events in order, and its traces.
use Rattle.std.specs.Prelude.{◌≡◌, ◌⊎◌, List, [], ◌∷◌, ◌++◌}

-- what may happen, as six words
pub data Flow (E : Type 0) : Type 0 where
  -- nothing happens
  Skip : Flow E
  -- an event
  Do : E → Flow E
  -- an event with which the body is left
  Stop : E → Flow E
  -- the one and then the other
  Then : Flow E → Flow E → Flow E
  -- either of both
  Either : Flow E → Flow E → Flow E
  -- any number of turns
  Loop : Flow E → Flow E

-- one list after the other, each of which may come in a turn
pub data Turns {E : Type 0} (Turn : List E → Type 0) : List E → Type 0 where
  none : {es : List E} → es ≡ [] → Turns Turn es
  more : {es : List E} (xs ys : List E) → Turn xs → Turns Turn ys → es ≡ xs ++ ys → Turns Turn es

-- the events of a run to the end of the flow
abbrev pub Ends : {E : Type 0} → Flow E → List E → Type 0
Ends Skip es = es ≡ []
Ends (Do e) es = es ≡ e ∷ []
Ends (Stop e) es = ⊥
Ends {E} (Then a b) es = (xs : List E) × (ys : List E) × Ends a xs × Ends b ys × (es ≡ xs ++ ys)
Ends (Either a b) es = Ends a es ⊎ Ends b es
Ends (Loop a) es = Turns (Ends a) es

-- the events of a run that leaves the body
abbrev pub Leaves : {E : Type 0} → Flow E → List E → Type 0
Leaves Skip es = ⊥
Leaves (Do e) es = ⊥
Leaves (Stop e) es = es ≡ e ∷ []
Leaves {E} (Then a b) es = Leaves a es ⊎ ((xs : List E) × (ys : List E) × Ends a xs × Leaves b ys × (es ≡ xs ++ ys))
Leaves (Either a b) es = Leaves a es ⊎ Leaves b es
Leaves {E} (Loop a) es = (xs : List E) × (ys : List E) × Turns (Ends a) xs × Leaves a ys × (es ≡ xs ++ ys)

-- a trace that isn't cut: it ends where the flow ends or where the body is left
abbrev pub IsWhole : {E : Type 0} → Flow E → List E → Type 0
IsWhole f es = Ends f es ⊎ Leaves f es

-- a trace, whole or cut anywhere
abbrev pub IsTrace : {E : Type 0} → Flow E → List E → Type 0
IsTrace {E} f es = (rest : List E) × IsWhole f (es ++ rest)
