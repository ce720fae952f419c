-- One run of a flow, by the sides that it takes: at a test the first or the second, at a loop another turn or none.
use Rattle.std.proofs.Common.{◌≡◌, inl, inr, Bool, true, false, List, [], ◌∷◌, ◌++◌, refl, ℕ, zero, suc, length, ap, sym, ◌∙◌, append_assoc, subst}
use Rattle.hv_rules.specs.Flow.{Flow, Skip, Do, Stop, Then, Either, Loop, none, Ends, Leaves, IsWhole, IsTrace, more}

-- the events of a run, whether it leaves the body, and the sides that weren't asked for
pub record Run (E : Type 0) : Type 0 where
  pub events : List E
  pub left : Bool
  pub sides : List Bool

abbrev pub then_run : {E : Type 0} → Bool → Run E → Run E → Run E
then_run true a b = a
then_run false a b = record { events = a.events ++ b.events; left = b.left; sides = b.sides }

-- turns of a loop, as long as the next side says so
abbrev pub turns_run : {E : Type 0} → ℕ → (List Bool → Run E) → List Bool → Run E
turns_run zero turn sides = record { events = []; left = false; sides = sides }
turns_run (suc n) turn [] = record { events = []; left = false; sides = [] }
turns_run (suc n) turn (false ∷ sides) = record { events = []; left = false; sides = sides }
turns_run (suc n) turn (true ∷ sides) = then_run (turn sides).left (turn sides) (turns_run n turn (turn sides).sides)

abbrev pub run : {E : Type 0} → Flow E → List Bool → Run E
run Skip sides = record { events = []; left = false; sides = sides }
run (Do e) sides = record { events = e ∷ []; left = false; sides = sides }
run (Stop e) sides = record { events = e ∷ []; left = true; sides = sides }
run (Then a b) sides = then_run (run a sides).left (run a sides) (run b (run a sides).sides)
run (Either a b) [] = run a []
run (Either a b) (true ∷ sides) = run a sides
run (Either a b) (false ∷ sides) = run b sides
run (Loop a) sides = turns_run (length sides) (run a) sides

-- the events end the flow, or leave the body
abbrev pub Goes : {E : Type 0} → Flow E → Run E → Bool → Type 0
Goes f r true = Leaves f r.events
Goes f r false = Ends f r.events

then_goes : {E : Type 0} (a b : Flow E) (p q : Run E) (k l : Bool) → p.left ≡ k → q.left ≡ l → Goes a p k → Goes b q l → Goes (Then a b) (then_run k p q) (then_run k p q).left
then_goes a b p q true l e f g h = rw e (inl g)
then_goes a b p q false true e f g h = rw f (inr (p.events, q.events, g, h, refl))
then_goes a b p q false false e f g h = rw f (p.events, q.events, g, h, refl)

then_turn : {E : Type 0} (a : Flow E) (p q : Run E) (k l : Bool) → p.left ≡ k → q.left ≡ l → Goes a p k → Goes (Loop a) q l → Goes (Loop a) (then_run k p q) (then_run k p q).left
then_turn a p q true l e f g h = rw e ([], p.events, none refl, g, refl)
then_turn a p q false true e f g (xs, ys, t, w, i) = rw f (p.events ++ xs, ys, more p.events xs g t refl, w, ap (λ (v : List _). p.events ++ v) i ∙ sym (append_assoc p.events xs ys))
then_turn a p q false false e f g h = rw f (more p.events q.events g h refl)

turns_go : {E : Type 0} (a : Flow E) (turn : List Bool → Run E) → ((sides : List Bool) → Goes a (turn sides) (turn sides).left) →
    (n : ℕ) (sides : List Bool) → Goes (Loop a) (turns_run n turn sides) (turns_run n turn sides).left
turns_go a turn goes zero sides = none refl
turns_go a turn goes (suc n) [] = none refl
turns_go a turn goes (suc n) (false ∷ sides) = none refl
turns_go a turn goes (suc n) (true ∷ sides) =
    then_turn a (turn sides) (turns_run n turn (turn sides).sides) (turn sides).left (turns_run n turn (turn sides).sides).left refl refl (goes sides) (turns_go a turn goes n (turn sides).sides)

pub run_goes : {E : Type 0} (f : Flow E) (sides : List Bool) → Goes f (run f sides) (run f sides).left
run_goes Skip sides = refl
run_goes (Do e) sides = refl
run_goes (Stop e) sides = refl
run_goes (Then a b) sides = then_goes a b (run a sides) (run b (run a sides).sides) (run a sides).left (run b (run a sides).sides).left refl refl (run_goes a sides) (run_goes b (run a sides).sides)
run_goes (Either a b) [] = either_left a b (run a []) (run a []).left (run_goes a [])
  where
    either_left : {E : Type 0} (a b : Flow E) (r : Run E) (k : Bool) → Goes a r k → Goes (Either a b) r k
    either_left a b r true g = inl g
    either_left a b r false g = inl g
run_goes (Either a b) (true ∷ sides) = either_left a b (run a sides) (run a sides).left (run_goes a sides)
  where
    either_left : {E : Type 0} (a b : Flow E) (r : Run E) (k : Bool) → Goes a r k → Goes (Either a b) r k
    either_left a b r true g = inl g
    either_left a b r false g = inl g
run_goes (Either a b) (false ∷ sides) = either_right a b (run b sides) (run b sides).left (run_goes b sides)
  where
    either_right : {E : Type 0} (a b : Flow E) (r : Run E) (k : Bool) → Goes b r k → Goes (Either a b) r k
    either_right a b r true g = inr g
    either_right a b r false g = inr g
run_goes (Loop a) sides = turns_go a (run a) (run_goes a) (length sides) sides

-- a run is a whole trace
pub run_whole : {E : Type 0} (f : Flow E) (sides : List Bool) → IsWhole f (run f sides).events
run_whole f sides = whole f (run f sides) (run f sides).left (run_goes f sides)
  where
    whole : {E : Type 0} (f : Flow E) (r : Run E) (k : Bool) → Goes f r k → IsWhole f r.events
    whole f r true g = inr g
    whole f r false g = inl g

-- the front of a run is a trace
pub run_front : {E : Type 0} (f : Flow E) (sides : List Bool) (front rest : List E) → (run f sides).events ≡ front ++ rest → IsTrace f front
run_front f sides front rest e = (rest, rw e at (run_whole f sides))

-- a trace may be cut anywhere
pub trace_front : {E : Type 0} (f : Flow E) (xs ys : List E) → IsTrace f (xs ++ ys) → IsTrace f xs
trace_front {E} f xs ys (rest, w) = (ys ++ rest, subst (λ (es : List E). IsWhole f es) (append_assoc xs ys rest) w)

-- each flow has a whole trace, so that no events at all are a trace too
pub none_traced : {E : Type 0} (f : Flow E) → IsTrace f []
none_traced f = run_front f [] [] (run f []).events refl
