-- The value of one cell, seen from where the innermost turn of a loop began, and what is refused because of it.
use Rattle.std.proofs.Common.{◌≡◌, ◌⊎◌, inl, inr, ℕ, zero, suc, Bool, true, false, if◌then◌else◌, List, [], ◌∷◌, ◌++◌, Option, Some, None, refl, sym, ◌∙◌, ap, subst}
use Rattle.hv_tree.specs.declared.refusal.Refusal.{Refusal}
use Rattle.hv_flow_pass.specs.declared.act.Act.{Act}
use Rattle.hv_flow_pass.specs.declared.act.Act.TheVariants as act

-- whether the cell is one of so many from a number on
abbrev pub inside : ℕ → ℕ → ℕ → Bool
inside (suc from) count zero = false
inside (suc from) count (suc i) = inside from count i
inside zero zero i = false
inside zero (suc count) zero = true
inside zero (suc count) (suc i) = inside zero count i

-- ---- what events leave of a cell, where None is the value that it had as the turn began

abbrev pub seen_after : ℕ → Act → Option Bool → Option Bool
seen_after i (act.Set range value) q = if inside range.from range.count i then Some value else q
seen_after i (act.Refuse range value r) q = q

abbrev pub event_after : ℕ → List Act → Option Bool → Option Bool
event_after i [] q = q
event_after i (a ∷ acts) q = event_after i acts (seen_after i a q)

abbrev pub run : ℕ → List (List Act) → Option Bool → Option Bool
run i [] q = q
run i (e ∷ es) q = run i es (event_after i e q)

pub run-append : (i : ℕ) (xs ys : List (List Act)) (q : Option Bool) → run i (xs ++ ys) q ≡ run i ys (run i xs q)
run-append i [] ys q = refl
run-append i (e ∷ xs) ys q = run-append i xs ys (event_after i e q)

-- events leave a cell or set it
pub data Moves (f : Option Bool → Option Bool) : Type 0 where
  stays : ((q : Option Bool) → f q ≡ q) → Moves f
  sets : (v : Bool) → ((q : Option Bool) → f q ≡ Some v) → Moves f

both_move : (f g : Option Bool → Option Bool) → Moves f → Moves g → Moves (λ q. g (f q))
both_move f g m (sets v h) = sets v (λ q. h (f q))
both_move f g (stays h) (stays k) = stays (λ q. k (f q) ∙ h q)
both_move f g (sets v h) (stays k) = sets v (λ q. k (f q) ∙ h q)

if_moves : (v b : Bool) → Moves (λ q. if b then Some v else q)
if_moves v true = sets v (λ q. refl)
if_moves v false = stays (λ q. refl)

act_moves : (i : ℕ) (a : Act) → Moves (seen_after i a)
act_moves i (act.Set range value) = if_moves value (inside range.from range.count i)
act_moves i (act.Refuse range value r) = stays (λ q. refl)

event_moves : (i : ℕ) (acts : List Act) → Moves (event_after i acts)
event_moves i [] = stays (λ q. refl)
event_moves i (a ∷ acts) = both_move (seen_after i a) (event_after i acts) (act_moves i a) (event_moves i acts)

pub run_moves : (i : ℕ) (es : List (List Act)) → Moves (run i es)
run_moves i [] = stays (λ q. refl)
run_moves i (e ∷ es) = both_move (event_after i e) (run i es) (event_moves i e) (run_moves i es)

-- ---- where the turn began with a value

abbrev pub filled : Bool → Option Bool → Option Bool
filled w None = Some w
filled w (Some v) = Some v

if_filled : (w v b : Bool) (q : Option Bool) → (if b then Some v else filled w q) ≡ filled w (if b then Some v else q)
if_filled w v true q = refl
if_filled w v false q = refl

act_filled : (w : Bool) (i : ℕ) (a : Act) (q : Option Bool) → seen_after i a (filled w q) ≡ filled w (seen_after i a q)
act_filled w i (act.Set range value) q = if_filled w value (inside range.from range.count i) q
act_filled w i (act.Refuse range value r) q = refl

event_filled : (w : Bool) (i : ℕ) (acts : List Act) (q : Option Bool) → event_after i acts (filled w q) ≡ filled w (event_after i acts q)
event_filled w i [] q = refl
event_filled w i (a ∷ acts) q = ap (event_after i acts) (act_filled w i a q) ∙ event_filled w i acts (seen_after i a q)

pub run_filled : (w : Bool) (i : ℕ) (es : List (List Act)) (q : Option Bool) → run i es (filled w q) ≡ filled w (run i es q)
run_filled w i [] q = refl
run_filled w i (e ∷ es) q = ap (run i es) (event_filled w i e q) ∙ run_filled w i es (event_after i e q)

-- ---- what is refused

-- at once, or only where the turn began with this value of this cell
pub data Cause : Type 0 where
  Always : Cause
  When : ℕ → Bool → Cause

abbrev pub Meets : ℕ → Option Bool → Bool → Cause → Type 0
Meets i (Some w) value Always = w ≡ value
Meets i (Some w) value (When j v) = ⊥
Meets i None value Always = ⊥
Meets i None value (When j v) = (j ≡ i) × (v ≡ value)

abbrev pub RaisedBy : ℕ → Option Bool → Act → Cause → Refusal → Type 0
RaisedBy i q (act.Set range value) c r = ⊥
RaisedBy i q (act.Refuse range value t) c r = (inside range.from range.count i ≡ true) × Meets i q value c × (r ≡ t)

abbrev pub Raised : ℕ → Option Bool → List Act → Cause → Refusal → Type 0
Raised i q [] c r = ⊥
Raised i q (a ∷ acts) c r = RaisedBy i q a c r ⊎ Raised i (seen_after i a q) acts c r

meets_of : (w : Bool) (i : ℕ) (q : Option Bool) (value : Bool) → Meets i (filled w q) value Always → Meets i q value Always ⊎ Meets i q value (When i w)
meets_of w i (Some v) value h = inl h
meets_of w i None value h = inr (refl, h)

by_of : (w : Bool) (i : ℕ) (q : Option Bool) (a : Act) (r : Refusal) → RaisedBy i (filled w q) a Always r → RaisedBy i q a Always r ⊎ RaisedBy i q a (When i w) r
by_of w i q (act.Set range value) r h = absurd h
by_of w i q (act.Refuse range value t) r (h, m, e) = choose (meets_of w i q value m)
  where
    choose : Meets i q value Always ⊎ Meets i q value (When i w) → RaisedBy i q (act.Refuse range value t) Always r ⊎ RaisedBy i q (act.Refuse range value t) (When i w) r
    choose (inl k) = inl (h, k, e)
    choose (inr k) = inr (h, k, e)

pub raised_of : (w : Bool) (i : ℕ) (q : Option Bool) (acts : List Act) (r : Refusal) → Raised i (filled w q) acts Always r → Raised i q acts Always r ⊎ Raised i q acts (When i w) r
raised_of w i q [] r h = absurd h
raised_of w i q (a ∷ acts) r (inl h) = choose (by_of w i q a r h)
  where
    choose : RaisedBy i q a Always r ⊎ RaisedBy i q a (When i w) r → Raised i q (a ∷ acts) Always r ⊎ Raised i q (a ∷ acts) (When i w) r
    choose (inl k) = inl (inl k)
    choose (inr k) = inr (inl k)
raised_of w i q (a ∷ acts) r (inr h) = choose (raised_of w i (seen_after i a q) acts r (subst (λ (p : Option Bool). Raised i p acts Always r) (act_filled w i a q) h))
  where
    choose : Raised i (seen_after i a q) acts Always r ⊎ Raised i (seen_after i a q) acts (When i w) r → Raised i q (a ∷ acts) Always r ⊎ Raised i q (a ∷ acts) (When i w) r
    choose (inl k) = inl (inr k)
    choose (inr k) = inr (inr k)

meets_always : (w : Bool) (i : ℕ) (q : Option Bool) (value : Bool) → Meets i q value Always → Meets i (filled w q) value Always
meets_always w i (Some v) value h = h
meets_always w i None value h = absurd h

by_always : (w : Bool) (i : ℕ) (q : Option Bool) (a : Act) (r : Refusal) → RaisedBy i q a Always r → RaisedBy i (filled w q) a Always r
by_always w i q (act.Set range value) r h = h
by_always w i q (act.Refuse range value t) r (h, m, e) = (h, meets_always w i q value m, e)

pub raised_always : (w : Bool) (i : ℕ) (q : Option Bool) (acts : List Act) (r : Refusal) → Raised i q acts Always r → Raised i (filled w q) acts Always r
raised_always w i q [] r h = h
raised_always w i q (a ∷ acts) r (inl h) = inl (by_always w i q a r h)
raised_always w i q (a ∷ acts) r (inr h) = inr (subst (λ (p : Option Bool). Raised i p acts Always r) (sym (act_filled w i a q)) (raised_always w i (seen_after i a q) acts r h))

meets_when : (w : Bool) (i : ℕ) (q : Option Bool) (value : Bool) → Meets i q value (When i w) → Meets i (filled w q) value Always
meets_when w i (Some v) value h = absurd h
meets_when w i None value h = h.1

by_when : (w : Bool) (i : ℕ) (q : Option Bool) (a : Act) (r : Refusal) → RaisedBy i q a (When i w) r → RaisedBy i (filled w q) a Always r
by_when w i q (act.Set range value) r h = h
by_when w i q (act.Refuse range value t) r (h, m, e) = (h, meets_when w i q value m, e)

pub raised_when : (w : Bool) (i : ℕ) (q : Option Bool) (acts : List Act) (r : Refusal) → Raised i q acts (When i w) r → Raised i (filled w q) acts Always r
raised_when w i q [] r h = h
raised_when w i q (a ∷ acts) r (inl h) = inl (by_when w i q a r h)
raised_when w i q (a ∷ acts) r (inr h) = inr (subst (λ (p : Option Bool). Raised i p acts Always r) (sym (act_filled w i a q)) (raised_when w i (seen_after i a q) acts r h))

never_meets : (w : Bool) (i : ℕ) (q : Option Bool) (value : Bool) (j : ℕ) (v : Bool) → Meets i (filled w q) value (When j v) → ⊥
never_meets w i (Some u) value j v h = h
never_meets w i None value j v h = h

by_never : (w : Bool) (i : ℕ) (q : Option Bool) (a : Act) (j : ℕ) (v : Bool) (r : Refusal) → RaisedBy i (filled w q) a (When j v) r → ⊥
by_never w i q (act.Set range value) j v r h = h
by_never w i q (act.Refuse range value t) j v r h = never_meets w i q value j v h.1

pub never_raised : (w : Bool) (i : ℕ) (q : Option Bool) (acts : List Act) (j : ℕ) (v : Bool) (r : Refusal) → Raised i (filled w q) acts (When j v) r → ⊥
never_raised w i q [] j v r h = h
never_raised w i q (a ∷ acts) j v r (inl h) = by_never w i q a j v r h
never_raised w i q (a ∷ acts) j v r (inr h) = never_raised w i (seen_after i a q) acts j v r (subst (λ (p : Option Bool). Raised i p acts (When j v) r) (act_filled w i a q) h)

meets_self : (i : ℕ) (q : Option Bool) (value : Bool) (j : ℕ) (v : Bool) → Meets i q value (When j v) → j ≡ i
meets_self i (Some u) value j v h = absurd h
meets_self i None value j v h = h.0

by_self : (i : ℕ) (q : Option Bool) (a : Act) (j : ℕ) (v : Bool) (r : Refusal) → RaisedBy i q a (When j v) r → j ≡ i
by_self i q (act.Set range value) j v r h = absurd h
by_self i q (act.Refuse range value t) j v r h = meets_self i q value j v h.1

pub raised_self : (i : ℕ) (q : Option Bool) (acts : List Act) (j : ℕ) (v : Bool) (r : Refusal) → Raised i q acts (When j v) r → j ≡ i
raised_self i q [] j v r h = absurd h
raised_self i q (a ∷ acts) j v r (inl h) = by_self i q a j v r h
raised_self i q (a ∷ acts) j v r (inr h) = raised_self i (seen_after i a q) acts j v r h
