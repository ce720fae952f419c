-- What is asked, and the first that is found, step by step.
use Rattle.std.proofs.Common.{◌≡◌, ◌⊎◌, inl, inr, ℕ, zero, suc, ◌+◌, nat_eq, Bool, true, false, not, ◌&&◌, if◌then◌else◌, List, [], ◌∷◌, ◌++◌, slice_get, Option, Some, None, refl, sym, ◌∙◌, ap, subst, arith}
use Rattle.std.proofs.lemmas.Bool.Decides.{nat_tests}
use Rattle.hv_tree.specs.declared.refusal.Refusal.{Refusal}
use Rattle.hv_tree.specs.Earlier.{NotAfter, IsFirst}
use Rattle.hv_flow_versions.specs.declared.cell.Cell.{Cell}
use Rattle.hv_flow_pass.specs.declared.asked.Asked.{Asked}
use Rattle.hv_flow_pass.specs.declared.asked.Entry.{Entry}
use Rattle.hv_flow_pass.specs.declared.asked.Asks.{Asks}
use Rattle.hv_flow_pass.specs.declared.act.Act.{Act}
use Rattle.hv_flow_pass.specs.declared.act.Act.TheVariants as act
use Rattle.hv_flow_pass.specs.Hints.{hint_at}
use Rattle.hv_flow_pass.specs.Cells.{may_in, is_before, earlier, when, kept_at, may_at, is_same, suffices, suffices_if, is_asked, hint_around, appended, added, asked_if, asked_in, found_in, hinted_as, passed_on}
use Rattle.hv_flow_pass.specs.Passes.{Facts, pass_act, pass_acts, with_cells}
use Rattle.hv_flow_pass.proofs.Seen.{inside, seen_after, Cause, Always, When, Meets, RaisedBy, Raised}
use Rattle.hv_flow_pass.proofs.Firsts.{same_first, self_not_after, not_after_trans, not_before, earlier_first, when_first, one_first}
use Rattle.hv_flow_pass.proofs.Exactness.{May, act_stepped, act_steps, kept_same, may_same, inside_none, inside_more, inside_last, inside_or_last, may_found, may_here, never}

-- ---- what is asked

-- the refusal is asked where the cell had the value
abbrev pub Is : Asked → ℕ → Bool → Refusal → Type 0
Is a i v r = (a.cell ≡ i) × (a.value ≡ v) × (a.refusal ≡ r)

abbrev pub In : List Entry → ℕ → Bool → Refusal → Type 0
In [] i v r = ⊥
In (e ∷ asks) i v r = Is e.asked i v r ⊎ In asks i v r

in_before : (asks : List Entry) (a : Entry) (i : ℕ) (v : Bool) (r : Refusal) → In asks i v r → In (asks ++ a ∷ []) i v r
in_before [] a i v r h = absurd h
in_before (b ∷ asks) a i v r (inl h) = inl h
in_before (b ∷ asks) a i v r (inr h) = inr (in_before asks a i v r h)

in_last : (asks : List Entry) (a : Entry) (i : ℕ) (v : Bool) (r : Refusal) → Is a.asked i v r → In (asks ++ a ∷ []) i v r
in_last [] a i v r h = inl h
in_last (b ∷ asks) a i v r h = inr (in_last asks a i v r h)

in_either : (asks : List Entry) (a : Entry) (i : ℕ) (v : Bool) (r : Refusal) → In (asks ++ a ∷ []) i v r → In asks i v r ⊎ Is a.asked i v r
in_either [] a i v r (inl h) = inr h
in_either [] a i v r (inr h) = absurd h
in_either (b ∷ asks) a i v r (inl h) = inl (inl h)
in_either (b ∷ asks) a i v r (inr h) = by (in_either asks a i v r h)
  where
    by : In asks i v r ⊎ Is a.asked i v r → In (b ∷ asks) i v r ⊎ Is a.asked i v r
    by (inl g) = inl (inr g)
    by (inr g) = inr g

-- what is asked of the cell and value is not later
abbrev pub IsOwed : List Entry → ℕ → Bool → Refusal → Type 0
IsOwed asks i v r = (s : Refusal) × In asks i v s × NotAfter s r

pub owed_in : (asks : List Entry) (i : ℕ) (v : Bool) (r : Refusal) → In asks i v r → IsOwed asks i v r
owed_in asks i v r h = (r, h, self_not_after r)

pub owed_later : (asks : List Entry) (i : ℕ) (v : Bool) (s r : Refusal) → IsOwed asks i v s → NotAfter s r → IsOwed asks i v r
owed_later asks i v s r h n = (h.0, h.1, not_after_trans h.0 s r h.2 n)

-- ---- what a hint shows

same_value : (v w : Bool) → is_same v w ≡ true → v ≡ w
same_value true true h = refl
same_value true false h = never h
same_value false true h = never h
same_value false false h = refl

same_cell : (m n : ℕ) → nat_eq m n ≡ true → m ≡ n
same_cell m n h = grind (arith, nat_tests)

not_true : (b : Bool) → not b ≡ true → b ≡ false
not_true true h = never h
not_true false h = refl

three : (a b c : Bool) → ((a && b) && not c) ≡ true → (a ≡ true) × (b ≡ true) × (c ≡ false)
three true true c h = (refl, refl, not_true c h)
three true false c h = never h
three false b c h = never h

sufficient : (b a : Asked) → suffices b a ≡ true → Is b a.cell a.value b.refusal × NotAfter b.refusal a.refusal
sufficient b a h =
    let p = three (nat_eq b.cell a.cell) (is_same b.value a.value) (is_before a.refusal b.refusal) h in
    ((same_cell b.cell a.cell p.0, same_value b.value a.value p.1, refl), not_before b.refusal a.refusal p.2)

shown : (asks : List Entry) (n : ℕ) (a : Asked) → suffices_if (slice_get asks n) a ≡ true → IsOwed asks a.cell a.value a.refusal
shown [] n a h = never h
shown (b ∷ asks) zero a h = let p = sufficient b.asked a h in (b.asked.refusal, inl p.0, p.1)
shown (b ∷ asks) (suc n) a h = let p = shown asks n a h in (p.0, inr p.1, p.2)

-- ---- one more is asked

append_to : (asks : List Entry) (a : Entry) (i : ℕ) (v : Bool) (r : Refusal) → IsOwed asks i v r ⊎ Is a.asked i v r → IsOwed (asks ++ a ∷ []) i v r
append_to asks a i v r (inl h) = (h.0, in_before asks a i v h.0 h.1, h.2)
append_to asks a i v r (inr h) = owed_in (asks ++ a ∷ []) i v r (in_last asks a i v r h)

at_self : (asks : List Entry) (a : Asked) (i : ℕ) (v : Bool) (r : Refusal) → Is a i v r → IsOwed asks a.cell a.value a.refusal → IsOwed asks i v r
at_self asks a i v r (d, e, g) h =
    subst (λ (s : Refusal). IsOwed asks i v s) g (subst (λ (w : Bool). IsOwed asks i w a.refusal) e (subst (λ (j : ℕ). IsOwed asks j a.value a.refusal) d h))

add_to : (a : Asked) (asks : Asks) (i : ℕ) (v : Bool) (r : Refusal) → IsOwed asks.list i v r ⊎ Is a i v r → IsOwed (added a asks).list i v r
add_to a asks i v r h = by (is_asked asks a) refl h
  where
    by : (b : Bool) → is_asked asks a ≡ b → IsOwed asks.list i v r ⊎ Is a i v r → IsOwed (if b then asks else appended a asks).list i v r
    by true e (inl g) = g
    by true e (inr g) = at_self asks.list a i v r g (shown asks.list (hint_at asks.hints a.cell a.value) a e)
    by false e g = append_to asks.list (record { asked = a; around = hint_around asks a }) i v r g

add_of : (a : Asked) (asks : Asks) (i : ℕ) (v : Bool) (r : Refusal) → In (added a asks).list i v r → In asks.list i v r ⊎ Is a i v r
add_of a asks i v r h = by (is_asked asks a) h
  where
    by : (b : Bool) → In (if b then asks else appended a asks).list i v r → In asks.list i v r ⊎ Is a i v r
    by true g = inl g
    by false g = in_either asks.list (record { asked = a; around = hint_around asks a }) i v r g

if_to : (b : Bool) (a : Asked) (asks : Asks) (i : ℕ) (v : Bool) (r : Refusal) → IsOwed asks.list i v r ⊎ ((b ≡ true) × Is a i v r) → IsOwed (asked_if b a asks).list i v r
if_to true a asks i v r (inl h) = add_to a asks i v r (inl h)
if_to true a asks i v r (inr h) = add_to a asks i v r (inr h.1)
if_to false a asks i v r (inl h) = h
if_to false a asks i v r (inr h) = never h.0

if_of : (b : Bool) (a : Asked) (asks : Asks) (i : ℕ) (v : Bool) (r : Refusal) → In (asked_if b a asks).list i v r → In asks.list i v r ⊎ ((b ≡ true) × Is a i v r)
if_of true a asks i v r h = by (add_of a asks i v r h)
  where
    by : In asks.list i v r ⊎ Is a i v r → In asks.list i v r ⊎ ((true ≡ true) × Is a i v r)
    by (inl g) = inl g
    by (inr g) = inr (refl, g)
if_of false a asks i v r h = inl h

-- what is asked of a range
abbrev OfRange : Bool → Refusal → List Cell → ℕ → ℕ → ℕ → Bool → Refusal → Type 0
OfRange value t cs from count i v r = (inside from count i ≡ true) × May cs i None × (v ≡ value) × (r ≡ t)

range_to : (value : Bool) (t : Refusal) (cs : List Cell) (from count : ℕ) (asks : Asks) (i : ℕ) (v : Bool) (r : Refusal) →
    IsOwed asks.list i v r ⊎ OfRange value t cs from count i v r → IsOwed (asked_in value t cs from count asks).list i v r
range_to value t cs from zero asks i v r (inl h) = h
range_to value t cs from zero asks i v r (inr h) = never (sym (inside_none from i) ∙ h.0)
range_to value t cs from (suc n) asks i v r (inl h) =
    if_to (kept_at cs (from + n)) (record { cell = from + n; value = value; refusal = t }) (asked_in value t cs from n asks) i v r (inl (range_to value t cs from n asks i v r (inl h)))
range_to value t cs from (suc n) asks i v r (inr h) = by (inside_or_last from n i h.0) (λ g. range_to value t cs from n asks i v r (inr (g, h.1, h.2, h.3)))
  where
    last : (i ≡ from + n) → (kept_at cs (from + n) ≡ true) × Is (record { cell = from + n; value = value; refusal = t }) i v r
    last e = (kept_same cs (from + n) ∙ subst (λ (j : ℕ). May cs j None) e h.1, (sym e, sym h.2, sym h.3))

    by : (inside from n i ≡ true) ⊎ (i ≡ from + n) → (inside from n i ≡ true → IsOwed (asked_in value t cs from n asks).list i v r) → IsOwed (asked_in value t cs from (suc n) asks).list i v r
    by (inl g) ih = if_to (kept_at cs (from + n)) (record { cell = from + n; value = value; refusal = t }) (asked_in value t cs from n asks) i v r (inl (ih g))
    by (inr e) ih = if_to (kept_at cs (from + n)) (record { cell = from + n; value = value; refusal = t }) (asked_in value t cs from n asks) i v r (inr (last e))

range_of : (value : Bool) (t : Refusal) (cs : List Cell) (from count : ℕ) (asks : Asks) (i : ℕ) (v : Bool) (r : Refusal) →
    In (asked_in value t cs from count asks).list i v r → In asks.list i v r ⊎ OfRange value t cs from count i v r
range_of value t cs from zero asks i v r h = inl h
range_of value t cs from (suc n) asks i v r h =
    by (if_of (kept_at cs (from + n)) (record { cell = from + n; value = value; refusal = t }) (asked_in value t cs from n asks) i v r h) (λ g. range_of value t cs from n asks i v r g)
  where
    grown : In asks.list i v r ⊎ OfRange value t cs from n i v r → In asks.list i v r ⊎ OfRange value t cs from (suc n) i v r
    grown (inl g) = inl g
    grown (inr g) = inr (inside_more from n i g.0, g.1, g.2, g.3)

    by : In (asked_in value t cs from n asks).list i v r ⊎ ((kept_at cs (from + n) ≡ true) × Is (record { cell = from + n; value = value; refusal = t }) i v r) →
        (In (asked_in value t cs from n asks).list i v r → In asks.list i v r ⊎ OfRange value t cs from n i v r) → In asks.list i v r ⊎ OfRange value t cs from (suc n) i v r
    by (inl g) ih = grown (ih g)
    by (inr g) ih =
        inr (inside_last from n i (sym g.1.0), subst (λ (j : ℕ). May cs j None) g.1.0 (sym (kept_same cs (from + n)) ∙ g.0), sym g.1.1, sym g.1.2)

-- ---- what is known of a cause

-- these are what is refused for the cause: the first is found, or what is asked is among them and
-- none is before it
abbrev pub Knows : Facts → Cause → (Refusal → Type 0) → Type 0
Knows k Always T = IsFirst T k.found
Knows k (When i v) T = (r : Refusal) → (T r → IsOwed k.asked.list i v r) × (In k.asked.list i v r → T r)

pub knows_same : (k : Facts) (c : Cause) (T S : Refusal → Type 0) → ((r : Refusal) → T r → S r) → ((r : Refusal) → S r → T r) → Knows k c T → Knows k c S
knows_same k Always T S to back h = same_first T S k.found to back h
knows_same k (When i v) T S to back h = λ r. (λ s. (h r).0 (back r s), λ p. to r ((h r).1 p))

pub knows_no_more : (k : Facts) (c : Cause) (T S : Refusal → Type 0) → ((r : Refusal) → S r → ⊥) → Knows k c T → Knows k c (λ r. T r ⊎ S r)
knows_no_more k c T S none h = knows_same k c T (λ r. T r ⊎ S r) (λ r t. inl t) (λ r p. by r p) h
  where
    by : (r : Refusal) → T r ⊎ S r → T r
    by r (inl t) = t
    by r (inr s) = absurd (none r s)

-- the cells don't matter
pub knows_with : (cs : List Cell) (k : Facts) (c : Cause) (T : Refusal → Type 0) → Knows k c T → Knows (with_cells cs k) c T
knows_with cs k Always T h = h
knows_with cs k (When i v) T h = h

-- ---- one act, and the acts of an event

-- the act refuses because of some cell
abbrev pub Here : List Cell → Act → Cause → Refusal → Type 0
Here cs a c r = (i : ℕ) × (q : Option Bool) × May cs i q × RaisedBy i q a c r

abbrev pub HereIn : List Cell → List Act → Cause → Refusal → Type 0
HereIn cs acts c r = (i : ℕ) × (q : Option Bool) × May cs i q × Raised i q acts c r

seen_value : (i : ℕ) (q : Option Bool) (value : Bool) → Meets i q value Always → q ≡ Some value
seen_value i (Some w) value h = ap (λ (u : Bool). Some u) h
seen_value i None value h = absurd h

refuse_now : (from count : ℕ) (value : Bool) (t : Refusal) (cs : List Cell) (b : Bool) → may_in value from count cs ≡ b →
    IsFirst (λ r. (i : ℕ) × (q : Option Bool) × May cs i q × ((inside from count i ≡ true) × Meets i q value Always × (r ≡ t))) (when b (Some t))
refuse_now from count value t cs true e =
    let p = may_found value from count cs e in
    same_first (λ r. r ≡ t) _ (Some t) (λ r h. (p.0, Some value, p.1, (p.2, refl, h))) (λ r h. h.3.2) (one_first t)
refuse_now from count value t cs false e = λ r h. never (sym e ∙ may_here value from count cs h.0 (subst (λ (u : Option Bool). May cs h.0 u) (seen_value h.0 h.1 value h.3.1) h.2) h.3.0)

seen_none : (i : ℕ) (q : Option Bool) (value : Bool) (j : ℕ) (v : Bool) → Meets i q value (When j v) → (q ≡ None) × (j ≡ i) × (v ≡ value)
seen_none i (Some w) value j v h = absurd h
seen_none i None value j v h = (refl, h.0, h.1)

act_knows : (a : Act) (k : Facts) (c : Cause) (T : Refusal → Type 0) → Knows k c T → Knows (pass_act a k) c (λ r. T r ⊎ Here k.cells a c r)
act_knows (act.Set range value) k Always T h = knows_no_more k Always T (Here k.cells (act.Set range value) Always) (λ r p. p.3) h
act_knows (act.Set range value) k (When i v) T h = knows_no_more k (When i v) T (Here k.cells (act.Set range value) (When i v)) (λ r p. p.3) h
act_knows (act.Refuse range value t) k Always T h =
    earlier_first T (Here k.cells (act.Refuse range value t) Always) k.found _ h (refuse_now range.from range.count value t k.cells (may_in value range.from range.count k.cells) refl)
act_knows (act.Refuse range value t) k (When i v) T h = λ r. (λ p. to r p, λ p. back r (range_of value t k.cells range.from range.count k.asked i v r p))
  where
    to : (r : Refusal) → T r ⊎ Here k.cells (act.Refuse range value t) (When i v) r → IsOwed (asked_in value t k.cells range.from range.count k.asked).list i v r
    to r (inl p) = range_to value t k.cells range.from range.count k.asked i v r (inl ((h r).0 p))
    to r (inr p) =
        let s = seen_none p.0 p.1 value i v p.3.1 in
        let m = subst (λ (u : Option Bool). May k.cells p.0 u) s.0 p.2 in
        range_to value t k.cells range.from range.count k.asked i v r
        (inr (subst (λ (w : ℕ). inside range.from range.count w ≡ true) (sym s.1) p.3.0, subst (λ (w : ℕ). May k.cells w None) (sym s.1) m, s.2, p.3.2))

    back : (r : Refusal) → In k.asked.list i v r ⊎ OfRange value t k.cells range.from range.count i v r → T r ⊎ Here k.cells (act.Refuse range value t) (When i v) r
    back r (inl p) = inl ((h r).1 p)
    back r (inr p) = inr (i, None, p.1, (p.0, (refl, p.2), p.3))

pub acts_know : (acts : List Act) (k : Facts) (c : Cause) (T : Refusal → Type 0) → Knows k c T → Knows (pass_acts acts k) c (λ r. T r ⊎ HereIn k.cells acts c r)
acts_know [] k c T h = knows_no_more k c T (HereIn k.cells [] c) (λ r p. p.3) h
acts_know (a ∷ acts) k c T h =
    knows_same (pass_acts (a ∷ acts) k) c _ _ (λ r p. to r p) (λ r p. back r p) (acts_know acts (pass_act a k) c (λ r. T r ⊎ Here k.cells a c r) (act_knows a k c T h))
  where
    to : (r : Refusal) → (T r ⊎ Here k.cells a c r) ⊎ HereIn (pass_act a k).cells acts c r → T r ⊎ HereIn k.cells (a ∷ acts) c r
    to r (inl (inl p)) = inl p
    to r (inl (inr p)) = inr (p.0, p.1, p.2, inl p.3)
    to r (inr p) =
        let q = act_steps a k p.0 p.1 p.2 in
        inr (p.0, q.0, q.1, inr (subst (λ (u : Option Bool). Raised p.0 u acts c r) (sym q.2) p.3))

    from_raised : (r : Refusal) (i : ℕ) (q : Option Bool) → May k.cells i q → RaisedBy i q a c r ⊎ Raised i (seen_after i a q) acts c r → (T r ⊎ Here k.cells a c r) ⊎ HereIn (pass_act a k).cells acts c r
    from_raised r i q m (inl p) = inl (inr (i, q, m, p))
    from_raised r i q m (inr p) = inr (i, seen_after i a q, act_stepped a k i q m, p)

    back : (r : Refusal) → T r ⊎ HereIn k.cells (a ∷ acts) c r → (T r ⊎ Here k.cells a c r) ⊎ HereIn (pass_act a k).cells acts c r
    back r (inl p) = inl (inl p)
    back r (inr p) = from_raised r p.0 p.1 p.2 p.3

-- ---- behind a loop

-- what was asked where a turn began is refused where the cell may be so
abbrev pub Comes_due : List Cell → (ℕ → Bool → Refusal → Type 0) → Refusal → Type 0
Comes_due cs A r = (i : ℕ) × (v : Bool) × May cs i (Some v) × A i v r

pub find_first : (cs : List Cell) (asks : List Entry) (w : Option Refusal) (T : Refusal → Type 0) → IsFirst T w → IsFirst (λ r. T r ⊎ Comes_due cs (In asks) r) (found_in cs asks w)
find_first cs [] w T h = same_first T _ w (λ r t. inl t) (λ r p. by r p) h
  where
    by : (r : Refusal) → T r ⊎ Comes_due cs (In []) r → T r
    by r (inl t) = t
    by r (inr p) = absurd p.3
find_first cs (a ∷ asks) w T h =
    same_first _ _ _ (λ r p. to r p) (λ r p. back r p)
    (find_first cs asks (earlier w (when (may_at cs a.asked.cell a.asked.value) (Some a.asked.refusal))) (λ r. T r ⊎ ((may_at cs a.asked.cell a.asked.value ≡ true) × (r ≡ a.asked.refusal)))
    (earlier_first T _ w _ h (when_first (may_at cs a.asked.cell a.asked.value) (λ r. r ≡ a.asked.refusal) (Some a.asked.refusal) (one_first a.asked.refusal))))
  where
    to : (r : Refusal) → (T r ⊎ ((may_at cs a.asked.cell a.asked.value ≡ true) × (r ≡ a.asked.refusal))) ⊎ Comes_due cs (In asks) r → T r ⊎ Comes_due cs (In (a ∷ asks)) r
    to r (inl (inl t)) = inl t
    to r (inl (inr p)) = inr (a.asked.cell, a.asked.value, sym (may_same cs a.asked.cell a.asked.value) ∙ p.0, inl (refl, refl, sym p.1))
    to r (inr p) = inr (p.0, p.1, p.2, inr p.3)

    split : (r : Refusal) (i : ℕ) (v : Bool) → May cs i (Some v) → In (a ∷ asks) i v r → (T r ⊎ ((may_at cs a.asked.cell a.asked.value ≡ true) × (r ≡ a.asked.refusal))) ⊎ Comes_due cs (In asks) r
    split r i v m (inl p) =
        inl (inr (may_same cs a.asked.cell a.asked.value ∙ subst (λ (w : Bool). May cs a.asked.cell (Some w)) (sym p.1) (subst (λ (j : ℕ). May cs j (Some v)) (sym p.0) m), sym p.2))
    split r i v m (inr p) = inr (i, v, m, p)

    back : (r : Refusal) → T r ⊎ Comes_due cs (In (a ∷ asks)) r → (T r ⊎ ((may_at cs a.asked.cell a.asked.value ≡ true) × (r ≡ a.asked.refusal))) ⊎ Comes_due cs (In asks) r
    back r (inl t) = inl (inl t)
    back r (inr p) = split r p.0 p.1 p.2 p.3

-- what was asked where a turn began is asked further out where the cell may be as it was there
passed_in : (cs : List Cell) (asks : List Entry) (outer : Asks) (i : ℕ) (v : Bool) (r : Refusal) → IsOwed outer.list i v r ⊎ (May cs i None × In asks i v r) → IsOwed (passed_on cs asks outer).list i v r
passed_in cs [] outer i v r (inl h) = h
passed_in cs [] outer i v r (inr h) = absurd h.1
passed_in cs (a ∷ asks) outer i v r (inl h) = passed_in cs asks (asked_if (kept_at cs a.asked.cell) a.asked (hinted_as a outer)) i v r (inl (if_to (kept_at cs a.asked.cell) a.asked (hinted_as a outer) i v r (inl h)))
passed_in cs (a ∷ asks) outer i v r (inr (m, inl p)) =
    passed_in cs asks (asked_if (kept_at cs a.asked.cell) a.asked (hinted_as a outer)) i v r (inl (if_to (kept_at cs a.asked.cell) a.asked (hinted_as a outer) i v r (inr (kept_same cs a.asked.cell ∙ subst (λ (j : ℕ). May cs j None) (sym p.0) m, p))))
passed_in cs (a ∷ asks) outer i v r (inr (m, inr p)) = passed_in cs asks (asked_if (kept_at cs a.asked.cell) a.asked (hinted_as a outer)) i v r (inr (m, p))

pub passed_to : (cs : List Cell) (asks : List Entry) (outer : Asks) (i : ℕ) (v : Bool) (r : Refusal) → IsOwed outer.list i v r ⊎ (May cs i None × IsOwed asks i v r) → IsOwed (passed_on cs asks outer).list i v r
passed_to cs asks outer i v r (inl h) = passed_in cs asks outer i v r (inl h)
passed_to cs asks outer i v r (inr (m, p)) = owed_later (passed_on cs asks outer).list i v p.0 r (passed_in cs asks outer i v p.0 (inr (m, p.1))) p.2

pub passed_of : (cs : List Cell) (asks : List Entry) (outer : Asks) (i : ℕ) (v : Bool) (r : Refusal) → In (passed_on cs asks outer).list i v r → In outer.list i v r ⊎ (May cs i None × In asks i v r)
passed_of cs [] outer i v r h = inl h
passed_of cs (a ∷ asks) outer i v r h = by (passed_of cs asks (asked_if (kept_at cs a.asked.cell) a.asked (hinted_as a outer)) i v r h)
  where
    one : In outer.list i v r ⊎ ((kept_at cs a.asked.cell ≡ true) × Is a.asked i v r) → In outer.list i v r ⊎ (May cs i None × In (a ∷ asks) i v r)
    one (inl p) = inl p
    one (inr p) = inr (subst (λ (j : ℕ). May cs j None) p.1.0 (sym (kept_same cs a.asked.cell) ∙ p.0), inl p.1)

    by : In (asked_if (kept_at cs a.asked.cell) a.asked (hinted_as a outer)).list i v r ⊎ (May cs i None × In asks i v r) → In outer.list i v r ⊎ (May cs i None × In (a ∷ asks) i v r)
    by (inl p) = one (if_of (kept_at cs a.asked.cell) a.asked (hinted_as a outer) i v r p)
    by (inr p) = inr (p.0, inr p.1)
