-- The pass over a flow knows what its cells may be, and the first of all that is refused on the way.
use Rattle.std.proofs.Common.{◌≡◌, ◌⊎◌, inl, inr, ℕ, Bool, List, [], ◌∷◌, ◌++◌, Option, Some, None, refl, sym, ◌∙◌, ap, subst}
use Rattle.std.proofs.lemmas.List.{append-nil}
use Rattle.hv_tree.specs.declared.refusal.Refusal.{Refusal}
use Rattle.hv_tree.specs.Earlier.{NotAfter}
use Rattle.hv_rules.specs.Flow.{Flow, Skip, Do, Stop, Then, Either, Loop, Turns, none, more, Ends}
use Rattle.hv_flow_versions.specs.declared.cell.Cell.{Cell}
use Rattle.hv_flow_pass.specs.declared.asked.Entry.{Entry}
use Rattle.hv_flow_pass.specs.declared.asked.Asks.{Asks}
use Rattle.hv_flow_pass.specs.declared.act.Act.{Act}
use Rattle.hv_flow_versions.specs.Cells.{begun}
use Rattle.hv_flow_pass.specs.Passes.{Facts, pass_acts, with_cells, asks_in, entered, passed}
use Rattle.hv_flow_pass.proofs.Traces.{Hits}
use Rattle.hv_flow_pass.proofs.Seen.{run, run-append, Moves, stays, sets, run_moves, run_filled, Cause, Always, When, Raised, raised_of, raised_always, raised_when, never_raised, raised_self}
use Rattle.hv_flow_pass.proofs.Firsts.{self_not_after, first_of_more}
use Rattle.hv_flow_pass.proofs.Exactness.{May, Reached, never, event_stepped, event_steps, joined_left, joined_right, joins, begins, begun_of, turned_left, turned_right, turned_of}
use Rattle.hv_flow_pass.proofs.Owed.{In, IsOwed, Knows, knows_same, knows_no_more, knows_with, HereIn, acts_know, Comes_due, find_first, passed_to, passed_of}

either_way : {X Y Z : Type 0} → X ⊎ Y → (X → Z) → (Y → Z) → Z
either_way (inl p) f g = f p
either_way (inr p) f g = g p

some_apart : {X : Type 0} (v : Bool) → None ≡ Some v → X
some_apart v e = absurd (by e)
  where
    by : None ≡ Some v → ⊥
    by h = cc

-- ---- what cells may be is what runs lead to

-- some events that are so lead from what the cell may be before
pub record Comes (Is : List (List Act) → Type 0) (cs : List Cell) (i : ℕ) (r : Option Bool) : Type 0 where
  pub q : Option Bool
  pub es : List (List Act)
  pub before : May cs i q
  pub is : Is es
  pub to : run i es q ≡ r

one_turn : (a : Flow (List Act)) (cs ts : List Cell) (i : ℕ) (r : Option Bool) →
    ((w : Bool) → May ts i (Some w) → Comes (Ends a) (begun cs) i (Some w)) → (v : Bool) → r ≡ Some v → May ts i (Some v) → Reached cs i → Comes (Ends (Loop a)) cs i r
one_turn a cs ts i r ih v e m g = by (ih v m)
  where
    by : Comes (Ends a) (begun cs) i (Some v) → Comes (Ends (Loop a)) cs i r
    by c = record { q = g.0; es = c.es; before = g.1; is = more c.es [] c.is (none refl) (sym (append-nil c.es)); to = same (run_moves i c.es) ∙ sym e }
      where
        from_none : run i c.es None ≡ Some v
        from_none = subst (λ (u : Option Bool). run i c.es u ≡ Some v) (begun_of cs i c.q c.before).0 c.to

        same : Moves (run i c.es) → run i c.es g.0 ≡ Some v
        same (stays h) = some_apart v (sym (h None) ∙ from_none)
        same (sets w h) = h g.0 ∙ (sym (h None) ∙ from_none)

pub comes : (f : Flow (List Act)) (k : Facts) (i : ℕ) (r : Option Bool) → May (passed f k).cells i r → Comes (Ends f) k.cells i r
comes Skip k i r m = record { q = r; es = []; before = m; is = refl; to = refl }
comes (Do acts) k i r m = let p = event_steps acts k i r m in record { q = p.0; es = acts ∷ []; before = p.1; is = refl; to = p.2 }
comes (Stop acts) k i r m = never m
comes (Then a b) k i r m =
    let t = comes b (passed a k) i r m in
    let s = comes a k i t.q t.before in
    record { q = s.q; es = s.es ++ t.es; before = s.before; is = (s.es, t.es, s.is, t.is, refl); to = run-append i s.es t.es s.q ∙ (ap (run i t.es) s.to ∙ t.to) }
comes (Either a b) k i r m = either_way (joins _ _ i r m)
    (λ h. let t = comes a k i r h in record { q = t.q; es = t.es; before = t.before; is = inl t.is; to = t.to })
    (λ h. let t = comes b (with_cells k.cells (passed a k)) i r h in record { q = t.q; es = t.es; before = t.before; is = inr t.is; to = t.to })
comes (Loop a) k i r m = either_way (turned_of k.cells (passed a (entered k)).cells i r m)
    (λ h. record { q = r; es = []; before = h; is = none refl; to = refl })
    (λ h. one_turn a k.cells (passed a (entered k)).cells i r (λ w g. comes a (entered k) i (Some w) g) h.0 h.1 h.2 h.3)

-- any number of turns leaves a cell as it was, or sets it as one of them does
abbrev Turned : Flow (List Act) → ℕ → List (List Act) → Option Bool → Type 0
Turned a i xs q = (run i xs q ≡ q) ⊎ ((ys : List (List Act)) × (v : Bool) × Ends a ys × (run i ys None ≡ Some v) × (run i xs q ≡ Some v))

after_turns : (a : Flow (List Act)) (i : ℕ) (xs : List (List Act)) (q : Option Bool) → Turns (Ends a) xs → Turned a i xs q
after_turns a i xs q (none e) = inl (ap (λ (w : List (List Act)). run i w q) e)
after_turns a i xs q (more us vs p t e) = by (run_moves i us) (after_turns a i vs (run i us q) t)
  where
    all : run i xs q ≡ run i vs (run i us q)
    all = ap (λ (w : List (List Act)). run i w q) e ∙ run-append i us vs q

    by : Moves (run i us) → Turned a i vs (run i us q) → Turned a i xs q
    by m (inr (ys, v, r, h, g)) = inr (ys, v, r, h, all ∙ g)
    by (stays h) (inl g) = inl (all ∙ (g ∙ h q))
    by (sets v h) (inl g) = inr (us, v, p, h None, all ∙ (g ∙ h q))

pub stands : (f : Flow (List Act)) (k : Facts) (i : ℕ) (q : Option Bool) (es : List (List Act)) → May k.cells i q → Ends f es → May (passed f k).cells i (run i es q)
stands Skip k i q es m e = subst (λ (w : List (List Act)). May k.cells i (run i w q)) (sym e) m
stands (Do acts) k i q es m e = subst (λ (w : List (List Act)). May (pass_acts acts k).cells i (run i w q)) (sym e) (event_stepped acts k i q m)
stands (Stop acts) k i q es m e = absurd e
stands (Then a b) k i q es m (xs, ys, p, r, e) =
    subst (λ (s : Option Bool). May (passed (Then a b) k).cells i s) (sym (ap (λ (w : List (List Act)). run i w q) e ∙ run-append i xs ys q)) (stands b (passed a k) i (run i xs q) ys (stands a k i q xs m p) r)
stands (Either a b) k i q es m (inl p) = joined_left _ _ i _ (stands a k i q es m p)
stands (Either a b) k i q es m (inr p) = joined_right (passed a k).cells _ i _ (stands b (with_cells k.cells (passed a k)) i q es m p)
stands (Loop a) k i q es m t = by (after_turns a i es q t) (λ ys p. stands a (entered k) i None ys (begins k.cells i (q, m)) p)
  where
    by : Turned a i es q → ((ys : List (List Act)) → Ends a ys → May (passed a (entered k)).cells i (run i ys None)) → May (passed (Loop a) k).cells i (run i es q)
    by (inl h) ih = subst (λ (s : Option Bool). May (passed (Loop a) k).cells i s) (sym h) (turned_left k.cells (passed a (entered k)).cells i q m)
    by (inr (ys, v, p, h, g)) ih =
        subst (λ (s : Option Bool). May (passed (Loop a) k).cells i s) (sym g)
        (turned_right k.cells (passed a (entered k)).cells i v (q, m) (subst (λ (s : Option Bool). May (passed a (entered k)).cells i s) h (ih ys p)))

-- ---- what is known to be refused is the first of all that runs come to

-- some run comes to an event that refuses because of some cell
pub record Raises (f : Flow (List Act)) (cs : List Cell) (c : Cause) (r : Refusal) : Type 0 where
  pub es : List (List Act)
  pub e : List Act
  pub i : ℕ
  pub q : Option Bool
  pub hits : Hits f es e
  pub before : May cs i q
  pub raised : Raised i (run i es q) e c r

-- the claim about a flow
abbrev pub Collects : Flow (List Act) → Type 1
Collects f = (k : Facts) (c : Cause) (T : Refusal → Type 0) → Knows k c T → Knows (passed f k) c (λ r. T r ⊎ Raises f k.cells c r)

alone_to : (x : List Act) (f : Flow (List Act)) → Hits f [] x → (cs : List Cell) (c : Cause) (T : Refusal → Type 0) (r : Refusal) → T r ⊎ HereIn cs x c r → T r ⊎ Raises f cs c r
alone_to x f hit cs c T r (inl t) = inl t
alone_to x f hit cs c T r (inr p) = inr (record { es = []; e = x; i = p.0; q = p.1; hits = hit; before = p.2; raised = p.3 })

alone_of : (x : List Act) (f : Flow (List Act)) → ((es : List (List Act)) (e : List Act) → Hits f es e → (es ≡ []) × (e ≡ x)) → (cs : List Cell) (c : Cause) (T : Refusal → Type 0) (r : Refusal) → T r ⊎ Raises f cs c r → T r ⊎ HereIn cs x c r
alone_of x f is cs c T r (inl t) = inl t
alone_of x f is cs c T r (inr v) = inr (v.i, v.q, v.before, here (is v.es v.e v.hits))
  where
    here : (v.es ≡ []) × (v.e ≡ x) → Raised v.i v.q x c r
    here h = subst (λ (z : List Act). Raised v.i v.q z c r) h.1 (subst (λ (w : List (List Act)). Raised v.i (run v.i w v.q) v.e c r) h.0 v.raised)

then_to : (a b : Flow (List Act)) (k : Facts) (c : Cause) (T : Refusal → Type 0) (r : Refusal) → (T r ⊎ Raises a k.cells c r) ⊎ Raises b (passed a k).cells c r → T r ⊎ Raises (Then a b) k.cells c r
then_to a b k c T r (inl (inl t)) = inl t
then_to a b k c T r (inl (inr v)) = inr (record { es = v.es; e = v.e; i = v.i; q = v.q; hits = inl v.hits; before = v.before; raised = v.raised })
then_to a b k c T r (inr v) =
    let s = comes a k v.i v.q v.before in
    inr (record {
      es = s.es ++ v.es;
      e = v.e;
      i = v.i;
      q = s.q;
      hits = inr (s.es, v.es, s.is, v.hits, refl);
      before = s.before;
      raised = subst (λ (u : Option Bool). Raised v.i u v.e c r) (sym (run-append v.i s.es v.es s.q ∙ ap (run v.i v.es) s.to)) v.raised;
    })

then_of : (a b : Flow (List Act)) (k : Facts) (c : Cause) (T : Refusal → Type 0) (r : Refusal) → T r ⊎ Raises (Then a b) k.cells c r → (T r ⊎ Raises a k.cells c r) ⊎ Raises b (passed a k).cells c r
then_of a b k c T r (inl t) = inl (inl t)
then_of a b k c T r (inr v) = by v.hits
  where
    by : Hits (Then a b) v.es v.e → (T r ⊎ Raises a k.cells c r) ⊎ Raises b (passed a k).cells c r
    by (inl h) = inl (inr (record { es = v.es; e = v.e; i = v.i; q = v.q; hits = h; before = v.before; raised = v.raised }))
    by (inr (xs, ys, p, h, e)) = inr (record {
      es = ys;
      e = v.e;
      i = v.i;
      q = run v.i xs v.q;
      hits = h;
      before = stands a k v.i v.q xs v.before p;
      raised = subst (λ (u : Option Bool). Raised v.i u v.e c r) (ap (λ (w : List (List Act)). run v.i w v.q) e ∙ run-append v.i xs ys v.q) v.raised;
    })

either_to : (a b : Flow (List Act)) (cs : List Cell) (c : Cause) (T : Refusal → Type 0) (r : Refusal) → (T r ⊎ Raises a cs c r) ⊎ Raises b cs c r → T r ⊎ Raises (Either a b) cs c r
either_to a b cs c T r (inl (inl t)) = inl t
either_to a b cs c T r (inl (inr v)) = inr (record { es = v.es; e = v.e; i = v.i; q = v.q; hits = inl v.hits; before = v.before; raised = v.raised })
either_to a b cs c T r (inr v) = inr (record { es = v.es; e = v.e; i = v.i; q = v.q; hits = inr v.hits; before = v.before; raised = v.raised })

either_of : (a b : Flow (List Act)) (cs : List Cell) (c : Cause) (T : Refusal → Type 0) (r : Refusal) → T r ⊎ Raises (Either a b) cs c r → (T r ⊎ Raises a cs c r) ⊎ Raises b cs c r
either_of a b cs c T r (inl t) = inl (inl t)
either_of a b cs c T r (inr v) = by v.hits
  where
    by : Hits (Either a b) v.es v.e → (T r ⊎ Raises a cs c r) ⊎ Raises b cs c r
    by (inl h) = inl (inr (record { es = v.es; e = v.e; i = v.i; q = v.q; hits = h; before = v.before; raised = v.raised }))
    by (inr h) = inr (record { es = v.es; e = v.e; i = v.i; q = v.q; hits = h; before = v.before; raised = v.raised })

-- ---- a loop

-- what the turn refuses, where it begins anywhere
abbrev InTurn : Flow (List Act) → List Cell → Cause → Refusal → Type 0
InTurn a cs c r = Raises a (begun cs) c r

turn_event : (i : ℕ) (es : List (List Act)) (q : Option Bool) (e : List Act) (c : Cause) (r : Refusal) → q ≡ None → Raised i (run i es q) e c r → Raised i (run i es None) e c r
turn_event i es q e c r h p = subst (λ (u : Option Bool). Raised i (run i es u) e c r) h p

-- a refusal in a turn comes after turns that lead to where it begins
loop_raises : (a : Flow (List Act)) (k : Facts) (i : ℕ) (u : Option Bool) (es : List (List Act)) (e : List Act) (c : Cause) (r : Refusal) →
    May (passed (Loop a) k).cells i u → Hits a es e → Raised i (run i es u) e c r → Raises (Loop a) k.cells c r
loop_raises a k i u es e c r m h p =
    let s = comes (Loop a) k i u m in
    record {
      es = s.es ++ es;
      e = e;
      i = i;
      q = s.q;
      hits = (s.es, es, s.is, h, refl);
      before = s.before;
      raised = subst (λ (w : Option Bool). Raised i w e c r) (sym (run-append i s.es es s.q ∙ ap (run i es) s.to)) p;
    }

always_to : (a : Flow (List Act)) (k : Facts) (r : Refusal) → InTurn a k.cells Always r → Raises (Loop a) k.cells Always r
always_to a k r v = by (begun_of k.cells v.i v.q v.before)
  where
    by : (v.q ≡ None) × Reached k.cells v.i → Raises (Loop a) k.cells Always r
    by (e, g) = loop_raises a k v.i g.0 v.es v.e Always r (turned_left k.cells (passed a (entered k)).cells v.i g.0 g.1) v.hits (start g.0)
      where
        from_none : Raised v.i (run v.i v.es None) v.e Always r
        from_none = turn_event v.i v.es v.q v.e Always r e v.raised

        start : (u : Option Bool) → Raised v.i (run v.i v.es u) v.e Always r
        start None = from_none
        start (Some w) = subst (λ (z : Option Bool). Raised v.i z v.e Always r) (sym (run_filled w v.i v.es None)) (raised_always w v.i (run v.i v.es None) v.e r from_none)

when_to : (a : Flow (List Act)) (k : Facts) (j : ℕ) (w : Bool) (r : Refusal) → May (passed (Loop a) k).cells j (Some w) → InTurn a k.cells (When j w) r → Raises (Loop a) k.cells Always r
when_to a k j w r m v =
    let e = (begun_of k.cells v.i v.q v.before).0 in
    let p = turn_event v.i v.es v.q v.e (When j w) r e v.raised in
    let s = raised_self v.i (run v.i v.es None) v.e j w r p in
    let p' = subst (λ (z : ℕ). Raised v.i (run v.i v.es None) v.e (When z w) r) s p in
    loop_raises a k v.i (Some w) v.es v.e Always r (subst (λ (z : ℕ). May (passed (Loop a) k).cells z (Some w)) s m) v.hits
    (subst (λ (z : Option Bool). Raised v.i z v.e Always r) (sym (run_filled w v.i v.es None)) (raised_when w v.i (run v.i v.es None) v.e r p'))

kept_to : (a : Flow (List Act)) (k : Facts) (j : ℕ) (w : Bool) (r : Refusal) → May (passed (Loop a) k).cells j None → InTurn a k.cells (When j w) r → Raises (Loop a) k.cells (When j w) r
kept_to a k j w r m v =
    let e = (begun_of k.cells v.i v.q v.before).0 in
    let p = turn_event v.i v.es v.q v.e (When j w) r e v.raised in
    let s = raised_self v.i (run v.i v.es None) v.e j w r p in
    loop_raises a k v.i None v.es v.e (When j w) r (subst (λ (z : ℕ). May (passed (Loop a) k).cells z None) s m) v.hits p

-- the same the other way: what the loop refuses is refused in a turn
abbrev AlwaysParts : Flow (List Act) → Facts → Refusal → Type 0
AlwaysParts a k r = InTurn a k.cells Always r ⊎ Comes_due (passed (Loop a) k).cells (λ j w. InTurn a k.cells (When j w)) r

in_turn : (a : Flow (List Act)) (k : Facts) (i : ℕ) (es : List (List Act)) (e : List Act) (c : Cause) (r : Refusal) → Reached k.cells i → Hits a es e → Raised i (run i es None) e c r → InTurn a k.cells c r
in_turn a k i es e c r g h p = record { es = es; e = e; i = i; q = None; hits = h; before = begins k.cells i g; raised = p }

always_by : (a : Flow (List Act)) (k : Facts) (i : ℕ) (u : Option Bool) (es : List (List Act)) (e : List Act) (r : Refusal) →
    Reached k.cells i → May (passed (Loop a) k).cells i u → Hits a es e → Raised i (run i es u) e Always r → AlwaysParts a k r
always_by a k i None es e r g m h p = inl (in_turn a k i es e Always r g h p)
always_by a k i (Some w) es e r g m h p = by (raised_of w i (run i es None) e r (subst (λ (z : Option Bool). Raised i z e Always r) (run_filled w i es None) p))
  where
    by : Raised i (run i es None) e Always r ⊎ Raised i (run i es None) e (When i w) r → AlwaysParts a k r
    by (inl q) = inl (in_turn a k i es e Always r g h q)
    by (inr q) = inr (i, w, m, in_turn a k i es e (When i w) r g h q)

always_of : (a : Flow (List Act)) (k : Facts) (r : Refusal) → Raises (Loop a) k.cells Always r → AlwaysParts a k r
always_of a k r v = by v.hits
  where
    by : Hits (Loop a) v.es v.e → AlwaysParts a k r
    by (xs, ys, t, h, e) = always_by a k v.i (run v.i xs v.q) ys v.e r (v.q, v.before) (stands (Loop a) k v.i v.q xs v.before t) h
        (subst (λ (u : Option Bool). Raised v.i u v.e Always r) (ap (λ (w : List (List Act)). run v.i w v.q) e ∙ run-append v.i xs ys v.q) v.raised)

kept_by : (a : Flow (List Act)) (k : Facts) (i : ℕ) (u : Option Bool) (es : List (List Act)) (e : List Act) (j : ℕ) (w : Bool) (r : Refusal) →
    Reached k.cells i → May (passed (Loop a) k).cells i u → Hits a es e → Raised i (run i es u) e (When j w) r → May (passed (Loop a) k).cells j None × InTurn a k.cells (When j w) r
kept_by a k i None es e j w r g m h p =
    (subst (λ (z : ℕ). May (passed (Loop a) k).cells z None) (sym (raised_self i (run i es None) e j w r p)) m, in_turn a k i es e (When j w) r g h p)
kept_by a k i (Some x) es e j w r g m h p = absurd (never_raised x i (run i es None) e j w r (subst (λ (z : Option Bool). Raised i z e (When j w) r) (run_filled x i es None) p))

kept_of : (a : Flow (List Act)) (k : Facts) (j : ℕ) (w : Bool) (r : Refusal) → Raises (Loop a) k.cells (When j w) r → May (passed (Loop a) k).cells j None × InTurn a k.cells (When j w) r
kept_of a k j w r v = by v.hits
  where
    by : Hits (Loop a) v.es v.e → May (passed (Loop a) k).cells j None × InTurn a k.cells (When j w) r
    by (xs, ys, t, h, e) = kept_by a k v.i (run v.i xs v.q) ys v.e j w r (v.q, v.before) (stands (Loop a) k v.i v.q xs v.before t) h
        (subst (λ (u : Option Bool). Raised v.i u v.e (When j w) r) (ap (λ (z : List (List Act)). run v.i z v.q) e ∙ run-append v.i xs ys v.q) v.raised)

-- what is asked as the turn ends
turn_asked : (a : Flow (List Act)) → Collects a → (k : Facts) (j : ℕ) (w : Bool) → Knows (passed a (entered k)) (When j w) (InTurn a k.cells (When j w))
turn_asked a ih k j w =
    knows_same (passed a (entered k)) (When j w) (λ r. ⊥ ⊎ InTurn a k.cells (When j w) r) (InTurn a k.cells (When j w)) (λ r p. to r p) (λ r p. inr p) (ih (entered k) (When j w) (λ r. ⊥) (λ r. (λ p. absurd p, λ p. p)))
  where
    to : (r : Refusal) → ⊥ ⊎ InTurn a k.cells (When j w) r → InTurn a k.cells (When j w) r
    to r (inl p) = absurd p
    to r (inr p) = p

-- what the turn refuses at once, and what is asked in it and comes due behind the loop
abbrev TurnParts : Flow (List Act) → Facts → (Refusal → Type 0) → Refusal → Type 0
TurnParts a k T r = (T r ⊎ InTurn a k.cells Always r) ⊎ Comes_due (passed (Loop a) k).cells (In (passed a (entered k)).asked.list) r

loop_knows : (a : Flow (List Act)) → Collects a → Collects (Loop a)
loop_knows a ih k Always T h =
    first_of_more (TurnParts a k T) (λ r. T r ⊎ Raises (Loop a) k.cells Always r) (passed (Loop a) k).found (λ r p. to r p) (λ r p. back r p)
    (find_first (passed (Loop a) k).cells (passed a (entered k)).asked.list (passed a (entered k)).found (λ r. T r ⊎ InTurn a k.cells Always r) (ih (entered k) Always T h))
  where
    to : (r : Refusal) → TurnParts a k T r → T r ⊎ Raises (Loop a) k.cells Always r
    to r (inl (inl t)) = inl t
    to r (inl (inr v)) = inr (always_to a k r v)
    to r (inr v) = inr (when_to a k v.0 v.1 r v.2 ((turn_asked a ih k v.0 v.1 r).1 v.3))

    split : (r : Refusal) → AlwaysParts a k r → (s : Refusal) × TurnParts a k T s × NotAfter s r
    split r (inl v) = (r, inl (inr v), self_not_after r)
    split r (inr v) = let p = (turn_asked a ih k v.0 v.1 r).0 v.3 in (p.0, inr (v.0, v.1, v.2, p.1), p.2)

    back : (r : Refusal) → T r ⊎ Raises (Loop a) k.cells Always r → (s : Refusal) × TurnParts a k T s × NotAfter s r
    back r (inl t) = (r, inl (inl t), self_not_after r)
    back r (inr v) = split r (always_of a k r v)
loop_knows a ih k (When j w) T h = λ r. (λ p. passed_to cs asks outer j w r (to r p), λ p. back r (passed_of cs asks outer j w r p))
  where
    cs : List Cell
    cs = (passed (Loop a) k).cells

    asks : List Entry
    asks = (passed a (entered k)).asked.list

    outer : Asks
    outer = asks_in k.asked.list (passed a (entered k)).asked

    to : (r : Refusal) → T r ⊎ Raises (Loop a) k.cells (When j w) r → IsOwed k.asked.list j w r ⊎ (May cs j None × IsOwed asks j w r)
    to r (inl t) = inl ((h r).0 t)
    to r (inr v) = let p = kept_of a k j w r v in inr (p.0, (turn_asked a ih k j w r).0 p.1)

    back : (r : Refusal) → In k.asked.list j w r ⊎ (May cs j None × In asks j w r) → T r ⊎ Raises (Loop a) k.cells (When j w) r
    back r (inl p) = inl ((h r).1 p)
    back r (inr p) = inr (kept_to a k j w r p.0 ((turn_asked a ih k j w r).1 p.1))

-- ---- any flow

pub collects : (f : Flow (List Act)) → Collects f
collects Skip k c T h = knows_no_more k c T (Raises Skip k.cells c) (λ r v. v.hits) h
collects (Do acts) k c T h = knows_same (pass_acts acts k) c _ _ (λ r p. alone_to acts (Do acts) (refl, refl) k.cells c T r p) (λ r p. alone_of acts (Do acts) (λ es e q. q) k.cells c T r p) (acts_know acts k c T h)
collects (Stop acts) k c T h =
    knows_with [] (pass_acts acts k) c (λ r. T r ⊎ Raises (Stop acts) k.cells c r)
    (knows_same (pass_acts acts k) c _ _ (λ r p. alone_to acts (Stop acts) (refl, refl) k.cells c T r p) (λ r p. alone_of acts (Stop acts) (λ es e q. q) k.cells c T r p) (acts_know acts k c T h))
collects (Then a b) k c T h =
    knows_same (passed (Then a b) k) c _ _ (λ r p. then_to a b k c T r p) (λ r p. then_of a b k c T r p) (collects b (passed a k) c (λ r. T r ⊎ Raises a k.cells c r) (collects a k c T h))
collects (Either a b) k c T h =
    let side = with_cells k.cells (passed a k) in
    let one = knows_with k.cells (passed a k) c (λ r. T r ⊎ Raises a k.cells c r) (collects a k c T h) in
    let two = collects b side c (λ r. T r ⊎ Raises a k.cells c r) one in
    knows_with (passed (Either a b) k).cells (passed b side) c (λ r. T r ⊎ Raises (Either a b) k.cells c r)
    (knows_same (passed b side) c _ _ (λ r p. either_to a b k.cells c T r p) (λ r p. either_of a b k.cells c T r p) two)
collects (Loop a) k c T h = loop_knows a (collects a) k c T h
