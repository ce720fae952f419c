-- What cells may be, step by step: no more and no less than what events lead to.
use Rattle.std.proofs.Common.{◌≡◌, ◌⊎◌, inl, inr, ℕ, zero, suc, ◌+◌, Bool, true, false, ◌||◌, ◌&&◌, not, if◌then◌else◌, List, [], ◌∷◌, Option, Some, None, refl, sym, ◌∙◌, ap, subst, arith}
use Rattle.hv_flow_versions.specs.declared.cell.Cell.{Cell}
use Rattle.hv_flow_pass.specs.declared.act.Act.{Act}
use Rattle.hv_flow_pass.specs.declared.act.Act.TheVariants as act
use Rattle.hv_flow_versions.specs.Cells.{is_reached, set_cells, joined, begun, turned}
use Rattle.hv_flow_pass.specs.Cells.{kept_at, may_at, may_in}
use Rattle.hv_flow_pass.specs.Passes.{Facts, pass_act, pass_acts}
use Rattle.hv_flow_pass.proofs.Seen.{inside, seen_after, event_after}
use Rattle.hv_lemmas.proofs.Bools.{or_left, or_right, or_either, and_both, and_first, and_second}

abbrev pub pick : Bool → Bool → Bool → Option Bool → Bool
pick k n y None = k
pick k n y (Some value) = if value then y else n

-- the cell of the number may be so
abbrev pub seen_at : List Cell → ℕ → Option Bool → Bool
seen_at [] i q = false
seen_at (c ∷ cs) zero q = pick c.kept c.no c.yes q
seen_at (c ∷ cs) (suc i) q = seen_at cs i q

abbrev pub May : List Cell → ℕ → Option Bool → Type 0
May cs i q = seen_at cs i q ≡ true

-- and it may be anything
abbrev pub Reached : List Cell → ℕ → Type 0
Reached cs i = (q : Option Bool) × May cs i q

-- ---- tests

pub never : {X : Type 0} → false ≡ true → X
never h = absurd (by h)
  where
    by : false ≡ true → ⊥
    by e = cc

reached_by : (k n y : Bool) (q : Option Bool) → pick k n y q ≡ true → (k || (n || y)) ≡ true
reached_by k n y None h = or_left k (n || y) h
reached_by k n y (Some true) h = or_right k (n || y) (or_right n y h)
reached_by k n y (Some false) h = or_right k (n || y) (or_left n y h)

reached_to : (k n y : Bool) → (k || (n || y)) ≡ true → (q : Option Bool) × (pick k n y q ≡ true)
reached_to true n y h = (None, refl)
reached_to false true y h = (Some false, refl)
reached_to false false y h = (Some true, h)

-- ---- cells that are set

some_set : (v : Bool) (c : Cell) → is_reached c ≡ true → pick false (is_reached c && not v) (is_reached c && v) (Some v) ≡ true
some_set true c h = and_both (is_reached c) true h refl
some_set false c h = and_both (is_reached c) true h refl

was_set : (v : Bool) (r : Option Bool) (b : Bool) → pick false (b && not v) (b && v) r ≡ true → (b ≡ true) × (Some v ≡ r)
was_set v None b h = never h
was_set true (Some true) b h = (and_first b true h, refl)
was_set true (Some false) b h = never (and_second b false h)
was_set false (Some true) b h = never (and_second b false h)
was_set false (Some false) b h = (and_first b true h, refl)

stepped_set : (v : Bool) (from count : ℕ) (cs : List Cell) (i : ℕ) (q : Option Bool) → May cs i q → May (set_cells v from count cs) i (if inside from count i then Some v else q)
stepped_set v from count [] i q h = never h
stepped_set v (suc from) count (c ∷ cs) zero q h = h
stepped_set v (suc from) count (c ∷ cs) (suc i) q h = stepped_set v from count cs i q h
stepped_set v zero (suc count) (c ∷ cs) zero q h = some_set v c (reached_by c.kept c.no c.yes q h)
stepped_set v zero (suc count) (c ∷ cs) (suc i) q h = stepped_set v zero count cs i q h
stepped_set v zero zero (c ∷ cs) i q h = h

steps_set : (v : Bool) (from count : ℕ) (cs : List Cell) (i : ℕ) (r : Option Bool) → May (set_cells v from count cs) i r → (q : Option Bool) × May cs i q × ((if inside from count i then Some v else q) ≡ r)
steps_set v from count [] i r h = never h
steps_set v (suc from) count (c ∷ cs) zero r h = (r, h, refl)
steps_set v (suc from) count (c ∷ cs) (suc i) r h = steps_set v from count cs i r h
steps_set v zero (suc count) (c ∷ cs) zero r h =
    let p = was_set v r (is_reached c) h in
    let q = reached_to c.kept c.no c.yes p.0 in
    (q.0, q.1, p.1)
steps_set v zero (suc count) (c ∷ cs) (suc i) r h = steps_set v zero count cs i r h
steps_set v zero zero (c ∷ cs) i r h = (r, h, refl)

pub act_stepped : (a : Act) (k : Facts) (i : ℕ) (q : Option Bool) → May k.cells i q → May (pass_act a k).cells i (seen_after i a q)
act_stepped (act.Set range value) k i q h = stepped_set value range.from range.count k.cells i q h
act_stepped (act.Refuse range value r) k i q h = h

pub act_steps : (a : Act) (k : Facts) (i : ℕ) (r : Option Bool) → May (pass_act a k).cells i r → (q : Option Bool) × May k.cells i q × (seen_after i a q ≡ r)
act_steps (act.Set range value) k i r h = steps_set value range.from range.count k.cells i r h
act_steps (act.Refuse range value t) k i r h = (r, h, refl)

pub event_stepped : (acts : List Act) (k : Facts) (i : ℕ) (q : Option Bool) → May k.cells i q → May (pass_acts acts k).cells i (event_after i acts q)
event_stepped [] k i q h = h
event_stepped (a ∷ acts) k i q h = event_stepped acts (pass_act a k) i (seen_after i a q) (act_stepped a k i q h)

pub event_steps : (acts : List Act) (k : Facts) (i : ℕ) (r : Option Bool) → May (pass_acts acts k).cells i r → (q : Option Bool) × May k.cells i q × (event_after i acts q ≡ r)
event_steps [] k i r h = (r, h, refl)
event_steps (a ∷ acts) k i r h =
    let p = event_steps acts (pass_act a k) i r h in
    let q = act_steps a k i p.0 p.1 in
    (q.0, q.1, ap (event_after i acts) q.2 ∙ p.2)

-- ---- cells that are joined

cell_left : (k n y l m z : Bool) (q : Option Bool) → pick k n y q ≡ true → pick (k || l) (n || m) (y || z) q ≡ true
cell_left k n y l m z None h = or_left k l h
cell_left k n y l m z (Some true) h = or_left y z h
cell_left k n y l m z (Some false) h = or_left n m h

cell_right : (k n y l m z : Bool) (q : Option Bool) → pick l m z q ≡ true → pick (k || l) (n || m) (y || z) q ≡ true
cell_right k n y l m z None h = or_right k l h
cell_right k n y l m z (Some true) h = or_right y z h
cell_right k n y l m z (Some false) h = or_right n m h

cell_joins : (k n y l m z : Bool) (q : Option Bool) → pick (k || l) (n || m) (y || z) q ≡ true → (pick k n y q ≡ true) ⊎ (pick l m z q ≡ true)
cell_joins k n y l m z None h = or_either k l h
cell_joins k n y l m z (Some true) h = or_either y z h
cell_joins k n y l m z (Some false) h = or_either n m h

pub joined_left : (cs ds : List Cell) (i : ℕ) (q : Option Bool) → May cs i q → May (joined cs ds) i q
joined_left [] ds i q h = never h
joined_left (c ∷ cs) [] i q h = h
joined_left (c ∷ cs) (d ∷ ds) zero q h = cell_left c.kept c.no c.yes d.kept d.no d.yes q h
joined_left (c ∷ cs) (d ∷ ds) (suc i) q h = joined_left cs ds i q h

pub joined_right : (cs ds : List Cell) (i : ℕ) (q : Option Bool) → May ds i q → May (joined cs ds) i q
joined_right [] ds i q h = h
joined_right (c ∷ cs) [] i q h = never h
joined_right (c ∷ cs) (d ∷ ds) zero q h = cell_right c.kept c.no c.yes d.kept d.no d.yes q h
joined_right (c ∷ cs) (d ∷ ds) (suc i) q h = joined_right cs ds i q h

pub joins : (cs ds : List Cell) (i : ℕ) (q : Option Bool) → May (joined cs ds) i q → May cs i q ⊎ May ds i q
joins [] ds i q h = inr h
joins (c ∷ cs) [] i q h = inl h
joins (c ∷ cs) (d ∷ ds) zero q h = cell_joins c.kept c.no c.yes d.kept d.no d.yes q h
joins (c ∷ cs) (d ∷ ds) (suc i) q h = joins cs ds i q h

-- ---- cells as a turn begins, and behind a loop

pub begins : (cs : List Cell) (i : ℕ) → Reached cs i → May (begun cs) i None
begins [] i h = never h.1
begins (c ∷ cs) zero h = reached_by c.kept c.no c.yes h.0 h.1
begins (c ∷ cs) (suc i) h = begins cs i h

begun_so : (b : Bool) (q : Option Bool) → pick b false false q ≡ true → (q ≡ None) × (b ≡ true)
begun_so b None h = (refl, h)
begun_so b (Some true) h = never h
begun_so b (Some false) h = never h

pub begun_of : (cs : List Cell) (i : ℕ) (q : Option Bool) → May (begun cs) i q → (q ≡ None) × Reached cs i
begun_of [] i q h = never h
begun_of (c ∷ cs) zero q h = let p = begun_so (is_reached c) q h in (p.0, reached_to c.kept c.no c.yes p.1)
begun_of (c ∷ cs) (suc i) q h = begun_of cs i q h

turn_left : (k n y m z b : Bool) (q : Option Bool) → pick k n y q ≡ true → pick k (n || (b && m)) (y || (b && z)) q ≡ true
turn_left k n y m z b None h = h
turn_left k n y m z b (Some true) h = or_left y (b && z) h
turn_left k n y m z b (Some false) h = or_left n (b && m) h

turn_right : (k n y l m z b : Bool) (v : Bool) → b ≡ true → pick l m z (Some v) ≡ true → pick k (n || (b && m)) (y || (b && z)) (Some v) ≡ true
turn_right k n y l m z b true g h = or_right y (b && z) (and_both b z g h)
turn_right k n y l m z b false g h = or_right n (b && m) (and_both b m g h)

turn_of : (k n y l m z b : Bool) (q : Option Bool) → pick k (n || (b && m)) (y || (b && z)) q ≡ true → (pick k n y q ≡ true) ⊎ ((v : Bool) × (q ≡ Some v) × (pick l m z (Some v) ≡ true) × (b ≡ true))
turn_of k n y l m z b None h = inl h
turn_of k n y l m z b (Some true) h = by (or_either y (b && z) h)
  where
    by : (y ≡ true) ⊎ ((b && z) ≡ true) → (y ≡ true) ⊎ ((v : Bool) × (Some true ≡ Some v) × (pick l m z (Some v) ≡ true) × (b ≡ true))
    by (inl g) = inl g
    by (inr g) = inr (true, refl, and_second b z g, and_first b z g)
turn_of k n y l m z b (Some false) h = by (or_either n (b && m) h)
  where
    by : (n ≡ true) ⊎ ((b && m) ≡ true) → (n ≡ true) ⊎ ((v : Bool) × (Some false ≡ Some v) × (pick l m z (Some v) ≡ true) × (b ≡ true))
    by (inl g) = inl g
    by (inr g) = inr (false, refl, and_second b m g, and_first b m g)

pub turned_left : (cs ts : List Cell) (i : ℕ) (q : Option Bool) → May cs i q → May (turned cs ts) i q
turned_left [] ts i q h = never h
turned_left (c ∷ cs) [] i q h = h
turned_left (c ∷ cs) (t ∷ ts) zero q h = turn_left c.kept c.no c.yes t.no t.yes (is_reached c) q h
turned_left (c ∷ cs) (t ∷ ts) (suc i) q h = turned_left cs ts i q h

pub turned_right : (cs ts : List Cell) (i : ℕ) (v : Bool) → Reached cs i → May ts i (Some v) → May (turned cs ts) i (Some v)
turned_right [] ts i v g h = never g.1
turned_right (c ∷ cs) [] i v g h = never h
turned_right (c ∷ cs) (t ∷ ts) zero v g h = turn_right c.kept c.no c.yes t.kept t.no t.yes (is_reached c) v (reached_by c.kept c.no c.yes g.0 g.1) h
turned_right (c ∷ cs) (t ∷ ts) (suc i) v g h = turned_right cs ts i v g h

pub turned_of : (cs ts : List Cell) (i : ℕ) (q : Option Bool) → May (turned cs ts) i q → May cs i q ⊎ ((v : Bool) × (q ≡ Some v) × May ts i (Some v) × Reached cs i)
turned_of [] ts i q h = never h
turned_of (c ∷ cs) [] i q h = inl h
turned_of (c ∷ cs) (t ∷ ts) zero q h = by (turn_of c.kept c.no c.yes t.kept t.no t.yes (is_reached c) q h)
  where
    by : (pick c.kept c.no c.yes q ≡ true) ⊎ ((v : Bool) × (q ≡ Some v) × (pick t.kept t.no t.yes (Some v) ≡ true) × (is_reached c ≡ true)) →
        (pick c.kept c.no c.yes q ≡ true) ⊎ ((v : Bool) × (q ≡ Some v) × (pick t.kept t.no t.yes (Some v) ≡ true) × Reached (c ∷ cs) zero)
    by (inl g) = inl g
    by (inr g) = inr (g.0, g.1, g.2, reached_to c.kept c.no c.yes g.3)
turned_of (c ∷ cs) (t ∷ ts) (suc i) q h = turned_of cs ts i q h

-- ---- a look at some cells

pub kept_same : (cs : List Cell) (i : ℕ) → kept_at cs i ≡ seen_at cs i None
kept_same [] i = refl
kept_same (c ∷ cs) zero = refl
kept_same (c ∷ cs) (suc i) = kept_same cs i

pub may_same : (cs : List Cell) (i : ℕ) (v : Bool) → may_at cs i v ≡ seen_at cs i (Some v)
may_same [] i v = refl
may_same (c ∷ cs) zero v = refl
may_same (c ∷ cs) (suc i) v = may_same cs i v

pub inside_none : (from i : ℕ) → inside from zero i ≡ false
inside_none zero i = refl
inside_none (suc from) zero = refl
inside_none (suc from) (suc i) = inside_none from i

pub inside_more : (from n i : ℕ) → inside from n i ≡ true → inside from (suc n) i ≡ true
inside_more (suc from) n zero h = h
inside_more (suc from) n (suc i) h = inside_more from n i h
inside_more zero zero i h = never h
inside_more zero (suc n) zero h = refl
inside_more zero (suc n) (suc i) h = inside_more zero n i h

pub inside_last : (from n i : ℕ) → i ≡ from + n → inside from (suc n) i ≡ true
inside_last (suc from) n zero e = absurd (omega (arith, e))
inside_last (suc from) n (suc i) e = inside_last from n i (omega (arith, e))
inside_last zero zero zero e = refl
inside_last zero zero (suc i) e = absurd (omega (arith, e))
inside_last zero (suc n) zero e = refl
inside_last zero (suc n) (suc i) e = inside_last zero n i (omega (arith, e))

pub inside_or_last : (from n i : ℕ) → inside from (suc n) i ≡ true → (inside from n i ≡ true) ⊎ (i ≡ from + n)
inside_or_last (suc from) n zero h = never h
inside_or_last (suc from) n (suc i) h = by (inside_or_last from n i h)
  where
    by : (inside from n i ≡ true) ⊎ (i ≡ from + n) → (inside from n i ≡ true) ⊎ (suc i ≡ suc from + n)
    by (inl g) = inl g
    by (inr e) = inr (omega (arith, e))
inside_or_last zero zero zero h = inr (omega arith)
inside_or_last zero zero (suc i) h = never h
inside_or_last zero (suc n) zero h = inl refl
inside_or_last zero (suc n) (suc i) h = by (inside_or_last zero n i h)
  where
    by : (inside zero n i ≡ true) ⊎ (i ≡ zero + n) → (inside zero n i ≡ true) ⊎ (suc i ≡ zero + suc n)
    by (inl g) = inl g
    by (inr e) = inr (omega (arith, e))

-- some cell of the range may have the value
abbrev MayInside : Bool → ℕ → ℕ → List Cell → Type 0
MayInside v from count cs = (i : ℕ) × May cs i (Some v) × (inside from count i ≡ true)

pub may_found : (v : Bool) (from count : ℕ) (cs : List Cell) → may_in v from count cs ≡ true → MayInside v from count cs
may_found v from zero cs h = never h
may_found v from (suc count) cs h = by (or_either (may_in v from count cs) (may_at cs (from + count) v) h) (λ g. may_found v from count cs g)
  where
    by : (may_in v from count cs ≡ true) ⊎ (may_at cs (from + count) v ≡ true) → (may_in v from count cs ≡ true → MayInside v from count cs) → MayInside v from (suc count) cs
    by (inl g) ih = let p = ih g in (p.0, p.1, inside_more from count p.0 p.2)
    by (inr g) ih = (from + count, sym (may_same cs (from + count) v) ∙ g, inside_last from count (from + count) refl)

pub may_here : (v : Bool) (from count : ℕ) (cs : List Cell) (i : ℕ) → May cs i (Some v) → inside from count i ≡ true → may_in v from count cs ≡ true
may_here v from zero cs i m g = never (sym (inside_none from i) ∙ g)
may_here v from (suc count) cs i m g = by (inside_or_last from count i g) (λ h. may_here v from count cs i m h)
  where
    by : (inside from count i ≡ true) ⊎ (i ≡ from + count) → (inside from count i ≡ true → may_in v from count cs ≡ true) → (may_in v from count cs || may_at cs (from + count) v) ≡ true
    by (inl h) ih = or_left (may_in v from count cs) (may_at cs (from + count) v) (ih h)
    by (inr e) ih = or_right (may_in v from count cs) (may_at cs (from + count) v) (may_same cs (from + count) v ∙ subst (λ (j : ℕ). May cs j (Some v)) e m)
