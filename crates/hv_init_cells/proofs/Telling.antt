-- The cell of each leaf says whether it is initialised.
use Rattle.std.specs.Prelude.{⊤}
use Rattle.std.proofs.Common.{◌≡◌, inl, ◌==◌, ◌&&◌, not, ℕ, Bool, true, false, if◌then◌else◌, List, [], ◌∷◌, ◌++◌, map, filter, Option, Some, None, refl, sym, ap, subst, ◌∙◌, append_assoc}
use Rattle.std.proofs.lemmas.Bool.{eq-eqb, eqb-true}
use Rattle.hv_tree.specs.declared.place.Place.{Place}
use Rattle.hv_tree.specs.Core.{Core}
use Rattle.hv_decls.specs.declared.path.StaticPath.{StaticPath}
use Rattle.hv_rules.specs.declared.event.FlowEvent.{FlowEvent}
use Rattle.hv_rules.specs.declared.event.FlowEvent.TheVariants as event
use Rattle.hv_rules.specs.Flow.{Flow, IsWhole, IsTrace}
use Rattle.hv_decls.specs.Locals.{CoreBody}
use Rattle.hv_rules.specs.Events.{Belongs, Mark, body_events}
use Rattle.hv_rules.specs.States.{Leaf, fields_of, is_front, changed, emptied, Mode, Reading, Writing, Setting, Access, opened, unless_bound, last_called, dropped_or_kept, closed, filled_by, filled_at_close, stays, without_bindings, State, start, after_event, after, after_all, Filled}
use Rattle.hv_decls.specs.Paths.{has_index}
use Rattle.hv_rules.specs.States as states
use Rattle.hv_rules.specs.Rules.{Trace, asks_whole, back_at, missing_at}
use Rattle.hv_flow_pass.specs.declared.act.Act.TheVariants as act
use Rattle.hv_flow_pass.specs.Refused.{Values, covers, after_acts, acts_in}
use Rattle.hv_flow_pass.specs.Refused as pass
use Rattle.hv_flow_traces.specs.Carried.{without, Carries}
use Rattle.hv_flow_traces.specs.Opened.{open_behind, opens, opened_at}
use Rattle.hv_flow_traces.proofs.CarriedLemmas.{trace_of}
use Rattle.hv_flow_traces.proofs.Levels.{body_steady}
use Rattle.hv_flow_traces.proofs.OpenedLemmas.{event_opens}
use Rattle.hv_init_cells.specs.Layout.{Layout, SpeaksOf, Names, Occurs, IsLeaf, leaf_of, Fits}
use Rattle.hv_init_cells.specs.Acts.{cells, whole_asked, back_asked, missing_asked, asks, set_path, set_by_mode, set_at_close, sets, acts_at}
use Rattle.hv_init_cells.specs.Law.{values_after, Tells}
use Rattle.hv_init_cells.proofs.Playing.{acts_both}
use Rattle.hv_init_cells.proofs.Shapes.{not_so}

-- ---- tests

pub never : (b : Bool) → b ≡ false → b ≡ true → ⊥
never true e f = cc
never false e f = cc

picked : (x : Bool) (value u w : Bool) → u ≡ w → (if x then value else u) ≡ (if x && true then value else w)
picked true value u w e = refl
picked false value u w e = e

passed_by : (x : Bool) (value u w : Bool) → u ≡ w → u ≡ (if x && false then value else w)
passed_by true value u w e = e
passed_by false value u w e = e

picked_whole : (x : Bool) (value u w : Bool) → u ≡ w → (if x && true then value else u) ≡ (if x then value else w)
picked_whole true value u w e = refl
picked_whole false value u w e = e

-- ---- a front of a trace

pub front : {M : Type 0} (f : Flow M) (xs ys : List M) → IsTrace f (xs ++ ys) → IsTrace f xs
front f xs ys (rest, w) = (ys ++ rest, subst (IsWhole f) (append_assoc xs ys rest) w)

-- ---- what is asked changes nothing

pub whole_keeps : (l : Layout) (at : Place) (p : Option StaticPath) (v : Values) → after_acts (whole_asked l at p) v ≡ v
whole_keeps l at None v = refl
whole_keeps l at (Some p) v = refl

pub back_keeps : (l : Layout) (at : Place) (ns : List ℕ) (v : Values) → after_acts (map (back_asked l at) ns) v ≡ v
back_keeps l at [] v = refl
back_keeps l at (n ∷ ns) v = back_keeps l at ns v

pub missing_keeps : (l : Layout) (at : Place) (b : Bool) (v : Values) → after_acts (missing_asked l at b) v ≡ v
missing_keeps l at true v = refl
missing_keeps l at false v = refl

pub asks_keep : (l : Layout) (m : Mark) (v : Values) → after_acts (asks l m) v ≡ v
asks_keep l m v =
    let first = whole_asked l m.place (asks_whole m.event) in
    let second = map (back_asked l m.place) (back_at m.belongs) in
    let third = missing_asked l m.place (missing_at m.belongs) in
    acts_both first (second ++ third) v ∙ ap (after_acts (second ++ third)) (whole_keeps l m.place (asks_whole m.event) v) ∙ acts_both second third v ∙ ap (after_acts third) (back_keeps l m.place (back_at m.belongs) v)
    ∙ missing_keeps l m.place (missing_at m.belongs) v

module _ (tree : Core) (body : CoreBody) where
  -- what the mark names occurs
  abbrev pub Known : Mark → Type 0
  Known m = (root : ℕ) (fields : List ℕ) → Names m root fields → Occurs tree body root fields

  abbrev AllKnown : List (Mark × List Access) → Type 0
  AllKnown [] = ⊤
  AllKnown (p ∷ ps) = Known p.0 × AllKnown ps

  pub known : (before : List Mark) (m : Mark) → Trace tree body (before ++ m ∷ []) → Known m
  known before m t root fields n = (before, m, t, n)

  all_known : (before : List Mark) (ps : List (Mark × List Access)) → Trace tree body (before ++ without ps) → AllKnown ps
  all_known before [] t = tt
  all_known before (p ∷ ps) t =
      let s = subst (λ (z : List Mark). Trace tree body z) (sym (append_assoc before (p.0 ∷ []) (without ps))) t in
      (known before p.0 (front (body_events tree body) (before ++ p.0 ∷ []) (without ps) s), all_known (before ++ p.0 ∷ []) ps s)

  -- ---- the places of open accesses occur

  abbrev OccursAt : Access → Type 0
  OccursAt a = Occurs tree body a.path.root (fields_of a.path.steps)

  abbrev AllOccur : List Access → Type 0
  AllOccur [] = ⊤
  AllOccur (a ∷ xs) = OccursAt a × AllOccur xs

  abbrev MayOccur : Option Access → Type 0
  MayOccur None = ⊤
  MayOccur (Some a) = OccursAt a

  dropped_occurs : (a : Access) (b : Option ℕ) (xs ys : List Access) → OccursAt a → AllOccur xs → AllOccur ys → AllOccur (dropped_or_kept a b xs ys)
  dropped_occurs a None xs ys o h g = h
  dropped_occurs a (Some n) xs ys o h g = (o, g)

  closed_occur : (xs : List Access) → AllOccur xs → AllOccur (closed xs)
  closed_occur [] h = tt
  closed_occur (a ∷ xs) h = dropped_occurs a a.binding xs (closed xs) h.0 h.1 (closed_occur xs h.1)

  filtered_occur : (is : Access → Bool) (xs : List Access) → AllOccur xs → AllOccur (filter is xs)
  filtered_occur is [] h = tt
  filtered_occur is (a ∷ xs) h = by (is a) (filtered_occur is xs h.1)
    where
      by : (b : Bool) → AllOccur (filter is xs) → AllOccur (if b then a ∷ filter is xs else filter is xs)
      by true g = (h.0, g)
      by false g = g

  bound_occurs : (a : Access) (b : Option ℕ) (o : Option Access) → OccursAt a → MayOccur o → MayOccur (unless_bound a b o)
  bound_occurs a None o h g = h
  bound_occurs a (Some n) o h g = g

  last_occurs : (xs : List Access) → AllOccur xs → MayOccur (last_called xs)
  last_occurs [] h = tt
  last_occurs (a ∷ xs) h = bound_occurs a a.binding (last_called xs) h.0 (last_occurs xs h.1)

  -- where this is known of what the event speaks of
  abbrev Spoken : FlowEvent → Type 0
  Spoken e = (root : ℕ) (fields : List ℕ) → SpeaksOf e root fields → Occurs tree body root fields

  open_occur : (e : FlowEvent) (of : Belongs) (xs : List Access) → Spoken e → AllOccur xs → AllOccur (open_behind e of xs)
  open_occur event.Entry of xs k h = h
  open_occur (event.Declare n) of xs k h = h
  open_occur (event.Init p) of xs k h = h
  open_occur (event.Use p) of xs k h = h
  open_occur (event.Move p) of xs k h = h
  open_occur (event.OpenRead p) of xs k h = (k p.root (fields_of p.steps) (refl, refl), h)
  open_occur (event.OpenWrite p) of xs k h = (k p.root (fields_of p.steps) (refl, refl), h)
  open_occur (event.OpenSet p) of xs k h = (k p.root (fields_of p.steps) (refl, refl), h)
  open_occur event.Close of xs k h = closed_occur xs h
  open_occur (event.Spawn n) of xs k h = h
  open_occur (event.Await n) of xs k h = h
  open_occur event.Return of xs k h = h
  open_occur (event.ScopeEnd n) of xs k h = filtered_occur (λ (a : Access). stays n a.binding) xs h

  -- ---- one act

  module _ (l : Layout) (fit : Fits tree body l) where
    -- the range has the cells of the leaves under the fields, of whatever local
    covered : (root : ℕ) (fields : List ℕ) → Occurs tree body root fields → (leaf : Leaf) → IsLeaf tree body leaf → l.tracks leaf.root ≡ true → covers (l.range_of root fields) (l.cell_of leaf) ≡ ((root == leaf.root) && is_front fields leaf.fields)
    covered root fields o leaf h t = by (root == leaf.root) refl
      where
        by : (b : Bool) → (root == leaf.root) ≡ b → covers (l.range_of root fields) (l.cell_of leaf) ≡ (b && is_front fields leaf.fields)
        by true e =
            let q = eqb-true root leaf.root e in
            subst (λ (z : ℕ). covers (l.range_of z fields) (l.cell_of leaf) ≡ is_front fields leaf.fields) (sym q) (fit.told leaf.root fields (subst (λ (z : ℕ). Occurs tree body z fields) q o) t leaf.fields h)
        by false e =
            not_so (covers (l.range_of root fields) (l.cell_of leaf))
            (λ c. let u = fit.only root fields o (l.cell_of leaf) c in never (root == leaf.root) e (eq-eqb root leaf.root (fit.apart (leaf_of root u.1) leaf u.2 h u.0 t u.4)))

    -- the cells say so, and the free one is a no
    abbrev pub Says : (Leaf → Bool) → Values → Type 0
    Says filled v = ((leaf : Leaf) → IsLeaf tree body leaf → l.tracks leaf.root ≡ true → v (l.cell_of leaf) ≡ filled leaf) × (v l.free ≡ false)

    path_says : (p : StaticPath) (value : Bool) (filled : Leaf → Bool) (v : Values) → Occurs tree body p.root (fields_of p.steps) → Says filled v → Says (changed p value filled) (after_acts (set_path l p value) v)
    path_says p value filled v o h = by (has_index p.steps)
      where
        by : (b : Bool) → Says (λ leaf. if states.covers p leaf && not b then value else filled leaf) (after_acts (if b then [] else act.Set (cells l p) value ∷ []) v)
        by true = (λ leaf i t. passed_by (states.covers p leaf) value (v (l.cell_of leaf)) (filled leaf) (h.0 leaf i t), h.1)
        by false = (
          λ leaf i t. ap (λ (b : Bool). if b then value else v (l.cell_of leaf)) (covered p.root (fields_of p.steps) o leaf i t) ∙ picked (states.covers p leaf) value (v (l.cell_of leaf)) (filled leaf) (h.0 leaf i t),
          ap (λ (b : Bool). if b then value else v l.free) (fit.is_free p.root (fields_of p.steps) o) ∙ h.1,
        )

    whole_says : (n : ℕ) (filled : Leaf → Bool) (v : Values) → Occurs tree body n [] → Says filled v → Says (emptied n filled) (after_acts (act.Set (l.range_of n []) false ∷ []) v)
    whole_says n filled v o h = (
      λ leaf i t. ap (λ (b : Bool). if b then false else v (l.cell_of leaf)) (covered n [] o leaf i t) ∙ picked_whole (n == leaf.root) false (v (l.cell_of leaf)) (filled leaf) (h.0 leaf i t),
      ap (λ (b : Bool). if b then false else v l.free) (fit.is_free n [] o) ∙ h.1,
    )

    mode_says : (p : StaticPath) (m : Mode) (filled : Leaf → Bool) (v : Values) → Occurs tree body p.root (fields_of p.steps) → Says filled v → Says (filled_by p m filled) (after_acts (set_by_mode l p m) v)
    mode_says p Reading filled v o h = h
    mode_says p Writing filled v o h = h
    mode_says p Setting filled v o h = path_says p true filled v o h

    close_says : (a : Option Access) (filled : Leaf → Bool) (v : Values) → MayOccur a → Says filled v → Says (filled_at_close a filled) (after_acts (set_at_close l a) v)
    close_says None filled v o h = h
    close_says (Some a) filled v o h = mode_says a.path a.mode filled v o h

    -- ---- an event

    set_says : (e : FlowEvent) (of : Belongs) (s : State) (v : Values) → Spoken e → AllOccur s.accesses → Says s.filled v → Says (after_event e of s).filled (after_acts (sets l e s.accesses) v)
    set_says event.Entry of s v k o h = h
    set_says (event.Declare n) of s v k o h = whole_says n s.filled v (k n [] (refl, refl)) h
    set_says (event.Init p) of s v k o h = path_says p true s.filled v (k p.root (fields_of p.steps) (refl, refl)) h
    set_says (event.Use p) of s v k o h = h
    set_says (event.Move p) of s v k o h = path_says p false s.filled v (k p.root (fields_of p.steps) (refl, refl)) h
    set_says (event.OpenRead p) of s v k o h = h
    set_says (event.OpenWrite p) of s v k o h = h
    set_says (event.OpenSet p) of s v k o h = path_says p false s.filled v (k p.root (fields_of p.steps) (refl, refl)) h
    set_says event.Close of s v k o h = close_says (last_called s.accesses) s.filled v (last_occurs s.accesses o) h
    set_says (event.Spawn n) of s v k o h = h
    set_says (event.Await n) of s v k o h = h
    set_says event.Return of s v k o h = h
    set_says (event.ScopeEnd n) of s v k o h = h

    -- ---- a trace

    says_all : (ps : List (Mark × List Access)) (s : State) (v : Values) → AllKnown ps → AllOccur s.accesses → Carries opens ps s.accesses → Says s.filled v →
        Says (after_all (without ps) s).filled (after_acts (acts_in (map (acts_at l) ps)) v)
    says_all [] s v k o c h = h
    says_all (p ∷ ps) s v k o c h =
        let spoken : Spoken p.0.event = λ root fields n. k.0 root fields (inl n) in
        let same : after_acts (acts_at l p) v ≡ after_acts (sets l p.0.event s.accesses) v = acts_both (asks l p.0) (sets l p.0.event p.1) v ∙ ap (after_acts (sets l p.0.event p.1)) (asks_keep l p.0 v) ∙ ap (λ (xs : List Access). after_acts (sets l p.0.event xs) v) c.0 in
        let e = event_opens p.0.event p.0.belongs s in
        subst (λ w. Says (after_all (without ps) (after p.0 s)).filled w) (sym (acts_both (acts_at l p) (acts_in (map (acts_at l) ps)) v))
        (says_all ps (after p.0 s) (after_acts (acts_at l p) v) k.1 (subst AllOccur (sym e) (open_occur p.0.event p.0.belongs s.accesses spoken o))
        (subst (λ (xs : List Access). Carries opens ps xs) (sym e) c.1)
        (subst (λ w. Says (after p.0 s).filled w) (sym same) (set_says p.0.event p.0.belongs s v spoken o h)))

    pub says_after : (ps : List (Mark × List Access)) → IsTrace (opened_at tree body) ps → Says (Filled (without ps)) (values_after l ps)
    says_after ps t =
        let p = trace_of opens (body_events tree body) [] (body_steady tree body) ps t in
        says_all ps start pass.start (all_known [] ps p.0) tt p.1 (λ leaf h t. refl, refl)

    pub tells : Tells tree body l
    tells ps t = (says_after ps t).0
