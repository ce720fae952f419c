-- Full walks and whole traces.
use Rattle.std.proofs.Common.{◌≡◌, ◌⊎◌, inl, inr, ℕ, zero, suc, ◌+◌, true, false, List, [], ◌∷◌, ◌++◌, length, map, refl, sym, ◌∙◌, ap, subst, arith}
use Rattle.hv_flow.specs.Acts.{Act, act_of, acts_of}
use Rattle.hv_flow.specs.declared.nodes.Node.{Node}
use Rattle.hv_rules.specs.Flow.{Flow, Skip, Do, Stop, Then, Either, Loop, IsWhole, IsTrace}
use Rattle.hv_flow.specs.Positions.{places, is_empty, At, First, Last, Final, Next, Path, here, step}
use Rattle.hv_flow.specs.Graphs.{node_of, extend_at, linked, built, next_of, Among, ActAt}
use Rattle.hv_tree.specs.declared.place.Place.{Place}
use Rattle.hv_rules.specs.Events.{Mark, Events}
use Rattle.hv_flow_plan.specs.declared.plan.FlowOp.{FlowOp}
use Rattle.hv_flow_plan.specs.Spelling.{entered, plan_of}
use Rattle.hv_flow.specs.Reading.{read_all}
use Rattle.hv_flow.specs.Walks.{Walk, IsFullWalk, EndsAlone, entry, Traces, IsGraph}
use Rattle.hv_flow.specs.Walks as walks
use Rattle.hv_flow.proofs.Shown.{Marked, map_two, whole_shown, whole_marked, alone_shown}
use Rattle.hv_flow.proofs.ReadingLemmas.{read_plan}
use Rattle.hv_flow.proofs.Ranges.{In, last_in, final_in, next_in}
use Rattle.hv_flow.proofs.Walks.{Through, Walked, ends_walked, leaves_walked, walk_ends, walk_leaves}
use Rattle.hv_flow.proofs.Edges.{base, either_to, either_of, edge_from, edge_there}

-- ---- acts

extend_acts : (at : ℕ) (to : List ℕ) (ns : List Node) (i : ℕ) (e : Act) → ActAt ns i e → ActAt (extend_at at to ns) i e
extend_acts at to [] i e h = h
extend_acts zero to (n ∷ ns) zero e h = h
extend_acts zero to (n ∷ ns) (suc i) e h = h
extend_acts (suc at) to (n ∷ ns) zero e h = h
extend_acts (suc at) to (n ∷ ns) (suc i) e h = extend_acts at to ns i e h

acts_extend : (at : ℕ) (to : List ℕ) (ns : List Node) (i : ℕ) (e : Act) → ActAt (extend_at at to ns) i e → ActAt ns i e
acts_extend at to [] i e h = h
acts_extend zero to (n ∷ ns) zero e h = h
acts_extend zero to (n ∷ ns) (suc i) e h = h
acts_extend (suc at) to (n ∷ ns) zero e h = h
acts_extend (suc at) to (n ∷ ns) (suc i) e h = acts_extend at to ns i e h

linked_acts : (from to : List ℕ) (ns : List Node) (i : ℕ) (e : Act) → ActAt ns i e → ActAt (linked from to ns) i e
linked_acts [] to ns i e h = h
linked_acts (x ∷ from) to ns i e h = linked_acts from to (extend_at x to ns) i e (extend_acts x to ns i e h)

acts_linked : (from to : List ℕ) (ns : List Node) (i : ℕ) (e : Act) → ActAt (linked from to ns) i e → ActAt ns i e
acts_linked [] to ns i e h = h
acts_linked (x ∷ from) to ns i e h = acts_extend x to ns i e (acts_linked from to (extend_at x to ns) i e h)

pushed_acts : (ns : List Node) (x : Act) (i : ℕ) (e : Act) → ActAt ns i e → ActAt (ns ++ node_of x ∷ []) i e
pushed_acts [] x i e h = absurd h
pushed_acts (n ∷ ns) x zero e h = h
pushed_acts (n ∷ ns) x (suc i) e h = pushed_acts ns x i e h

pushed_act : (ns : List Node) (x : Act) (i : ℕ) (e : Act) → length ns ≡ i → e ≡ x → ActAt (ns ++ node_of x ∷ []) i e
pushed_act [] x zero e g h = h
pushed_act [] x (suc i) e g h = absurd (omega (arith, g))
pushed_act (n ∷ ns) x zero e g h = absurd (omega (arith, g))
pushed_act (n ∷ ns) x (suc i) e g h = pushed_act ns x i e (omega (arith, g)) h

acts_pushed : (ns : List Node) (x : Act) (k i : ℕ) (e : Act) → length ns ≡ k → ActAt (ns ++ node_of x ∷ []) i e → ActAt ns i e ⊎ ((i ≡ k) × (e ≡ x))
acts_pushed [] x k zero e g h = inr (g, h)
acts_pushed [] x k (suc i) e g h = absurd h
acts_pushed (n ∷ ns) x k zero e g h = inl h
acts_pushed (n ∷ ns) x k (suc i) e g h = either_to (λ p. p) (λ p. (omega (arith, g, p.0), p.1)) (acts_pushed ns x (length ns) i e refl h)

acts_kept : (f : Flow Act) (ns : List Node) (i : ℕ) (e : Act) → ActAt ns i e → ActAt (built f ns).nodes i e
acts_kept Skip ns i e h = h
acts_kept (Do x) ns i e h = pushed_acts ns x i e h
acts_kept (Stop x) ns i e h = pushed_acts ns x i e h
acts_kept (Then a b) ns i e h =
    linked_acts (built a ns).part.last (built b (built a ns).nodes).part.first (built b (built a ns).nodes).nodes i e (acts_kept b (built a ns).nodes i e (acts_kept a ns i e h))
acts_kept (Either a b) ns i e h = acts_kept b (built a ns).nodes i e (acts_kept a ns i e h)
acts_kept (Loop a) ns i e h = linked_acts (built a ns).part.last (built a ns).part.first (built a ns).nodes i e (acts_kept a ns i e h)

act_there : (f : Flow Act) (ns : List Node) (k i : ℕ) (e : Act) → length ns ≡ k → At k f i e → ActAt (built f ns).nodes i e
act_there Skip ns k i e g h = absurd h
act_there (Do x) ns k i e g h = pushed_act ns x i e (g ∙ sym h.0) h.1
act_there (Stop x) ns k i e g h = pushed_act ns x i e (g ∙ sym h.0) h.1
act_there (Then a b) ns k i e g h =
    linked_acts (built a ns).part.last (built b (built a ns).nodes).part.first (built b (built a ns).nodes).nodes i e
    (either_of (λ p. acts_kept b (built a ns).nodes i e (act_there a ns k i e g p)) (act_there b (built a ns).nodes (k + places a) i e (base a ns k g)) h)
act_there (Either a b) ns k i e g h = either_of (λ p. acts_kept b (built a ns).nodes i e (act_there a ns k i e g p)) (act_there b (built a ns).nodes (k + places a) i e (base a ns k g)) h
act_there (Loop a) ns k i e g h = linked_acts (built a ns).part.last (built a ns).part.first (built a ns).nodes i e (act_there a ns k i e g h)

pub act_from : (f : Flow Act) (ns : List Node) (k i : ℕ) (e : Act) → length ns ≡ k → ActAt (built f ns).nodes i e → ActAt ns i e ⊎ At k f i e
act_from Skip ns k i e g h = inl h
act_from (Do x) ns k i e g h = acts_pushed ns x k i e g h
act_from (Stop x) ns k i e g h = acts_pushed ns x k i e g h
act_from (Then a b) ns k i e g h =
    either_of (λ p. either_to (λ q. q) (λ q. inl q) (act_from a ns k i e g p)) (λ p. inr (inr p))
    (act_from b (built a ns).nodes (k + places a) i e (base a ns k g) (acts_linked (built a ns).part.last (built b (built a ns).nodes).part.first (built b (built a ns).nodes).nodes i e h))
act_from (Either a b) ns k i e g h =
    either_of (λ p. either_to (λ q. q) (λ q. inl q) (act_from a ns k i e g p)) (λ p. inr (inr p)) (act_from b (built a ns).nodes (k + places a) i e (base a ns k g) h)
act_from (Loop a) ns k i e g h = act_from a ns k i e g (acts_linked (built a ns).part.last (built a ns).part.first (built a ns).nodes i e h)

-- ---- where a walk may end

apart : {k m n i : ℕ} → In k m i → In (k + m) n i → ⊥
apart h g = omega (arith, h.high, g.low)

last_goes_on : {E : Type 0} (k : ℕ) (f : Flow E) (i : ℕ) → Last k f i → Final k f i → ⊥
last_goes_on k Skip i h g = h
last_goes_on k (Do e) i h g = g
last_goes_on k (Stop e) i h g = h
last_goes_on k (Then a b) i (inl h) (inl g) = apart (final_in k a i g) (last_in (k + places a) b i h)
last_goes_on k (Then a b) i (inl h) (inr g) = last_goes_on (k + places a) b i h g
last_goes_on k (Then a b) i (inr h) (inl g) = last_goes_on k a i h.1 g
last_goes_on k (Then a b) i (inr h) (inr g) = apart (last_in k a i h.1) (final_in (k + places a) b i g)
last_goes_on k (Either a b) i (inl h) (inl g) = last_goes_on k a i h g
last_goes_on k (Either a b) i (inl h) (inr g) = apart (last_in k a i h) (final_in (k + places a) b i g)
last_goes_on k (Either a b) i (inr h) (inl g) = apart (final_in k a i g) (last_in (k + places a) b i h)
last_goes_on k (Either a b) i (inr h) (inr g) = last_goes_on (k + places a) b i h g
last_goes_on k (Loop a) i h g = last_goes_on k a i h g

final_stops : {E : Type 0} (k : ℕ) (f : Flow E) (i j : ℕ) → Final k f i → Next k f i j → ⊥
final_stops k Skip i j g h = h
final_stops k (Do e) i j g h = h
final_stops k (Stop e) i j g h = h
final_stops k (Then a b) i j (inl g) (inl h) = final_stops k a i j g h
final_stops k (Then a b) i j (inl g) (inr (inl h)) = apart (final_in k a i g) (next_in (k + places a) b i j h).one
final_stops k (Then a b) i j (inl g) (inr (inr h)) = last_goes_on k a i h.0 g
final_stops k (Then a b) i j (inr g) (inl h) = apart (next_in k a i j h).one (final_in (k + places a) b i g)
final_stops k (Then a b) i j (inr g) (inr (inl h)) = final_stops (k + places a) b i j g h
final_stops k (Then a b) i j (inr g) (inr (inr h)) = apart (last_in k a i h.0) (final_in (k + places a) b i g)
final_stops k (Either a b) i j (inl g) (inl h) = final_stops k a i j g h
final_stops k (Either a b) i j (inl g) (inr h) = apart (final_in k a i g) (next_in (k + places a) b i j h).one
final_stops k (Either a b) i j (inr g) (inl h) = apart (next_in k a i j h).one (final_in (k + places a) b i g)
final_stops k (Either a b) i j (inr g) (inr h) = final_stops (k + places a) b i j g h
final_stops k (Loop a) i j g (inl h) = final_stops k a i j g h
final_stops k (Loop a) i j g (inr h) = last_goes_on k a i h.0 g

-- what stands at a place: another may follow, the flow may end, or the body is left
data Goes {E : Type 0} (k : ℕ) (f : Flow E) (i : ℕ) : Type 0 where
  on : (j : ℕ) → Next k f i j → Goes k f i
  out : Last k f i → Goes k f i
  off : Final k f i → Goes k f i

-- a flow that isn't empty has a first place
begins : {E : Type 0} (k : ℕ) (f : Flow E) → (is_empty f ≡ true) ⊎ ((i : ℕ) × First k f i)
begins k Skip = inl refl
begins k (Do e) = inr (k, refl)
begins k (Stop e) = inr (k, refl)
begins k (Then a b) = by (begins k a) (begins (k + places a) b)
  where
    by : (is_empty a ≡ true) ⊎ ((i : ℕ) × First k a i) → (is_empty b ≡ true) ⊎ ((i : ℕ) × First (k + places a) b i) → (is_empty (Then a b) ≡ true) ⊎ ((i : ℕ) × First k (Then a b) i)
    by (inr p) q = inr (p.0, inl p.1)
    by (inl p) (inr q) = inr (q.0, inr (p, q.1))
    by (inl p) (inl q) = inl (cc)
begins k (Either a b) = by (begins k a)
  where
    by : (is_empty a ≡ true) ⊎ ((i : ℕ) × First k a i) → (is_empty (Either a b) ≡ true) ⊎ ((i : ℕ) × First k (Either a b) i)
    by (inr p) = inr (p.0, inl p.1)
    by (inl p) = inl (cc)
begins k (Loop a) = inl refl

goes : {E : Type 0} (k : ℕ) (f : Flow E) (i : ℕ) (x : E) → At k f i x → Goes k f i
goes k Skip i x h = absurd h
goes k (Do e) i x h = out h.0
goes k (Stop e) i x h = off h.0
goes {E} k (Then a b) i x (inl h) = by (goes k a i x h) (begins (k + places a) b)
  where
    by : Goes k a i → (is_empty b ≡ true) ⊎ ((j : ℕ) × First (k + places a) b j) → Goes k (Then a b) i
    by (on j n) q = on j (inl n)
    by (off g) q = off (inl g)
    by (out l) (inl q) = out (inr (q, l))
    by (out l) (inr q) = on q.0 (inr (inr (l, q.1)))
goes {E} k (Then a b) i x (inr h) = by (goes (k + places a) b i x h)
  where
    by : Goes (k + places a) b i → Goes k (Then a b) i
    by (on j n) = on j (inr (inl n))
    by (out l) = out (inl l)
    by (off g) = off (inr g)
goes {E} k (Either a b) i x (inl h) = by (goes k a i x h)
  where
    by : Goes k a i → Goes k (Either a b) i
    by (on j n) = on j (inl n)
    by (out l) = out (inl l)
    by (off g) = off (inl g)
goes {E} k (Either a b) i x (inr h) = by (goes (k + places a) b i x h)
  where
    by : Goes (k + places a) b i → Goes k (Either a b) i
    by (on j n) = on j (inr n)
    by (out l) = out (inr l)
    by (off g) = off (inr g)
goes {E} k (Loop a) i x h = by (goes k a i x h)
  where
    by : Goes k a i → Goes k (Loop a) i
    by (on j n) = on j (inl n)
    by (out l) = out l
    by (off g) = off g

-- a flow that ends alone isn't empty, and nothing follows its end
not_empty : {E : Type 0} (f : Flow E) → EndsAlone f → is_empty f ≡ true → ⊥
not_empty Skip p h = p
not_empty (Do e) p h = cc
not_empty (Stop e) p h = p
not_empty (Then a b) p h = let q : is_empty b ≡ true = grind arith in not_empty b p q
not_empty (Either a b) p h = p
not_empty (Loop a) p h = p

end_stops : {E : Type 0} (k : ℕ) (f : Flow E) (i j : ℕ) → EndsAlone f → Last k f i → Next k f i j → ⊥
end_stops k Skip i j p h n = p
end_stops k (Do e) i j p h n = n
end_stops k (Stop e) i j p h n = p
end_stops k (Then a b) i j p (inl h) (inl n) = apart (next_in k a i j n).one (last_in (k + places a) b i h)
end_stops k (Then a b) i j p (inl h) (inr (inl n)) = end_stops (k + places a) b i j p h n
end_stops k (Then a b) i j p (inl h) (inr (inr n)) = apart (last_in k a i n.0) (last_in (k + places a) b i h)
end_stops k (Then a b) i j p (inr h) n = not_empty b p h.0
end_stops k (Either a b) i j p h n = p
end_stops k (Loop a) i j p h n = p

-- ---- full walks

no_more : (xs : List ℕ) → ((j : ℕ) → Among xs j → ⊥) → xs ≡ []
no_more [] h = refl
no_more (x ∷ xs) h = absurd (h x (inl refl))

path_end : {E : Type 0} (k : ℕ) (f : Flow E) (i : ℕ) (es : List E) (j : ℕ) → Path k f i es j → (x : E) × At k f j x
path_end k f i es j (here h) = (_, h)
path_end k f i es j (step h n p) = path_end k f _ _ j p

path_head : {E : Type 0} (k : ℕ) (f : Flow E) (i : ℕ) (e : E) (es : List E) (j : ℕ) → Path k f i (e ∷ es) j → At k f i e
path_head k f i e es j (here h) = h
path_head k f i e es j (step h n p) = h

pub none_old : {P : Type 0} → ⊥ ⊎ P → P
none_old (inl h) = absurd h
none_old (inr p) = p

to_path : (f : Flow Act) (i : ℕ) (es : List Act) (j : ℕ) → Walk (built f []).nodes i es j → Path 0 f i es j
to_path f i es j (walks.here h) = here (none_old (act_from f [] 0 i _ refl h))
to_path f i es j (walks.step {m = m} h n w) = step (none_old (act_from f [] 0 i _ refl h)) (none_old (edge_from f [] 0 i m refl n)) (to_path f m _ j w)

to_walk : (f : Flow Act) (i : ℕ) (es : List Act) (j : ℕ) → Path 0 f i es j → Walk (built f []).nodes i es j
to_walk f i es j (here h) = walks.here (act_there f [] 0 i _ refl h)
to_walk f i es j (step {m = m} h n p) = walks.step (act_there f [] 0 i _ refl h) (edge_there f [] 0 i m refl n) (to_walk f m _ j p)

module _ (first : Act) (f : Flow Act) (p : EndsAlone f) where
  abbrev Whole : Flow Act
  Whole = Then (Do first) f

  abbrev nodes : List Node
  nodes = (built Whole []).nodes

  stuck : (i j : ℕ) → next_of nodes i ≡ [] → Next 0 Whole i j → ⊥
  stuck i j e n = subst (λ (w : List ℕ). Among w j) e (edge_there Whole [] 0 i j refl n)

  walked : (es : List Act) → IsFullWalk nodes es → IsWhole Whole es
  walked es w = by (goes 0 Whole w.to end.0 end.1)
    where
      path : Path 0 Whole 0 es w.to
      path = to_path Whole 0 es w.to w.walk

      end : (y : Act) × At 0 Whole w.to y
      end = path_end 0 Whole 0 es w.to path

      by : Goes 0 Whole w.to → IsWhole Whole es
      by (on j n) = absurd (stuck w.to j w.ends n)
      by (out l) = inl (walk_ends 0 Whole 0 es w.to (inl refl) path l)
      by (off g) = inr (walk_leaves 0 Whole 0 es w.to (inl refl) path g)

  first_zero : (i : ℕ) → First 0 Whole i → i ≡ 0
  first_zero i (inl h) = h
  first_zero i (inr h) = let q : false ≡ true = h.0 in cc

  full : (T : ℕ → Type 0) (es : List Act) → ((i j : ℕ) → T i → Next 0 Whole i j → ⊥) → Through 0 Whole T es → IsFullWalk nodes es
  full T es stops t = record {
    to = t.to;
    walk = subst (λ (i : ℕ). Walk nodes i es t.to) (first_zero t.from t.first) (to_walk Whole t.from es t.to t.path);
    ends = no_more (next_of nodes t.to) (λ j h. stops t.to j t.target (none_old (edge_from Whole [] 0 t.to j refl h)));
  }

  walks_ends : (es : List Act) → Walked 0 Whole es → IsFullWalk nodes es
  walks_ends es (inl h) = absurd (not_empty Whole p h.1)
  walks_ends es (inr t) = full _ es (λ i j. end_stops 0 Whole i j p) t

  traced : (es : List Act) → IsWhole Whole es → IsFullWalk nodes es
  traced es (inl h) = walks_ends es (ends_walked 0 Whole es h)
  traced es (inr h) = full _ es (final_stops 0 Whole) (leaves_walked 0 Whole es h)

-- ---- the graph of a body

begun : (x : Act) (xs ys es : List Act) → xs ≡ x ∷ [] → es ≡ xs ++ ys → es ≡ x ∷ ys
begun x xs ys es p e = e ∙ ap (λ (w : List Act). w ++ ys) p

module _ (at : Place) (f : Events) (p : EndsAlone f) where
  abbrev acts : Flow Act
  acts = acts_of f

  abbrev all : List Node
  all = (built (Then (Do (entry at)) acts) []).nodes

  traces_by : (xs ys es : List Act) → Marked (IsWhole f) ys → xs ≡ entry at ∷ [] → es ≡ xs ++ ys → Traces at f es
  traces_by xs ys es m q e = record { trace = m.marks; whole = m.is; same = begun (entry at) xs ys es q e ∙ ap (λ (w : List Act). entry at ∷ w) m.shown }

  traces : (es : List Act) → IsWhole (Then (Do (entry at)) acts) es → Traces at f es
  traces es (inl (xs, ys, q, h, e)) = traces_by xs ys es (whole_marked f ys (inl h)) q e
  traces es (inr (inl h)) = absurd h
  traces es (inr (inr (xs, ys, q, h, e))) = traces_by xs ys es (whole_marked f ys (inr h)) q e

  entered_whole : (ys : List Act) → IsWhole acts ys → IsWhole (Then (Do (entry at)) acts) (entry at ∷ ys)
  entered_whole ys (inl h) = inl (entry at ∷ [], ys, refl, h, refl)
  entered_whole ys (inr h) = inr (inr (entry at ∷ [], ys, refl, h, refl))

  walk_of : (ms : List Mark) → IsWhole f ms → IsFullWalk all (entry at ∷ map act_of ms)
  walk_of ms h = traced (entry at) acts (alone_shown f p) (entry at ∷ map act_of ms) (entered_whole (map act_of ms) (whole_shown f ms h))

  walks_of : (es : List Act) → Traces at f es → IsFullWalk all es
  walks_of es t = subst (λ (w : List Act). IsFullWalk all w) (sym t.same) (walk_of t.trace t.whole)

  cut_of : (ms : List Mark) → IsTrace f ms → walks.Walked at all ms
  cut_of ms (rest, h) = record { rest = map act_of rest; walk = subst (λ (w : List Act). IsFullWalk all (entry at ∷ w)) (map_two ms rest) (walk_of (ms ++ rest) h) }

  pub is_graph : IsGraph at f all
  is_graph = record { walks = λ es. (λ w. traces es (walked (entry at) acts (alone_shown f p) es w), walks_of es); cut = cut_of }

pub plan_is_graph : (at : Place) (f : Events) (plan : List FlowOp) (ns : List Node) → ns ≡ read_all plan [] [] → plan ≡ plan_of (entered at f) → EndsAlone f → IsGraph at f ns
plan_is_graph at f plan ns e q p =
    subst (λ (w : List Node). IsGraph at f w) (sym (e ∙ (ap (λ (w : List FlowOp). read_all w [] []) q ∙ read_plan (entered at f)))) (is_graph at f p)
