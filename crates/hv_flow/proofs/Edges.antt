-- The graph that is built has exactly the edges that may follow.
use Rattle.std.proofs.Common.{◌≡◌, ◌⊎◌, inl, inr, ℕ, zero, suc, ◌+◌, ◌<◌, Bool, true, false, if◌then◌else◌, List, [], ◌∷◌, ◌++◌, length, refl, sym, ◌∙◌, ap, subst, arith, length-append}
use Rattle.hv_flow.specs.Acts.{Act}
use Rattle.hv_flow.specs.declared.nodes.Node.{Node}
use Rattle.hv_rules.specs.Flow.{Flow, Skip, Do, Stop, Then, Either, Loop}
use Rattle.hv_flow.specs.Positions.{places, is_empty, First, Last, Next}
use Rattle.hv_flow.specs.Graphs.{node_of, extend_at, linked, built, Among, Edge}
use Rattle.hv_flow.proofs.Ranges.{last_in}
use Rattle.hv_flow.proofs.GraphLemmas.{length_linked, length_extend}

among_left : (xs ys : List ℕ) (j : ℕ) → Among xs j → Among (xs ++ ys) j
among_left [] ys j h = absurd h
among_left (x ∷ xs) ys j (inl h) = inl h
among_left (x ∷ xs) ys j (inr h) = inr (among_left xs ys j h)

among_right : (xs ys : List ℕ) (j : ℕ) → Among ys j → Among (xs ++ ys) j
among_right [] ys j h = h
among_right (x ∷ xs) ys j h = inr (among_right xs ys j h)

among_either : (xs ys : List ℕ) (j : ℕ) → Among (xs ++ ys) j → Among xs j ⊎ Among ys j
among_either [] ys j h = inr h
among_either (x ∷ xs) ys j (inl h) = inl (inl h)
among_either (x ∷ xs) ys j (inr h) = by (among_either xs ys j h)
  where
    by : Among xs j ⊎ Among ys j → Among (x ∷ xs) j ⊎ Among ys j
    by (inl p) = inl (inr p)
    by (inr p) = inr p

-- ---- lengths, firsts, lasts

pub length_built : (f : Flow Act) (ns : List Node) → length (built f ns).nodes ≡ length ns + places f
length_built Skip ns = omega arith
length_built (Do e) ns = omega (arith, length-append ns (node_of e ∷ []))
length_built (Stop e) ns = omega (arith, length-append ns (node_of e ∷ []))
length_built (Then a b) ns = omega (arith, length_linked (built a ns).part.last (built b (built a ns).nodes).part.first (built b (built a ns).nodes).nodes, length_built b (built a ns).nodes, length_built a ns)
length_built (Either a b) ns = omega (arith, length_built b (built a ns).nodes, length_built a ns)
length_built (Loop a) ns = omega (arith, length_linked (built a ns).part.last (built a ns).part.first (built a ns).nodes, length_built a ns)

pub empty_built : (f : Flow Act) (ns : List Node) → (built f ns).part.empty ≡ is_empty f
empty_built Skip ns = refl
empty_built (Do e) ns = refl
empty_built (Stop e) ns = refl
empty_built (Then a b) ns = rw (empty_built a ns, empty_built b (built a ns).nodes)
empty_built (Either a b) ns = rw (empty_built a ns, empty_built b (built a ns).nodes)
empty_built (Loop a) ns = refl

if_to : (e : Bool) (xs ys : List ℕ) (i : ℕ) → Among (if e then xs ++ ys else xs) i → Among xs i ⊎ ((e ≡ true) × Among ys i)
if_to false xs ys i h = inl h
if_to true xs ys i h = by (among_either xs ys i h)
  where
    by : Among xs i ⊎ Among ys i → Among xs i ⊎ ((true ≡ true) × Among ys i)
    by (inl p) = inl p
    by (inr p) = inr (refl, p)

if_one : (e : Bool) (xs ys : List ℕ) (i : ℕ) → Among xs i → Among (if e then xs ++ ys else xs) i
if_one true xs ys i h = among_left xs ys i h
if_one false xs ys i h = h

if_two : (e : Bool) (xs ys : List ℕ) (i : ℕ) → e ≡ true → Among ys i → Among (if e then xs ++ ys else xs) i
if_two true xs ys i e h = among_right xs ys i h
if_two false xs ys i e h = cc

last_to : (e : Bool) (xs ys : List ℕ) (i : ℕ) → Among (if e then xs ++ ys else ys) i → Among ys i ⊎ ((e ≡ true) × Among xs i)
last_to false xs ys i h = inl h
last_to true xs ys i h = by (among_either xs ys i h)
  where
    by : Among xs i ⊎ Among ys i → Among ys i ⊎ ((true ≡ true) × Among xs i)
    by (inl p) = inr (refl, p)
    by (inr p) = inl p

last_one : (e : Bool) (xs ys : List ℕ) (i : ℕ) → Among ys i → Among (if e then xs ++ ys else ys) i
last_one true xs ys i h = among_right xs ys i h
last_one false xs ys i h = h

last_two : (e : Bool) (xs ys : List ℕ) (i : ℕ) → e ≡ true → Among xs i → Among (if e then xs ++ ys else ys) i
last_two true xs ys i e h = among_left xs ys i h
last_two false xs ys i e h = cc

pub base : (a : Flow Act) (ns : List Node) (k : ℕ) → length ns ≡ k → length (built a ns).nodes ≡ k + places a
base a ns k e = length_built a ns ∙ ap (λ (n : ℕ). n + places a) e

one_to : (n k i : ℕ) → n ≡ k → (n ≡ i) ⊎ ⊥ → i ≡ k
one_to n k i e (inl h) = sym h ∙ e
one_to n k i e (inr h) = absurd h

pub either_to : {P Q R S : Type 0} → (P → R) → (Q → S) → P ⊎ Q → R ⊎ S
either_to f g (inl p) = inl (f p)
either_to f g (inr q) = inr (g q)

pub either_of : {P Q R : Type 0} → (P → R) → (Q → R) → P ⊎ Q → R
either_of f g (inl p) = f p
either_of f g (inr q) = g q

pub first_from : (f : Flow Act) (ns : List Node) (k i : ℕ) → length ns ≡ k → Among (built f ns).part.first i → First k f i
first_from Skip ns k i e h = absurd h
first_from (Do x) ns k i e h = one_to (length ns) k i e h
first_from (Stop x) ns k i e h = one_to (length ns) k i e h
first_from (Then a b) ns k i e h =
    either_to (first_from a ns k i e) (λ p. (sym (empty_built a ns) ∙ p.0, first_from b (built a ns).nodes (k + places a) i (base a ns k e) p.1)) (if_to (built a ns).part.empty _ _ i h)
first_from (Either a b) ns k i e h = either_to (first_from a ns k i e) (first_from b (built a ns).nodes (k + places a) i (base a ns k e)) (among_either _ _ i h)
first_from (Loop a) ns k i e h = first_from a ns k i e h

pub first_there : (f : Flow Act) (ns : List Node) (k i : ℕ) → length ns ≡ k → First k f i → Among (built f ns).part.first i
first_there Skip ns k i e h = absurd h
first_there (Do x) ns k i e h = inl (e ∙ sym h)
first_there (Stop x) ns k i e h = inl (e ∙ sym h)
first_there (Then a b) ns k i e h =
    either_of (λ p. if_one (built a ns).part.empty _ _ i (first_there a ns k i e p))
    (λ p. if_two (built a ns).part.empty _ _ i (empty_built a ns ∙ p.0) (first_there b (built a ns).nodes (k + places a) i (base a ns k e) p.1)) h
first_there (Either a b) ns k i e h =
    either_of (λ p. among_left _ _ i (first_there a ns k i e p)) (λ p. among_right _ _ i (first_there b (built a ns).nodes (k + places a) i (base a ns k e) p)) h
first_there (Loop a) ns k i e h = first_there a ns k i e h

pub last_from : (f : Flow Act) (ns : List Node) (k i : ℕ) → length ns ≡ k → Among (built f ns).part.last i → Last k f i
last_from Skip ns k i e h = absurd h
last_from (Do x) ns k i e h = one_to (length ns) k i e h
last_from (Stop x) ns k i e h = absurd h
last_from (Then a b) ns k i e h =
    either_to (last_from b (built a ns).nodes (k + places a) i (base a ns k e)) (λ p. (sym (empty_built b (built a ns).nodes) ∙ p.0, last_from a ns k i e p.1))
    (last_to (built b (built a ns).nodes).part.empty _ _ i h)
last_from (Either a b) ns k i e h = either_to (last_from a ns k i e) (last_from b (built a ns).nodes (k + places a) i (base a ns k e)) (among_either _ _ i h)
last_from (Loop a) ns k i e h = last_from a ns k i e h

pub last_there : (f : Flow Act) (ns : List Node) (k i : ℕ) → length ns ≡ k → Last k f i → Among (built f ns).part.last i
last_there Skip ns k i e h = absurd h
last_there (Do x) ns k i e h = inl (e ∙ sym h)
last_there (Stop x) ns k i e h = absurd h
last_there (Then a b) ns k i e h =
    either_of (λ p. last_one (built b (built a ns).nodes).part.empty _ _ i (last_there b (built a ns).nodes (k + places a) i (base a ns k e) p))
    (λ p. last_two (built b (built a ns).nodes).part.empty _ _ i (empty_built b (built a ns).nodes ∙ p.0) (last_there a ns k i e p.1)) h
last_there (Either a b) ns k i e h =
    either_of (λ p. among_left _ _ i (last_there a ns k i e p)) (λ p. among_right _ _ i (last_there b (built a ns).nodes (k + places a) i (base a ns k e) p)) h
last_there (Loop a) ns k i e h = last_there a ns k i e h

-- ---- edges

edge_inside : (ns : List Node) (i j : ℕ) → Edge ns i j → i < length ns
edge_inside [] i j h = absurd h
edge_inside (n ∷ ns) zero j h = omega arith
edge_inside (n ∷ ns) (suc i) j h = omega (arith, edge_inside ns i j h)

extend_keeps : (at : ℕ) (to : List ℕ) (ns : List Node) (i j : ℕ) → Edge ns i j → Edge (extend_at at to ns) i j
extend_keeps at to [] i j h = h
extend_keeps zero to (n ∷ ns) zero j h = among_left n.next to j h
extend_keeps zero to (n ∷ ns) (suc i) j h = h
extend_keeps (suc at) to (n ∷ ns) zero j h = h
extend_keeps (suc at) to (n ∷ ns) (suc i) j h = extend_keeps at to ns i j h

extend_adds : (at : ℕ) (to : List ℕ) (ns : List Node) (j : ℕ) → at < length ns → Among to j → Edge (extend_at at to ns) at j
extend_adds at to [] j g h = absurd (omega (arith, g))
extend_adds zero to (n ∷ ns) j g h = among_right n.next to j h
extend_adds (suc at) to (n ∷ ns) j g h = extend_adds at to ns j (omega (arith, g)) h

extend_from : (at : ℕ) (to : List ℕ) (ns : List Node) (i j : ℕ) → Edge (extend_at at to ns) i j → Edge ns i j ⊎ ((at ≡ i) × Among to j)
extend_from at to [] i j h = absurd h
extend_from zero to (n ∷ ns) zero j h = either_to (λ p. p) (λ p. (refl, p)) (among_either n.next to j h)
extend_from zero to (n ∷ ns) (suc i) j h = inl h
extend_from (suc at) to (n ∷ ns) zero j h = inl h
extend_from (suc at) to (n ∷ ns) (suc i) j h = either_to (λ p. p) (λ p. (ap suc p.0, p.1)) (extend_from at to ns i j h)

linked_keeps : (from to : List ℕ) (ns : List Node) (i j : ℕ) → Edge ns i j → Edge (linked from to ns) i j
linked_keeps [] to ns i j h = h
linked_keeps (x ∷ from) to ns i j h = linked_keeps from to (extend_at x to ns) i j (extend_keeps x to ns i j h)

linked_adds : (from to : List ℕ) (ns : List Node) (i j : ℕ) → i < length ns → Among from i → Among to j → Edge (linked from to ns) i j
linked_adds [] to ns i j g h m = absurd h
linked_adds (x ∷ from) to ns i j g (inl h) m =
    linked_keeps from to (extend_at x to ns) i j (subst (λ (n : ℕ). Edge (extend_at x to ns) n j) h (extend_adds x to ns j (omega (arith, g, h)) m))
linked_adds (x ∷ from) to ns i j g (inr h) m = linked_adds from to (extend_at x to ns) i j (omega (arith, g, length_extend x to ns)) h m

linked_from : (from to : List ℕ) (ns : List Node) (i j : ℕ) → Edge (linked from to ns) i j → Edge ns i j ⊎ (Among from i × Among to j)
linked_from [] to ns i j h = inl h
linked_from (x ∷ from) to ns i j h = either_of (λ p. either_to (λ q. q) (λ q. (inl q.0, q.1)) (extend_from x to ns i j p)) (λ p. inr (inr p.0, p.1)) (linked_from from to (extend_at x to ns) i j h)

pushed_keeps : (ns : List Node) (e : Act) (i j : ℕ) → Edge ns i j → Edge (ns ++ node_of e ∷ []) i j
pushed_keeps [] e i j h = absurd h
pushed_keeps (n ∷ ns) e zero j h = h
pushed_keeps (n ∷ ns) e (suc i) j h = pushed_keeps ns e i j h

pushed_from : (ns : List Node) (e : Act) (i j : ℕ) → Edge (ns ++ node_of e ∷ []) i j → Edge ns i j
pushed_from [] e zero j h = absurd h
pushed_from [] e (suc i) j h = absurd h
pushed_from (n ∷ ns) e zero j h = h
pushed_from (n ∷ ns) e (suc i) j h = pushed_from ns e i j h

pub edge_kept : (f : Flow Act) (ns : List Node) (i j : ℕ) → Edge ns i j → Edge (built f ns).nodes i j
edge_kept Skip ns i j h = h
edge_kept (Do e) ns i j h = pushed_keeps ns e i j h
edge_kept (Stop e) ns i j h = pushed_keeps ns e i j h
edge_kept (Then a b) ns i j h = linked_keeps (built a ns).part.last (built b (built a ns).nodes).part.first (built b (built a ns).nodes).nodes i j (edge_kept b (built a ns).nodes i j (edge_kept a ns i j h))
edge_kept (Either a b) ns i j h = edge_kept b (built a ns).nodes i j (edge_kept a ns i j h)
edge_kept (Loop a) ns i j h = linked_keeps (built a ns).part.last (built a ns).part.first (built a ns).nodes i j (edge_kept a ns i j h)

-- each edge is an old one, or one place may follow the other
pub edge_from : (f : Flow Act) (ns : List Node) (k i j : ℕ) → length ns ≡ k → Edge (built f ns).nodes i j → Edge ns i j ⊎ Next k f i j
edge_from Skip ns k i j e h = inl h
edge_from (Do x) ns k i j e h = inl (pushed_from ns x i j h)
edge_from (Stop x) ns k i j e h = inl (pushed_from ns x i j h)
edge_from (Then a b) ns k i j e h =
    either_of
    (λ p. either_of (λ q. either_to (λ r. r) (λ r. inl r) (edge_from a ns k i j e q)) (λ q. inr (inr (inl q))) (edge_from b (built a ns).nodes (k + places a) i j (base a ns k e) p))
    (λ p. inr (inr (inr (last_from a ns k i e p.0, first_from b (built a ns).nodes (k + places a) j (base a ns k e) p.1))))
    (linked_from (built a ns).part.last (built b (built a ns).nodes).part.first (built b (built a ns).nodes).nodes i j h)
edge_from (Either a b) ns k i j e h =
    either_of (λ q. either_to (λ r. r) (λ r. inl r) (edge_from a ns k i j e q)) (λ q. inr (inr q)) (edge_from b (built a ns).nodes (k + places a) i j (base a ns k e) h)
edge_from (Loop a) ns k i j e h =
    either_of (λ p. either_to (λ r. r) (λ r. inl r) (edge_from a ns k i j e p)) (λ p. inr (inr (last_from a ns k i e p.0, first_from a ns k j e p.1))) (linked_from (built a ns).part.last (built a ns).part.first (built a ns).nodes i j h)

pub edge_there : (f : Flow Act) (ns : List Node) (k i j : ℕ) → length ns ≡ k → Next k f i j → Edge (built f ns).nodes i j
edge_there Skip ns k i j e h = absurd h
edge_there (Do x) ns k i j e h = absurd h
edge_there (Stop x) ns k i j e h = absurd h
edge_there (Then a b) ns k i j e (inl h) = linked_keeps (built a ns).part.last (built b (built a ns).nodes).part.first (built b (built a ns).nodes).nodes i j (edge_kept b (built a ns).nodes i j (edge_there a ns k i j e h))
edge_there (Then a b) ns k i j e (inr (inl h)) = linked_keeps (built a ns).part.last (built b (built a ns).nodes).part.first (built b (built a ns).nodes).nodes i j (edge_there b (built a ns).nodes (k + places a) i j (base a ns k e) h)
edge_there (Then a b) ns k i j e (inr (inr h)) =
    linked_adds (built a ns).part.last (built b (built a ns).nodes).part.first (built b (built a ns).nodes).nodes i j (omega (arith, length_built b (built a ns).nodes, base a ns k e, (last_in k a i h.0).high)) (last_there a ns k i e h.0)
    (first_there b (built a ns).nodes (k + places a) j (base a ns k e) h.1)
edge_there (Either a b) ns k i j e (inl h) = edge_kept b (built a ns).nodes i j (edge_there a ns k i j e h)
edge_there (Either a b) ns k i j e (inr h) = edge_there b (built a ns).nodes (k + places a) i j (base a ns k e) h
edge_there (Loop a) ns k i j e (inl h) = linked_keeps (built a ns).part.last (built a ns).part.first (built a ns).nodes i j (edge_there a ns k i j e h)
edge_there (Loop a) ns k i j e (inr h) =
    linked_adds (built a ns).part.last (built a ns).part.first (built a ns).nodes i j (omega (arith, base a ns k e, (last_in k a i h.0).high)) (last_there a ns k i e h.0) (first_there a ns k j e h.1)
