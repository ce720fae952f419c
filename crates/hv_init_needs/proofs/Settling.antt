-- How a local stands behind the events of a text, and which locals need a state.
use Rattle.std.proofs.Common.{◌≡◌, ◌<◌, ◌≤◌, ◌==◌, ℕ, Bool, true, false, if◌then◌else◌, not, ◌&&◌, ◌||◌, List, [], ◌∷◌, ◌++◌, map, length, get_or, replicate, slice_get, slice_set, Option, Some, None, refl, sym, ap, ◌∙◌, arith}
use Rattle.std.specs.List.{list_any}
use Rattle.std.proofs.lemmas.Bool.Decides.{nat_tests}
use Rattle.std.proofs.lemmas.List.{length-set, set_past, get_or-set_same, get_or-set_other, get_or-map, get_or-replicate, length-replicate}
use Rattle.std.proofs.lemmas.Option.{slice_get-get_or}
use Rattle.hv_decls.specs.declared.path.StaticStep.{StaticStep}
use Rattle.hv_decls.specs.declared.path.StaticPath.{StaticPath}
use Rattle.hv_rules.specs.declared.event.FlowEvent.{FlowEvent}
use Rattle.hv_rules.specs.declared.event.FlowEvent.TheVariants as event
use Rattle.hv_decls.specs.Paths.{has_index}
use Rattle.hv_rules.specs.Rules.{asks_whole}
use Rattle.hv_init_needs.specs.declared.standing.Standing.{Standing}
use Rattle.hv_init_needs.specs.declared.standing.Standing.TheVariants.{Unfilled, Filled, Unsettled}
use Rattle.hv_init_needs.specs.Sight.{Seen}
use Rattle.hv_init_needs.specs.Needs.{is_in, is_whole, gives, takes_from, empties, is_root, asks_for, gives_at, unsettles, needs_state_in}
use Rattle.hv_init_needs.specs.Standings.{whole_root, given, emptied_by, emptied, root_of, asked, outside, unsettled_at, filled_from, filled_at, marked, marked_by, needs}

-- a number of no local
pub past : (n : ℕ) (all : List Standing) (st : Standing) → length all ≤ n → all ≡ slice_set all n st
past n all st l = sym (set_past all n st l)

-- the texts of two parts, one after the other
pub marked_one : (text more : List Seen) (all : List Standing) → marked_by more (marked_by text all) ≡ marked_by (text ++ more) all
marked_one [] more all = refl
marked_one (s ∷ text) more all = marked_one text more (marked s all)

-- ---- the locals of an event

abbrev names : Option ℕ → ℕ → Bool
names None k = false
names (Some n) k = n == k

and_none : (p : Bool) → (p && false) ≡ false
and_none true = refl
and_none false = refl

and_all : (p : Bool) → (p && true) ≡ p
and_all true = refl
and_all false = refl

whole_given : (steps : List StaticStep) (n k : ℕ) → names (whole_root steps n) k ≡ is_whole steps n k
whole_given [] n k = refl
whole_given (s ∷ steps) n k = refl

names_given : (e : FlowEvent) (of : Option ℕ) (k : ℕ) → names (given e of) k ≡ gives e of k
names_given event.Entry of k = refl
names_given (event.Declare n) of k = refl
names_given (event.Init p) None k = refl
names_given (event.Init p) (Some n) k = whole_given p.steps p.root k
names_given (event.Use p) of k = refl
names_given (event.Move p) of k = refl
names_given (event.OpenRead p) of k = refl
names_given (event.OpenWrite p) of k = refl
names_given (event.OpenSet p) of k = refl
names_given event.Close of k = refl
names_given (event.Spawn h) of k = refl
names_given (event.Await h) of k = refl
names_given event.Return of k = refl
names_given (event.ScopeEnd n) of k = refl

names_taken : (p : StaticPath) (k : ℕ) → names (emptied_by p) k ≡ takes_from p k
names_taken p k = by (has_index p.steps)
  where
    by : (b : Bool) → names (if b then None else Some p.root) k ≡ ((p.root == k) && not b)
    by true = sym (and_none (p.root == k))
    by false = sym (and_all (p.root == k))

names_emptied : (e : FlowEvent) (k : ℕ) → names (emptied e) k ≡ empties e k
names_emptied event.Entry k = refl
names_emptied (event.Declare n) k = refl
names_emptied (event.Init p) k = refl
names_emptied (event.Use p) k = refl
names_emptied (event.Move p) k = names_taken p k
names_emptied (event.OpenRead p) k = refl
names_emptied (event.OpenWrite p) k = refl
names_emptied (event.OpenSet p) k = names_taken p k
names_emptied event.Close k = refl
names_emptied (event.Spawn h) k = refl
names_emptied (event.Await h) k = refl
names_emptied event.Return k = refl
names_emptied (event.ScopeEnd n) k = refl

names_root : (o : Option StaticPath) (k : ℕ) → names (root_of o) k ≡ is_root o k
names_root None k = refl
names_root (Some p) k = refl

names_asked : (e : FlowEvent) (k : ℕ) → names (asked e) k ≡ asks_for e k
names_asked e k = names_root (asks_whole e) k

names_outside : (ks : List ℕ) (o : Option ℕ) (k : ℕ) → names (outside ks o) k ≡ (names o k && not (is_in ks k))
names_outside ks None k = refl
names_outside ks (Some n) k = by (n == k) refl
  where
    away : (b : Bool) → (n == k) ≡ false → names (if b then None else Some n) k ≡ false
    away true e = refl
    away false e = e

    here : (b : Bool) → (n == k) ≡ true → names (if b then None else Some n) k ≡ not b
    here true e = refl
    here false e = e

    by : (c : Bool) → (n == k) ≡ c → names (if is_in ks n then None else Some n) k ≡ (c && not (is_in ks k))
    by true e = here (is_in ks n) e ∙ ap (λ (m : ℕ). not (is_in ks m)) (grind (arith, nat_tests))
    by false e = away (is_in ks n) e

-- ---- one local

abbrev unsettled_if : Bool → Standing → Standing
unsettled_if true st = Unsettled
unsettled_if false st = st

abbrev filled : Standing → Standing
filled Unfilled = Filled
filled Filled = Filled
filled Unsettled = Unsettled

abbrev filled_if : Bool → Standing → Standing
filled_if true st = filled st
filled_if false st = st

unsettled_one : (o : Option ℕ) (all : List Standing) (k : ℕ) (d : Standing) → k < length all → get_or (unsettled_at o all) k d ≡ unsettled_if (names o k) (get_or all k d)
unsettled_one None all k d l = refl
unsettled_one (Some n) all k d l = by (n == k) refl
  where
    by : (b : Bool) → (n == k) ≡ b → get_or (slice_set all n Unsettled) k d ≡ unsettled_if b (get_or all k d)
    by true e = let same : n ≡ k = grind (arith, nat_tests) in ap (λ (m : ℕ). get_or (slice_set all m Unsettled) k d) same ∙ get_or-set_same all k Unsettled d l
    by false e = get_or-set_other all n k Unsettled d (λ g. grind (arith, nat_tests))

filled_here : (o : Option Standing) (all : List Standing) (k : ℕ) (d : Standing) → k < length all → slice_get all k ≡ o → get_or (filled_from o k all) k d ≡ filled (get_or all k d)
filled_here None all k d l e = absurd (let g = slice_get-get_or all k d l in cc)
filled_here (Some st) all k d l e = by st (let g = slice_get-get_or all k d l in cc)
  where
    by : (s : Standing) → get_or all k d ≡ s → get_or (filled_from (Some s) k all) k d ≡ filled (get_or all k d)
    by Unfilled g = get_or-set_same all k Filled d l ∙ sym (ap filled g)
    by Filled g = g ∙ sym (ap filled g)
    by Unsettled g = g ∙ sym (ap filled g)

filled_away : (o : Option Standing) (all : List Standing) (n k : ℕ) (d : Standing) → (n == k) ≡ false → get_or (filled_from o n all) k d ≡ get_or all k d
filled_away None all n k d e = refl
filled_away (Some Unfilled) all n k d e = get_or-set_other all n k Filled d (λ g. grind (arith, nat_tests))
filled_away (Some Filled) all n k d e = refl
filled_away (Some Unsettled) all n k d e = refl

filled_one : (o : Option ℕ) (all : List Standing) (k : ℕ) (d : Standing) → k < length all → get_or (filled_at o all) k d ≡ filled_if (names o k) (get_or all k d)
filled_one None all k d l = refl
filled_one (Some n) all k d l = by (n == k) refl
  where
    by : (b : Bool) → (n == k) ≡ b → get_or (filled_from (slice_get all n) n all) k d ≡ filled_if b (get_or all k d)
    by true e = let same : n ≡ k = grind (arith, nat_tests) in ap (λ (m : ℕ). get_or (filled_from (slice_get all m) m all) k d) same ∙ filled_here (slice_get all k) all k d l refl
    by false e = filled_away (slice_get all n) all n k d e

-- ---- their number stays

unsettled_length : (o : Option ℕ) (all : List Standing) → length (unsettled_at o all) ≡ length all
unsettled_length None all = refl
unsettled_length (Some n) all = length-set all n Unsettled

filled_length : (o : Option Standing) (n : ℕ) (all : List Standing) → length (filled_from o n all) ≡ length all
filled_length None n all = refl
filled_length (Some Unfilled) n all = length-set all n Filled
filled_length (Some Filled) n all = refl
filled_length (Some Unsettled) n all = refl

filled_at_length : (o : Option ℕ) (all : List Standing) → length (filled_at o all) ≡ length all
filled_at_length None all = refl
filled_at_length (Some n) all = filled_length (slice_get all n) n all

marked_length : (s : Seen) (all : List Standing) → length (marked s all) ≡ length all
marked_length s all =
    let first = unsettled_at (emptied s.event) all in
    filled_at_length (given s.event s.declaration) (unsettled_at (outside s.sight (asked s.event)) first)
    ∙ unsettled_length (outside s.sight (asked s.event)) first
    ∙ unsettled_length (emptied s.event) all

text_length : (text : List Seen) (all : List Standing) → length (marked_by text all) ≡ length all
text_length [] all = refl
text_length (s ∷ text) all = text_length text (marked s all) ∙ marked_length s all

-- ---- a whole text

-- behind an event
abbrev after_one : ℕ → Seen → Standing → Standing
after_one k s st = filled_if (gives_at k s) (unsettled_if (asks_for s.event k && not (is_in s.sight k)) (unsettled_if (empties s.event k) st))

marked_one_local : (s : Seen) (all : List Standing) (k : ℕ) (d : Standing) → k < length all → get_or (marked s all) k d ≡ after_one k s (get_or all k d)
marked_one_local s all k d l =
    let first = unsettled_at (emptied s.event) all in
    let second = unsettled_at (outside s.sight (asked s.event)) first in
    let l1 : length first ≡ length all = unsettled_length (emptied s.event) all in
    let l2 : length second ≡ length first = unsettled_length (outside s.sight (asked s.event)) first in
    filled_one (given s.event s.declaration) second k d (omega (arith, l, l1, l2))
    ∙ ap (λ (b : Bool). filled_if b (get_or second k d)) (names_given s.event s.declaration k)
    ∙ ap (filled_if (gives_at k s))
    (unsettled_one (outside s.sight (asked s.event)) first k d (omega (arith, l, l1))
    ∙ ap (λ (b : Bool). unsettled_if b (get_or first k d)) (names_outside s.sight (asked s.event) k ∙ ap (λ (b : Bool). b && not (is_in s.sight k)) (names_asked s.event k))
    ∙ ap (unsettled_if (asks_for s.event k && not (is_in s.sight k)))
    (unsettled_one (emptied s.event) all k d l ∙ ap (λ (b : Bool). unsettled_if b (get_or all k d)) (names_emptied s.event k)))

-- a local that stands like this needs a state if what follows gives it a value, or not, and unsettles it, or not
abbrev needs_by : Standing → Bool → Bool → Bool
needs_by Unfilled g u = not g || u
needs_by Filled g u = u
needs_by Unsettled g u = true

or_any : (p : Bool) → (p || true) ≡ true
or_any true = refl
or_any false = refl

step : (st : Standing) (e a g : Bool) (gs us : Bool) → needs_by (filled_if g (unsettled_if a (unsettled_if e st))) gs us ≡ needs_by st (g || gs) ((e || a) || us)
step Unfilled true true true gs us = refl
step Unfilled true true false gs us = sym (or_any (not gs))
step Unfilled true false true gs us = refl
step Unfilled true false false gs us = sym (or_any (not gs))
step Unfilled false true true gs us = refl
step Unfilled false true false gs us = sym (or_any (not gs))
step Unfilled false false true gs us = refl
step Unfilled false false false gs us = refl
step Filled true true true gs us = refl
step Filled true true false gs us = refl
step Filled true false true gs us = refl
step Filled true false false gs us = refl
step Filled false true true gs us = refl
step Filled false true false gs us = refl
step Filled false false true gs us = refl
step Filled false false false gs us = refl
step Unsettled true true true gs us = refl
step Unsettled true true false gs us = refl
step Unsettled true false true gs us = refl
step Unsettled true false false gs us = refl
step Unsettled false true true gs us = refl
step Unsettled false true false gs us = refl
step Unsettled false false true gs us = refl
step Unsettled false false false gs us = refl

text_needs : (text : List Seen) (all : List Standing) (k : ℕ) (d : Standing) → k < length all → needs (get_or (marked_by text all) k d) ≡ needs_by (get_or all k d) (list_any (gives_at k) text) (list_any (unsettles k) text)
text_needs [] all k d l = by (get_or all k d)
  where
    by : (st : Standing) → needs st ≡ needs_by st false false
    by Unfilled = refl
    by Filled = refl
    by Unsettled = refl
text_needs (s ∷ text) all k d l =
    let same = marked_length s all in
    text_needs text (marked s all) k d (omega (arith, l, same))
    ∙ ap (λ (st : Standing). needs_by st (list_any (gives_at k) text) (list_any (unsettles k) text)) (marked_one_local s all k d l)
    ∙ step (get_or all k d) (empties s.event k) (asks_for s.event k && not (is_in s.sight k)) (gives_at k s) (list_any (gives_at k) text) (list_any (unsettles k) text)

-- ---- all locals

pub settled_length : (text : List Seen) (count : ℕ) → length (marked_by text (replicate count Unfilled)) ≡ count
settled_length text count = text_length text (replicate count Unfilled) ∙ length-replicate count Unfilled

pub settled : (text : List Seen) (count k : ℕ) → k < count → get_or (map needs (marked_by text (replicate count Unfilled))) k false ≡ needs_state_in text k
settled text count k l =
    let n : length (replicate count Unfilled) ≡ count = length-replicate count Unfilled in
    let m = settled_length text count in
    get_or-map needs (marked_by text (replicate count Unfilled)) k Unfilled false (omega (arith, l, m))
    ∙ text_needs text (replicate count Unfilled) k Unfilled (omega (arith, l, n))
    ∙ ap (λ (st : Standing). needs_by st (list_any (gives_at k) text) (list_any (unsettles k) text)) (get_or-replicate count k Unfilled Unfilled l)
