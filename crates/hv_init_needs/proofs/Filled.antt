-- A local that no event empties has its value wherever it is in sight.
use Rattle.std.proofs.Common.{◌≡◌, inl, inr, ◌==◌, ℕ, nat_lt, Bool, true, false, not, ◌&&◌, ◌||◌, if◌then◌else◌, List, [], ◌∷◌, ◌++◌, map, Option, Some, None, refl, sym, ◌∙◌, ap, subst, arith}
use Rattle.std.specs.Prelude.{⊤}
use Rattle.std.specs.List.{list_any}
use Rattle.std.proofs.lemmas.Bool.Decides.{nat_tests}
use Rattle.hv_tree.specs.Core.{Core}
use Rattle.hv_decls.specs.declared.path.StaticStep.{StaticStep}
use Rattle.hv_decls.specs.declared.path.StaticPath.{StaticPath}
use Rattle.hv_rules.specs.declared.event.FlowEvent.{FlowEvent}
use Rattle.hv_rules.specs.declared.event.FlowEvent.TheVariants as event
use Rattle.hv_rules.specs.Flow.{Flow, Skip, Do, Stop, Then, Either, Loop, Turns, none, more, Ends, Leaves, IsWhole, IsTrace}
use Rattle.hv_decls.specs.Locals.{CoreBody}
use Rattle.hv_rules.specs.Events.{Belongs, Mark, body_events}
use Rattle.hv_rules.specs.States.{Leaf, fields_of, is_front, covers, changed, emptied, filled_by, filled_at_close, Mode, Reading, Writing, Setting, Access, last_called, binding_of, State, after_event, after, after_all, start, Filled}
use Rattle.hv_decls.specs.Paths.{has_index}
use Rattle.hv_rules.specs.Rules.{Trace}
use Rattle.hv_flow_traces.specs.Carried.{after_each}
use Rattle.hv_flow_traces.proofs.CarriedLemmas.{zipped, zipped-append, trace_zipped}
use Rattle.hv_init_needs.specs.Sight.{declared_before, with_value, sight_behind, sees, text_of, seen_at, seen_in}
use Rattle.hv_init_needs.specs.Needs.{is_in, takes_from, empties, asks_for, gives_at, unsettles, text_in, needs_state}
use Rattle.hv_init_needs.proofs.Each.{Each}
use Rattle.hv_init_needs.proofs.SightLevels.{body_level}
use Rattle.hv_lemmas.proofs.Bools.{or_neither}

-- ---- tests

one_of : (P : Type 0) (a b : Bool) → (a ≡ true → P) → (b ≡ true → P) → (a || b) ≡ true → P
one_of P true b f g e = f refl
one_of P false b f g e = g e

must_be : (a b : Bool) → (a && not b) ≡ false → a ≡ true → b ≡ true
must_be true true e h = refl
must_be true false e h = absurd (cc)
must_be false b e h = absurd (cc)

-- ---- the text of a flow

both_fail : {E F : Type 0} (test : F → Bool) (g : E → F) (xs ys : List E) → list_any test (map g (xs ++ ys)) ≡ false →
    (list_any test (map g xs) ≡ false) × (list_any test (map g ys) ≡ false)
both_fail test g [] ys e = (refl, e)
both_fail test g (x ∷ xs) ys e =
    let p = or_neither (test (g x)) (list_any test (map g (xs ++ ys))) e in
    let q = both_fail test g xs ys p.1 in
    (ap (λ b. b || list_any test (map g xs)) p.0 ∙ q.0, q.1)

-- where nothing in the text passes a test, no event of the flow does
pub text_each : {E F : Type 0} (test : F → Bool) (g : E → F) (f : Flow E) → list_any test (map g (text_of f)) ≡ false → Each (λ e. test (g e) ≡ false) f
text_each test g Skip e = tt
text_each test g (Do x) e = (or_neither (test (g x)) false e).0
text_each test g (Stop x) e = (or_neither (test (g x)) false e).0
text_each test g (Then a b) e = let p = both_fail test g (text_of a) (text_of b) e in (text_each test g a p.0, text_each test g b p.1)
text_each test g (Either a b) e = let p = both_fail test g (text_of a) (text_of b) e in (text_each test g a p.0, text_each test g b p.1)
text_each test g (Loop a) e = text_each test g a e

-- ---- the events of a trace

-- it holds of each event of the list
abbrev pub AllAre : {E : Type 0} → (E → Type 0) → List E → Type 0
AllAre Is [] = ⊤
AllAre Is (e ∷ es) = Is e × AllAre Is es

module _ {E : Type 0} (Is : E → Type 0) where
  all_both : (xs ys : List E) → AllAre Is xs → AllAre Is ys → AllAre Is (xs ++ ys)
  all_both [] ys p q = q
  all_both (x ∷ xs) ys p q = (p.0, all_both xs ys p.1 q)

  pub all_front : (xs ys : List E) → AllAre Is (xs ++ ys) → AllAre Is xs
  all_front [] ys p = tt
  all_front (x ∷ xs) ys p = (p.0, all_front xs ys p.1)

  pub all_last : (xs : List E) (e : E) → AllAre Is (xs ++ e ∷ []) → Is e
  all_last [] e p = p.0
  all_last (x ∷ xs) e p = all_last xs e p.1

  are_so : (es zs : List E) → es ≡ zs → AllAre Is zs → AllAre Is es
  are_so es zs q h = subst (λ ws. AllAre Is ws) (sym q) h

  turns_are : (Turn : List E → Type 0) → ((xs : List E) → Turn xs → AllAre Is xs) → (es : List E) → Turns Turn es → AllAre Is es
  turns_are Turn f es (none q) = are_so es [] q tt
  turns_are Turn f es (more xs ys t ts q) = are_so es (xs ++ ys) q (all_both xs ys (f xs t) (turns_are Turn f ys ts))

  ends_are : (f : Flow E) → Each Is f → (es : List E) → Ends f es → AllAre Is es
  ends_are Skip h es q = are_so es [] q tt
  ends_are (Do x) h es q = are_so es (x ∷ []) q (h, tt)
  ends_are (Stop x) h es q = absurd q
  ends_are (Then a b) h es (xs, ys, p, q, s) = are_so es (xs ++ ys) s (all_both xs ys (ends_are a h.0 xs p) (ends_are b h.1 ys q))
  ends_are (Either a b) h es (inl p) = ends_are a h.0 es p
  ends_are (Either a b) h es (inr p) = ends_are b h.1 es p
  ends_are (Loop a) h es t = turns_are (Ends a) (ends_are a h) es t

  leaves_are : (f : Flow E) → Each Is f → (es : List E) → Leaves f es → AllAre Is es
  leaves_are Skip h es q = absurd q
  leaves_are (Do x) h es q = absurd q
  leaves_are (Stop x) h es q = are_so es (x ∷ []) q (h, tt)
  leaves_are (Then a b) h es (inl p) = leaves_are a h.0 es p
  leaves_are (Then a b) h es (inr (xs, ys, p, q, s)) = are_so es (xs ++ ys) s (all_both xs ys (ends_are a h.0 xs p) (leaves_are b h.1 ys q))
  leaves_are (Either a b) h es (inl p) = leaves_are a h.0 es p
  leaves_are (Either a b) h es (inr p) = leaves_are b h.1 es p
  leaves_are (Loop a) h es (xs, ys, t, q, s) = are_so es (xs ++ ys) s (all_both xs ys (turns_are (Ends a) (ends_are a h) xs t) (leaves_are a h ys q))

  whole_are : (f : Flow E) → Each Is f → (es : List E) → IsWhole f es → AllAre Is es
  whole_are f h es (inl p) = ends_are f h es p
  whole_are f h es (inr p) = leaves_are f h es p

  -- what holds of each event of a flow holds of each event of its traces
  pub trace_are : (f : Flow E) → Each Is f → (es : List E) → IsTrace f es → AllAre Is es
  trace_are f h es (rest, w) = all_front es rest (whole_are f h (es ++ rest) w)

  pub trace_last : (f : Flow E) → Each Is f → (es : List E) (e : E) → IsTrace f (es ++ e ∷ []) → Is e
  trace_last f h es e t = all_last es e (trace_are f h (es ++ e ∷ []) t)

-- ---- leaves

stays_filled : (t b : Bool) → b ≡ true → (if t then true else b) ≡ true
stays_filled true b e = refl
stays_filled false b e = e

-- what fills a place leaves the others as they are
filled_more : (p : StaticPath) (filled : Leaf → Bool) (l : Leaf) → filled l ≡ true → changed p true filled l ≡ true
filled_more p filled l e = stays_filled (covers p l && not (has_index p.steps)) (filled l) e

-- what empties another local, or a place behind an index, leaves this one
not_taken : (a b c t : Bool) → (a && c) ≡ false → t ≡ true → (if (a && b) && c then false else t) ≡ true
not_taken false b c t e h = h
not_taken true false c t e h = h
not_taken true true false t e h = h
not_taken true true true t e h = absurd (cc)

filled_still : (p : StaticPath) (filled : Leaf → Bool) (k : ℕ) (fs : List ℕ) → takes_from p k ≡ false → filled (record { root = k; fields = fs }) ≡ true →
    changed p false filled (record { root = k; fields = fs }) ≡ true
filled_still p filled k fs e h = not_taken (p.root == k) (is_front (fields_of p.steps) fs) (not (has_index p.steps)) (filled (record { root = k; fields = fs })) e h

by_close : (p : StaticPath) (m : Mode) (filled : Leaf → Bool) (l : Leaf) → filled l ≡ true → filled_by p m filled l ≡ true
by_close p Reading filled l e = e
by_close p Writing filled l e = e
by_close p Setting filled l e = filled_more p filled l e

at_close : (o : Option Access) (filled : Leaf → Bool) (l : Leaf) → filled l ≡ true → filled_at_close o filled l ≡ true
at_close None filled l e = e
at_close (Some a) filled l e = by_close a.path a.mode filled l e

-- ---- what is in sight

-- what was declared before and is in sight was so
before_in : (n k : ℕ) (ks : List ℕ) → is_in (declared_before n ks) k ≡ true → (nat_lt k n ≡ true) × (is_in ks k ≡ true)
before_in n k [] e = absurd (cc)
before_in n k (j ∷ ks) e = by (before_in n k ks) (nat_lt j n) refl e
  where
    first : nat_lt j n ≡ true → (j == k) ≡ true → nat_lt k n ≡ true
    first h g = grind (arith, nat_tests)

    or_true : (a : Bool) → (a || true) ≡ true
    or_true true = refl
    or_true false = refl

    later : (nat_lt k n ≡ true) × (is_in ks k ≡ true) → (nat_lt k n ≡ true) × (is_in (j ∷ ks) k ≡ true)
    later p = (p.0, ap (λ b. (j == k) || b) p.1 ∙ or_true (j == k))

    by : (is_in (declared_before n ks) k ≡ true → (nat_lt k n ≡ true) × (is_in ks k ≡ true)) → (t : Bool) → nat_lt j n ≡ t → is_in (if t then j ∷ declared_before n ks else declared_before n ks) k ≡ true → (nat_lt k n ≡ true) × (is_in (j ∷ ks) k ≡ true)
    by so true h g =
        one_of ((nat_lt k n ≡ true) × (is_in (j ∷ ks) k ≡ true)) (j == k) (is_in (declared_before n ks) k)
        (λ q. (first h q, ap (λ b. b || is_in ks k) q)) (λ q. later (so q)) g
    by so false h g = later (so g)

isn't_declared : (n k : ℕ) → nat_lt k n ≡ true → (n == k) ≡ false
isn't_declared n k h = grind (arith, nat_tests)

-- the local has all its value where it is in sight
abbrev pub HasValue : ℕ → (Leaf → Bool) → List ℕ → Type 0
HasValue k filled ks = (fs : List ℕ) → is_in ks k ≡ true → filled (record { root = k; fields = fs }) ≡ true

value_before : (k n : ℕ) (filled : Leaf → Bool) (ks : List ℕ) → HasValue k filled ks → HasValue k filled (declared_before n ks)
value_before k n filled ks h fs e = h fs (before_in n k ks e).1

value_declared : (k n : ℕ) (filled : Leaf → Bool) (ks : List ℕ) → HasValue k filled ks → HasValue k (emptied n filled) (declared_before n ks)
value_declared k n filled ks h fs e =
    by (n == k) (isn't_declared n k (before_in n k ks e).0) (filled (record { root = k; fields = fs })) (h fs (before_in n k ks e).1)
  where
    by : (t : Bool) → t ≡ false → (b : Bool) → b ≡ true → (if t then false else b) ≡ true
    by true q b g = absurd (cc)
    by false q b g = g

value_more : (k : ℕ) (p : StaticPath) (filled : Leaf → Bool) (ks : List ℕ) → HasValue k filled ks → HasValue k (changed p true filled) ks
value_more k p filled ks h fs e = filled_more p filled (record { root = k; fields = fs }) (h fs e)

value_given : (k r : ℕ) (steps : List StaticStep) (o : Option ℕ) (filled : Leaf → Bool) (ks : List ℕ) → HasValue k filled ks →
    HasValue k (changed (record { root = r; steps = steps }) true filled) (with_value o (record { root = r; steps = steps }) ks)
value_given k r steps None filled ks h = value_more k (record { root = r; steps = steps }) filled ks h
value_given k r (s ∷ steps) (Some n) filled ks h = value_more k (record { root = r; steps = s ∷ steps }) filled ks h
value_given k r [] (Some n) filled ks h = λ fs e.
    one_of (changed (record { root = r; steps = [] }) true filled (record { root = k; fields = fs }) ≡ true) (r == k) (is_in (declared_before r ks) k)
    (λ q. all_given (r == k) (filled (record { root = k; fields = fs })) q)
    (λ q. filled_more (record { root = r; steps = [] }) filled (record { root = k; fields = fs }) (h fs (before_in r k ks q).1)) e
  where
    all_given : (t b : Bool) → t ≡ true → (if (t && true) && true then true else b) ≡ true
    all_given true b e = refl
    all_given false b e = absurd (cc)

value_behind : (k : ℕ) (e : FlowEvent) (of : Belongs) (s : State) (ks : List ℕ) → empties e k ≡ false → HasValue k s.filled ks →
    HasValue k (after_event e of s).filled (sight_behind e (binding_of of) ks)
value_behind k event.Entry of s ks e h = h
value_behind k (event.Declare n) of s ks e h = value_declared k n s.filled ks h
value_behind k (event.Init p) of s ks e h = value_given k p.root p.steps (binding_of of) s.filled ks h
value_behind k (event.Use p) of s ks e h = h
value_behind k (event.Move p) of s ks e h = λ fs q. filled_still p s.filled k fs e (h fs q)
value_behind k (event.OpenRead p) of s ks e h = h
value_behind k (event.OpenWrite p) of s ks e h = h
value_behind k (event.OpenSet p) of s ks e h = λ fs q. filled_still p s.filled k fs e (h fs q)
value_behind k event.Close of s ks e h = λ fs q. at_close (last_called s.accesses) s.filled (record { root = k; fields = fs }) (h fs q)
value_behind k (event.Spawn t) of s ks e h = h
value_behind k (event.Await t) of s ks e h = h
value_behind k event.Return of s ks e h = h
value_behind k (event.ScopeEnd n) of s ks e h = value_before k n s.filled ks h

-- the event doesn't empty the local
abbrev pub NotEmptied : ℕ → Mark → Type 0
NotEmptied k m = empties m.event k ≡ false

value_after : (k : ℕ) (ms : List Mark) (s : State) (ks : List ℕ) → AllAre (NotEmptied k) ms → HasValue k s.filled ks → HasValue k (after_all ms s).filled (after_each sees ms ks)
value_after k [] s ks a h = h
value_after k (m ∷ ms) s ks a h = value_after k ms (after m s) (sees m ks) a.1 (value_behind k m.event m.belongs s ks a.0 h)

-- what no event empties has its value wherever it is in sight
pub sight_is_filled : (k : ℕ) (ms : List Mark) → AllAre (NotEmptied k) ms → (fs : List ℕ) → is_in (after_each sees ms []) k ≡ true → Filled ms (record { root = k; fields = fs }) ≡ true
sight_is_filled k ms a = value_after k ms start [] a (λ fs e. absurd (cc))

-- ---- the traces of a body

module _ (tree : Core) (body : CoreBody) (k : ℕ) (settled : needs_state tree body k ≡ false) where
  each_quiet : Each (λ p. unsettles k (seen_at p) ≡ false) (seen_in tree body)
  each_quiet = text_each (unsettles k) seen_at (seen_in tree body) (or_neither (not (list_any (gives_at k) (text_in tree body))) (list_any (unsettles k) (text_in tree body)) settled).1

  all_quiet : (ms : List Mark) → Trace tree body ms → AllAre (λ p. unsettles k (seen_at p) ≡ false) (zipped sees ms [])
  all_quiet ms t =
      trace_are (λ p. unsettles k (seen_at p) ≡ false) (seen_in tree body) each_quiet (zipped sees ms [])
      (trace_zipped sees (body_events tree body) [] (body_level tree body) ms t)

  unemptied : (ms : List Mark) (ks : List ℕ) → AllAre (λ p. unsettles k (seen_at p) ≡ false) (zipped sees ms ks) → AllAre (NotEmptied k) ms
  unemptied [] ks a = tt
  unemptied (m ∷ ms) ks a = ((or_neither (empties m.event k) (asks_for m.event k && not (is_in ks k)) a.0).0, unemptied ms (sees m ks) a.1)

  ended : (before : List Mark) (last : Mark) → Trace tree body (before ++ last ∷ []) → AllAre (λ p. unsettles k (seen_at p) ≡ false) (zipped sees before [] ++ (last, after_each sees before []) ∷ [])
  ended before last t = subst (λ w. AllAre (λ p. unsettles k (seen_at p) ≡ false) w) (zipped-append sees before (last ∷ []) []) (all_quiet (before ++ last ∷ []) t)

  -- a local that needs no state has its value at each event that finds it in sight
  pub back_asked_is_filled : (before : List Mark) (last : Mark) → Trace tree body (before ++ last ∷ []) → is_in (after_each sees before []) k ≡ true → (fields : List ℕ) → Filled before (record { root = k; fields = fields }) ≡ true
  back_asked_is_filled before last t i fields =
      sight_is_filled k before
      (unemptied before [] (all_front (λ p. unsettles k (seen_at p) ≡ false) (zipped sees before []) ((last, after_each sees before []) ∷ []) (ended before last t)))
      fields i

  -- and at each event that asks for it
  pub path_asked_is_filled : (before : List Mark) (last : Mark) → Trace tree body (before ++ last ∷ []) → asks_for last.event k ≡ true → (fields : List ℕ) → Filled before (record { root = k; fields = fields }) ≡ true
  path_asked_is_filled before last t asks fields = back_asked_is_filled before last t in_sight fields
    where
      quiet : unsettles k (seen_at (last, after_each sees before [])) ≡ false
      quiet = all_last (λ p. unsettles k (seen_at p) ≡ false) (zipped sees before []) (last, after_each sees before []) (ended before last t)

      in_sight : is_in (after_each sees before []) k ≡ true
      in_sight = must_be (asks_for last.event k) (is_in (after_each sees before []) k) (or_neither (empties last.event k) (asks_for last.event k && not (is_in (after_each sees before []) k)) quiet).1 asks
