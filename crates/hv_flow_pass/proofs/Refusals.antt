-- What a plan finds is the first of all that its flow refuses.
use Rattle.std.proofs.Common.{◌≡◌, ◌⊎◌, inl, inr, ℕ, zero, suc, ◌+◌, ◌<◌, ◌≤◌, max, nat_le, nat_lt, Bool, true, false, ◌&&◌, if◌then◌else◌, List, [], ◌∷◌, ◌++◌, replicate, Option, Some, None, refl, sym, ◌∙◌, ap, subst, arith}
use Rattle.std.proofs.lemmas.Bool.Decides.{nat_tests}
use Rattle.hv_tree.specs.declared.refusal.Refusal.{Refusal}
use Rattle.hv_rules.specs.Flow.{Flow, Skip, Do, Stop, Then, Either, Loop}
use Rattle.hv_tree.specs.Earlier.{IsFirst}
use Rattle.hv_flow_versions.specs.declared.cell.Cell.{Cell}
use Rattle.hv_flow_pass.specs.declared.act.Act.{Act}
use Rattle.hv_flow_pass.specs.declared.act.Act.TheVariants as act
use Rattle.hv_flow_pass.specs.declared.plan.PassOp.{PassOp}
use Rattle.hv_flow_pass.specs.declared.plan.PassOp.TheVariants as op
use Rattle.hv_flow_pass.specs.declared.known.Known.{Known}
use Rattle.hv_flow_pass.specs.Plans.{plan_of}
use Rattle.hv_flow_pass.specs.Refused.{Values, start, after_act, after_acts, acts_in, Refuses, IsRefused}
use Rattle.hv_flow_pass.specs.Passes.{with_saved, passed, read_all, act_end, acts_end, op_end, plan_end, starting}
use Rattle.hv_flow_pass.proofs.Traces.{Hits, hit_traced, trace_hit}
use Rattle.hv_flow_pass.proofs.Seen.{inside, seen_after, event_after, run, Always, RaisedBy, Raised}
use Rattle.hv_flow_pass.proofs.Firsts.{same_first}
use Rattle.hv_flow_pass.proofs.Exactness.{May, never}
use Rattle.hv_flow_pass.proofs.Collects.{Raises, collects}
use Rattle.hv_flow_pass.proofs.Reading.{read_plan}

-- ---- ranges

inside_of : (from count i : ℕ) → inside from count i ≡ true → (from ≤ i) × (i < from + count)
inside_of (suc from) count zero h = never h
inside_of (suc from) count (suc i) h = let p = inside_of from count i h in (omega (arith, p.0), omega (arith, p.1))
inside_of zero zero i h = never h
inside_of zero (suc count) zero h = (omega arith, omega arith)
inside_of zero (suc count) (suc i) h = let p = inside_of zero count i h in (omega arith, omega (arith, p.1))

inside_to : (from count i : ℕ) → inside from count i ≡ false → from ≤ i → i < from + count → ⊥
inside_to (suc from) count zero h g k = absurd (omega (arith, g))
inside_to (suc from) count (suc i) h g k = inside_to from count i h (omega (arith, g)) (omega (arith, k))
inside_to zero zero i h g k = absurd (omega (arith, k))
inside_to zero (suc count) zero h g k = never (sym h)
inside_to zero (suc count) (suc i) h g k = inside_to zero count i h (omega arith) (omega (arith, k))

covered : (from count i : ℕ) → (nat_le from i && nat_lt i (from + count)) ≡ inside from count i
covered from count i = by (inside from count i) refl
  where
    by : (b : Bool) → inside from count i ≡ b → (nat_le from i && nat_lt i (from + count)) ≡ b
    by true e = let p = inside_of from count i e in let q = p.0 in let r = p.1 in grind (arith, nat_tests)
    by false e = other (nat_le from i) (nat_lt i (from + count)) refl refl
      where
        other : (a b : Bool) → nat_le from i ≡ a → nat_lt i (from + count) ≡ b → (a && b) ≡ false
        other true true g h = absurd (inside_to from count i e (grind (arith, nat_tests)) (grind (arith, nat_tests)))
        other true false g h = refl
        other false b g h = refl

-- ---- the values of all cells, and what is seen of one

if_some : (b value v : Bool) → (if b then Some value else Some v) ≡ Some (if b then value else v)
if_some true value v = refl
if_some false value v = refl

act_seen : (i : ℕ) (a : Act) (vs : Values) → seen_after i a (Some (vs i)) ≡ Some (after_act a vs i)
act_seen i (act.Set range value) vs = if_some (inside range.from range.count i) value (vs i) ∙ ap (λ (b : Bool). Some (if b then value else vs i)) (sym (covered range.from range.count i))
act_seen i (act.Refuse range value r) vs = refl

event_seen : (i : ℕ) (acts : List Act) (vs : Values) → event_after i acts (Some (vs i)) ≡ Some (after_acts acts vs i)
event_seen i [] vs = refl
event_seen i (a ∷ acts) vs = ap (event_after i acts) (act_seen i a vs) ∙ event_seen i acts (after_act a vs)

after_acts-append : (xs ys : List Act) (vs : Values) → after_acts (xs ++ ys) vs ≡ after_acts ys (after_acts xs vs)
after_acts-append [] ys vs = refl
after_acts-append (a ∷ xs) ys vs = after_acts-append xs ys (after_act a vs)

run_seen : (i : ℕ) (es : List (List Act)) (vs : Values) → run i es (Some (vs i)) ≡ Some (after_acts (acts_in es) vs i)
run_seen i [] vs = refl
run_seen i (e ∷ es) vs = ap (run i es) (event_seen i e vs) ∙ (run_seen i es (after_acts e vs) ∙ ap (λ (w : Values). Some (w i)) (sym (after_acts-append e (acts_in es) vs)))

-- ---- an act of an event

record RaisedAt (i : ℕ) (vs : Values) (acts : List Act) (r : Refusal) : Type 0 where
  pub before : List Act
  pub last : Act
  pub rest : List Act
  pub split : acts ≡ before ++ last ∷ rest
  pub raised : RaisedBy i (Some (after_acts before vs i)) last Always r

raised_at : (i : ℕ) (vs : Values) (acts : List Act) (r : Refusal) → Raised i (Some (vs i)) acts Always r → RaisedAt i vs acts r
raised_at i vs [] r h = absurd h
raised_at i vs (a ∷ acts) r (inl h) = record { before = []; last = a; rest = acts; split = refl; raised = h }
raised_at i vs (a ∷ acts) r (inr h) =
    let p = raised_at i (after_act a vs) acts r (subst (λ (q : Option Bool). Raised i q acts Always r) (act_seen i a vs) h) in
    record { before = a ∷ p.before; last = p.last; rest = p.rest; split = ap (λ (w : List Act). a ∷ w) p.split; raised = p.raised }

raised_from : (i : ℕ) (vs : Values) (before : List Act) (last : Act) (rest : List Act) (r : Refusal) → RaisedBy i (Some (after_acts before vs i)) last Always r → Raised i (Some (vs i)) (before ++ last ∷ rest) Always r
raised_from i vs [] last rest r h = inl h
raised_from i vs (a ∷ before) last rest r h = inr (subst (λ (q : Option Bool). Raised i q (before ++ last ∷ rest) Always r) (sym (act_seen i a vs)) (raised_from i (after_act a vs) before last rest r h))

refuses_of : (i : ℕ) (vs : Values) (a : Act) (r : Refusal) → RaisedBy i (Some (vs i)) a Always r → Refuses vs a r
refuses_of i vs (act.Set range value) r h = h
refuses_of i vs (act.Refuse range value t) r h = (h.2, (i, covered range.from range.count i ∙ h.0, h.1))

raised_for : (vs : Values) (a : Act) (r : Refusal) → Refuses vs a r → (i : ℕ) × (i < act_end a) × RaisedBy i (Some (vs i)) a Always r
raised_for vs (act.Set range value) r h = absurd h
raised_for vs (act.Refuse range value t) r h =
    let e = sym (covered range.from range.count h.1.0) ∙ h.1.1 in
    (h.1.0, (inside_of range.from range.count h.1.0 e).1, (e, h.1.2, h.0))

-- ---- the number of cells

acts_end_up : (n : ℕ) (acts : List Act) → n ≤ acts_end n acts
acts_end_up n [] = omega arith
acts_end_up n (a ∷ acts) = let p = acts_end_up (max n (act_end a)) acts in omega (arith, p)

acts_end_in : (n : ℕ) (before : List Act) (last : Act) (rest : List Act) → act_end last ≤ acts_end n (before ++ last ∷ rest)
acts_end_in n [] last rest = let p = acts_end_up (max n (act_end last)) rest in omega (arith, p)
acts_end_in n (a ∷ before) last rest = acts_end_in (max n (act_end a)) before last rest

op_end_up : (n : ℕ) (o : PassOp) → n ≤ op_end n o
op_end_up n op.Skip = omega arith
op_end_up n (op.Do acts) = acts_end_up n acts
op_end_up n (op.Stop acts) = acts_end_up n acts
op_end_up n op.Then = omega arith
op_end_up n op.Either = omega arith
op_end_up n op.Loop = omega arith

plan_end_up : (n : ℕ) (os : List PassOp) → n ≤ plan_end n os
plan_end_up n [] = omega arith
plan_end_up n (o ∷ os) = omega (arith, op_end_up n o, plan_end_up (op_end n o) os)

plan_end-append : (n : ℕ) (xs ys : List PassOp) → plan_end n (xs ++ ys) ≡ plan_end (plan_end n xs) ys
plan_end-append n [] ys = refl
plan_end-append n (o ∷ xs) ys = plan_end-append (op_end n o) xs ys

in_both : (n m : ℕ) (xs ys : List PassOp) → m ≤ plan_end n xs → m ≤ plan_end n (xs ++ ys)
in_both n m xs ys h = omega (arith, h, plan_end_up (plan_end n xs) ys, plan_end-append n xs ys)

-- an event that a run comes to counts
hit_end : (f : Flow (List Act)) (n : ℕ) (es : List (List Act)) (e : List Act) → Hits f es e → (m : ℕ) × (acts_end m e ≤ plan_end n (plan_of f))
hit_end Skip n es e h = absurd h
hit_end (Do acts) n es e h = (n, subst (λ (w : List Act). acts_end n w ≤ acts_end n acts) (sym h.1) (omega arith))
hit_end (Stop acts) n es e h = (n, subst (λ (w : List Act). acts_end n w ≤ acts_end n acts) (sym h.1) (omega arith))
hit_end (Then a b) n es e (inl h) = let p = hit_end a n es e h in (p.0, in_both n (acts_end p.0 e) (plan_of a) (plan_of b) p.1)
hit_end (Then a b) n es e (inr (xs, ys, t, h, q)) = let p = hit_end b (plan_end n (plan_of a)) ys e h in (p.0, omega (arith, p.1, plan_end-append n (plan_of a) (plan_of b)))
hit_end (Either a b) n es e (inl h) = let p = hit_end a n es e h in (p.0, in_both n (acts_end p.0 e) (plan_of a) (plan_of b) p.1)
hit_end (Either a b) n es e (inr h) = let p = hit_end b (plan_end n (plan_of a)) es e h in (p.0, omega (arith, p.1, plan_end-append n (plan_of a) (plan_of b)))
hit_end (Loop a) n es e (xs, ys, t, h, q) = hit_end a n ys e h

-- ---- the beginning

abbrev a_no : Cell
a_no = record { kept = false; no = true; yes = false }

start_of : (n i : ℕ) (q : Option Bool) → May (replicate n a_no) i q → q ≡ Some false
start_of zero i q h = never h
start_of (suc n) zero None h = never h
start_of (suc n) zero (Some true) h = never h
start_of (suc n) zero (Some false) h = refl
start_of (suc n) (suc i) q h = start_of n i q h

start_to : (n i : ℕ) → i < n → May (replicate n a_no) i (Some false)
start_to zero i h = absurd (omega (arith, h))
start_to (suc n) zero h = refl
start_to (suc n) (suc i) h = start_to n i (omega (arith, h))

-- ---- both together

refused_by : (f : Flow (List Act)) (n : ℕ) (r : Refusal) → Raises f (starting n).cells Always r → IsRefused f r
refused_by f n r v =
    let e = subst (λ (q : Option Bool). Raised v.i (run v.i v.es q) v.e Always r) (start_of n v.i v.q v.before) v.raised in
    let p = raised_at v.i (after_acts (acts_in v.es) start) v.e r (subst (λ (q : Option Bool). Raised v.i q v.e Always r) (run_seen v.i v.es start) e) in
    record {
      events = v.es;
      before = p.before;
      last = p.last;
      rest = p.rest;
      trace = hit_traced f v.es (p.before ++ p.last ∷ p.rest) (subst (λ (w : List Act). Hits f v.es w) p.split v.hits);
      refuses = subst (λ (w : Values). Refuses w p.last r) (sym (after_acts-append (acts_in v.es) p.before start)) (refuses_of v.i (after_acts p.before (after_acts (acts_in v.es) start)) p.last r p.raised);
    }

raises_by : (f : Flow (List Act)) (n : ℕ) (r : Refusal) → plan_end 0 (plan_of f) ≤ n → IsRefused f r → Raises f (starting n).cells Always r
raises_by f n r l v =
    let h = trace_hit f v.events (v.before ++ v.last ∷ v.rest) v.trace in
    let p = raised_for (after_acts v.before (after_acts (acts_in v.events) start)) v.last r (subst (λ (w : Values). Refuses w v.last r) (after_acts-append (acts_in v.events) v.before start) v.refuses) in
    let b = hit_end f 0 v.events (v.before ++ v.last ∷ v.rest) h in
    record {
      es = v.events;
      e = v.before ++ v.last ∷ v.rest;
      i = p.0;
      q = Some false;
      hits = h;
      before = start_to n p.0 (omega (arith, p.1, acts_end_in b.0 v.before v.last v.rest, b.1, l));
      raised = subst (λ (q : Option Bool). Raised p.0 q (v.before ++ v.last ∷ v.rest) Always r) (sym (run_seen p.0 v.events start)) (raised_from p.0 (after_acts (acts_in v.events) start) v.before v.last v.rest r p.2);
    }

first_of : (f : Flow (List Act)) (n : ℕ) → plan_end 0 (plan_of f) ≤ n → IsFirst (IsRefused f) (passed f (starting n)).found
first_of f n l = same_first _ _ _ (λ r p. to r p) (λ r p. inr (raises_by f n r l p)) (collects f (starting n) Always (λ r. ⊥) (λ r h. h))
  where
    to : (r : Refusal) → ⊥ ⊎ Raises f (starting n).cells Always r → IsRefused f r
    to r (inl p) = absurd p
    to r (inr p) = refused_by f n r p

pub first_of_plan : (plan : List PassOp) (f : Flow (List Act)) → plan ≡ plan_of f → IsFirst (IsRefused f) (read_all plan [] (with_saved [] (starting (plan_end 0 plan)))).found
first_of_plan plan f e =
    subst (λ (w : List PassOp). IsFirst (IsRefused f) (read_all w [] (with_saved [] (starting (plan_end 0 w)))).found) (sym e)
    (subst (λ (k : Known). IsFirst (IsRefused f) k.found) (sym (read_plan f (starting (plan_end 0 (plan_of f))))) (first_of f (plan_end 0 (plan_of f)) (omega arith)))
