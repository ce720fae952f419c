-- Where a way with evaluated indices leads.
use Rattle.std.proofs.Common.{◌≡◌, ◌≢◌, ◌<◌, ◌≤◌, ℕ, zero, suc, ℤ, pos, negsuc, Bool, true, false, if◌then◌else◌, true≢false, List, [], ◌∷◌, ◌++◌, Option, Some, None, option_map, option_and_then, ◌⊎◌, inl, inr, arith, refl, sym, ap, ◌∙◌, subst}
use Rattle.hv_value.specs.declared.value.PathStep.{PathStep}
use Rattle.hv_value.specs.declared.value.PathStep.TheVariants.{Field, At}
use Rattle.hv_value.specs.ValueTree.{ValueTree, Hole, Number, Truth, Fields, Elements, Closure, Parts, Nil, Cons}
use Rattle.hv_value.specs.Places.{Path, nth, change_nth, part, change_part, get, put}
use Rattle.hv_value.specs.Operators.{count}
use Rattle.hv_value.specs.Walk.{Link, ToField, ToIndex, Reached, Reaches, Outside, Lost, after_step, onward, step_on, walk, leads, parts_from}
use Rattle.hv_value.proofs.EqualityLaws.{eqb-same}
use Rattle.hv_value.proofs.PartLaws.{part-same, part-other}

-- ---- numbers of parts

-- a number is in range exactly where there is such a part
pub nth_within : (ts : Parts) (k : ℕ) (c : ValueTree) → nth ts k ≡ Some c → k < count ts
nth_within Nil k c h = cc
nth_within (Cons t ts) zero c h = omega arith
nth_within (Cons t ts) (suc k) c h = omega (arith, nth_within ts k c h)

pub nth_past : (ts : Parts) (k : ℕ) → nth ts k ≡ None → count ts ≤ k
nth_past Nil k h = omega arith
nth_past (Cons t ts) zero h = cc
nth_past (Cons t ts) (suc k) h = omega (arith, nth_past ts k h)

pub nth-past : (ts : Parts) (k : ℕ) → count ts ≤ k → nth ts k ≡ None
nth-past Nil k h = refl
nth-past (Cons t ts) zero h = absurd (omega arith)
nth-past (Cons t ts) (suc k) h = nth-past ts k (omega arith)

-- ---- one step on

-- a way that goes on through a part
record GoesOn {A : Type 0} (go : ValueTree → Reached A) (s : PathStep) (o : Option ValueTree) (p : Path) (u : ValueTree) : Type 0 where
  between : ValueTree
  rest : Path
  there : o ≡ Some between
  on : go between ≡ Reaches rest u
  joined : p ≡ s ∷ rest

goes_on : {A : Type 0} (go : ValueTree → Reached A) (s : PathStep) (other : Reached A) (o : Option ValueTree) (p : Path) (u : ValueTree) → ((q : Path) → other ≢ Reaches q u) → onward go s other o ≡ Reaches p u → GoesOn go s o p u
goes_on go s other None p u never h = absurd (never p h)
goes_on {A = A} go s other (Some c) p u never h = at (go c) refl h
  where
    at : (r : Reached A) → go c ≡ r → after_step s r ≡ Reaches p u → GoesOn go s (Some c) p u
    at (Reaches q w) e k =
        let path : s ∷ q ≡ p = grind (arith, k) in
        let place : w ≡ u = grind (arith, k) in
        record { between = c; rest = q; there = refl; on = e ∙ ap (Reaches q) place; joined = sym path }
    at (Outside a) e k = cc
    at Lost e k = cc

-- ---- where a way leads

-- the path that a way gives leads to the same place
pub get_walk : {A : Type 0} (ls : List (Link A)) (t : ValueTree) (p : Path) (u : ValueTree) → walk ls t ≡ Reaches p u → get t p ≡ Some u
get_walk [] t p u h =
    let path : [] ≡ p = grind (arith, h) in
    let place : t ≡ u = grind (arith, h) in
    ap (get t) (sym path) ∙ ap Some place
get_walk {A = A} (l ∷ ls) t p u h = go l t (get_walk ls) h
  where
    led : (t : ValueTree) (s : PathStep) (other : Reached A) → ((q : Path) → other ≢ Reaches q u) → ((t : ValueTree) (p : Path) (u : ValueTree) → walk ls t ≡ Reaches p u → get t p ≡ Some u) → onward (walk ls) s other (part t s) ≡ Reaches p u → get t p ≡ Some u
    led t s other never ih h =
        let found : GoesOn (walk ls) s (part t s) p u = goes_on (walk ls) s other (part t s) p u never h in
        ap (get t) found.joined ∙ ap (option_and_then (λ c. get c found.rest)) found.there ∙ ih found.between found.rest u found.on

    go : (l : Link A) (t : ValueTree) → ((t : ValueTree) (p : Path) (u : ValueTree) → walk ls t ≡ Reaches p u → get t p ≡ Some u) → step_on (walk ls) l t ≡ Reaches p u → get t p ≡ Some u
    go (ToField k) (Fields ts) ih h = led (Fields ts) (Field k) Lost (λ q e. cc) ih h
    go (ToIndex (pos k) a) (Elements ts) ih h = led (Elements ts) (At k) (Outside a) (λ q e. cc) ih h
    go (ToIndex (negsuc k) a) (Elements ts) ih h = cc
    go _ _ ih h = cc

-- ---- one way after another

-- what a way gives that goes on from a path
abbrev pub from_path : {A : Type 0} → Path → Reached A → Reached A
from_path p (Reaches q u) = Reaches (p ++ q) u
from_path p (Outside a) = Outside a
from_path p Lost = Lost

abbrev pub resume : {A : Type 0} → Reached A → (ValueTree → Reached A) → Reached A
resume (Reaches p u) go = from_path p (go u)
resume (Outside a) go = Outside a
resume Lost go = Lost

from_empty : {A : Type 0} (r : Reached A) → r ≡ from_path [] r
from_empty (Reaches p u) = refl
from_empty (Outside a) = refl
from_empty Lost = refl

after_from : {A : Type 0} (s : PathStep) (p : Path) (r : Reached A) → after_step s (from_path p r) ≡ from_path (s ∷ p) r
after_from s p (Reaches q u) = refl
after_from s p (Outside a) = refl
after_from s p Lost = refl

after_resume : {A : Type 0} (s : PathStep) (r : Reached A) (go : ValueTree → Reached A) → after_step s (resume r go) ≡ resume (after_step s r) go
after_resume s (Reaches p u) go = after_from s p (go u)
after_resume s (Outside a) go = refl
after_resume s Lost go = refl

on_resume : {A : Type 0} (whole front : ValueTree → Reached A) (back : ValueTree → Reached A) (s : PathStep) (other : Reached A) (o : Option ValueTree) → ((c : ValueTree) → whole c ≡ resume (front c) back) → other ≡ resume other back → onward whole s other o ≡ resume (onward front s other o) back
on_resume whole front back s other None ih e = e
on_resume whole front back s other (Some c) ih e = ap (after_step s) (ih c) ∙ after_resume s (front c) back

-- a way in two pieces goes on from where the first leads
pub walk-append : {A : Type 0} (ls ms : List (Link A)) (t : ValueTree) → walk (ls ++ ms) t ≡ resume (walk ls t) (walk ms)
walk-append [] ms t = from_empty (walk ms t)
walk-append {A = A} (l ∷ ls) ms t = go l t (walk-append ls ms)
  where
    go : (l : Link A) (t : ValueTree) → ((c : ValueTree) → walk (ls ++ ms) c ≡ resume (walk ls c) (walk ms)) → step_on (walk (ls ++ ms)) l t ≡ resume (step_on (walk ls) l t) (walk ms)
    go (ToField k) (Fields ts) ih = on_resume (walk (ls ++ ms)) (walk ls) (walk ms) (Field k) Lost (nth ts k) ih refl
    go (ToIndex (pos k) a) (Elements ts) ih = on_resume (walk (ls ++ ms)) (walk ls) (walk ms) (At k) (Outside a) (nth ts k) ih refl
    go (ToIndex (negsuc k) a) (Elements ts) ih = refl
    go (ToField k) _ ih = refl
    go (ToIndex (pos k) a) _ ih = refl
    go (ToIndex (negsuc k) a) _ ih = refl

-- ---- the first index out of range

-- less than 0 or not below the length
abbrev pub IsOutOf : Parts → ℤ → Type 0
IsOutOf ts (pos k) = count ts ≤ k
IsOutOf ts (negsuc k) = Unit {0}

-- the steps before an index lead to an array, and the index is out of its range
pub record StopsAt {A : Type 0} (ls : List (Link A)) (t : ValueTree) (a : A) : Type 0 where
  pub front : List (Link A)
  pub index : ℤ
  pub back : List (Link A)
  pub path : Path
  pub elements : Parts
  pub whole : ls ≡ front ++ ToIndex index a ∷ back
  pub before : walk front t ≡ Reaches path (Elements elements)
  pub out : IsOutOf elements index

stops_here : {A : Type 0} (z : ℤ) (a : A) (ts : Parts) (back : List (Link A)) → IsOutOf ts z → walk (ToIndex z a ∷ back) (Elements ts) ≡ Outside a
stops_here (pos k) a ts back h = rw (nth-past ts k h) refl
stops_here (negsuc k) a ts back h = refl

-- such an index is the answer
pub walk_stops : {A : Type 0} (ls : List (Link A)) (t : ValueTree) (a : A) → StopsAt ls t a → walk ls t ≡ Outside a
walk_stops ls t a s =
    ap (λ x. walk x t) s.whole
    ∙ walk-append s.front (ToIndex s.index a ∷ s.back) t
    ∙ ap (λ r. resume r (walk (ToIndex s.index a ∷ s.back))) s.before
    ∙ ap (from_path s.path) (stops_here s.index a s.elements s.back s.out)

stops_later : {A : Type 0} (l : Link A) (ls : List (Link A)) (t c : ValueTree) (s : PathStep) (a : A) → ((qs : List (Link A)) → walk (l ∷ qs) t ≡ after_step s (walk qs c)) → StopsAt ls c a → StopsAt (l ∷ ls) t a
stops_later l ls t c s a step stop = record {
  front = l ∷ stop.front;
  index = stop.index;
  back = stop.back;
  path = s ∷ stop.path;
  elements = stop.elements;
  whole = ap (λ x. l ∷ x) stop.whole;
  before = step stop.front ∙ ap (after_step s) stop.before;
  out = stop.out;
}

after_outside : {A : Type 0} (s : PathStep) (r : Reached A) (a : A) → after_step s r ≡ Outside a → r ≡ Outside a
after_outside s (Reaches p u) a h = cc
after_outside s (Outside b) a h = h
after_outside s Lost a h = cc

-- and the answer is such an index
pub stops_walk : {A : Type 0} (ls : List (Link A)) (t : ValueTree) (a : A) → walk ls t ≡ Outside a → StopsAt ls t a
stops_walk [] t a h = cc
stops_walk {A = A} (l ∷ ls) t a h = go l t (stops_walk ls) h
  where
    here : (z : ℤ) (b : A) (ts : Parts) → IsOutOf ts z → b ≡ a → StopsAt (ToIndex z b ∷ ls) (Elements ts) a
    here z b ts out e = record { front = []; index = z; back = ls; path = []; elements = ts; whole = ap (λ x. ToIndex z x ∷ ls) e; before = refl; out = out }

    field : (k : ℕ) (ts : Parts) (o : Option ValueTree) → nth ts k ≡ o → ((t : ValueTree) (a : A) → walk ls t ≡ Outside a → StopsAt ls t a) → onward (walk ls) (Field k) Lost o ≡ Outside a → StopsAt (ToField k ∷ ls) (Fields ts) a
    field k ts None e ih h = cc
    field k ts (Some c) e ih h = stops_later (ToField k) ls (Fields ts) c (Field k) a (λ qs. ap (onward (walk qs) (Field k) Lost) e) (ih c a (after_outside (Field k) (walk ls c) a h))

    element : (k : ℕ) (b : A) (ts : Parts) (o : Option ValueTree) → nth ts k ≡ o → ((t : ValueTree) (a : A) → walk ls t ≡ Outside a → StopsAt ls t a) → onward (walk ls) (At k) (Outside b) o ≡ Outside a → StopsAt (ToIndex (pos k) b ∷ ls) (Elements ts) a
    element k b ts None e ih h = let same : b ≡ a = grind (arith, h) in here (pos k) b ts (nth_past ts k e) same
    element k b ts (Some c) e ih h = stops_later (ToIndex (pos k) b) ls (Elements ts) c (At k) a (λ qs. ap (onward (walk qs) (At k) (Outside b)) e) (ih c a (after_outside (At k) (walk ls c) a h))

    go : (l : Link A) (t : ValueTree) → ((t : ValueTree) (a : A) → walk ls t ≡ Outside a → StopsAt ls t a) → step_on (walk ls) l t ≡ Outside a → StopsAt (l ∷ ls) t a
    go (ToField k) (Fields ts) ih h = field k ts (nth ts k) refl ih h
    go (ToIndex (pos k) b) (Elements ts) ih h = element k b ts (nth ts k) refl ih h
    go (ToIndex (negsuc k) b) (Elements ts) ih h = let same : b ≡ a = grind (arith, h) in here (negsuc k) b ts tt same
    go _ _ ih h = cc

-- ---- a way and writes

same_on : {A : Type 0} (f g : ValueTree → Reached A) (h : ValueTree → ValueTree) (s : PathStep) (other : Reached A) (o : Option ValueTree) → ((c : ValueTree) → f (h c) ≡ g c) → onward f s other (option_map h o) ≡ onward g s other o
same_on f g h s other None ih = refl
same_on f g h s other (Some c) ih = ap (after_step s) (ih c)

-- what a change of one part is to a way: it doesn't go there, or sees no difference there
abbrev Unseen : {A : Type 0} → (ValueTree → Reached A) → PathStep → Link A → (ValueTree → ValueTree) → Type 0
Unseen go s l f = (leads s l ≡ false) ⊎ ((leads s l ≡ true) × ((c : ValueTree) → go (f c) ≡ go c))

step_unseen : {A : Type 0} (go : ValueTree → Reached A) (s : PathStep) (l : Link A) (t : ValueTree) (f : ValueTree → ValueTree) → Unseen go s l f → step_on go l (change_part t s f) ≡ step_on go l t
step_unseen go (Field j) (ToField k) (Fields ts) f (inl d) = ap (onward go (Field k) Lost) (part-other (Fields ts) (Field j) (Field k) f d)
step_unseen go (Field j) (ToField k) (Fields ts) f (inr e) =
    subst (λ i. step_on go (ToField i) (Fields (change_nth ts j f)) ≡ step_on go (ToField i) (Fields ts)) (eqb-same j k e.0)
    (ap (onward go (Field j) Lost) (part-same (Fields ts) (Field j) f) ∙ same_on go go f (Field j) Lost (nth ts j) e.1)
step_unseen go (At j) (ToIndex (pos k) a) (Elements ts) f (inl d) = ap (onward go (At k) (Outside a)) (part-other (Elements ts) (At j) (At k) f d)
step_unseen go (At j) (ToIndex (pos k) a) (Elements ts) f (inr e) =
    subst (λ i. step_on go (ToIndex (pos i) a) (Elements (change_nth ts j f)) ≡ step_on go (ToIndex (pos i) a) (Elements ts)) (eqb-same j k e.0)
    (ap (onward go (At j) (Outside a)) (part-same (Elements ts) (At j) f) ∙ same_on go go f (At j) (Outside a) (nth ts j) e.1)
step_unseen go (Field j) (ToIndex (pos k) a) (Fields ts) f h = refl
step_unseen go (Field j) (ToIndex (negsuc k) a) (Fields ts) f h = refl
step_unseen go (At j) (ToField k) (Elements ts) f h = refl
step_unseen go (At j) (ToIndex (negsuc k) a) (Elements ts) f h = refl
step_unseen go (Field j) l (Elements ts) f h = refl
step_unseen go (At j) l (Fields ts) f h = refl
step_unseen go s l Hole f h = refl
step_unseen go s l (Number z) f h = refl
step_unseen go s l (Truth b) f h = refl
step_unseen go s l (Closure body ts) f h = refl

-- a write from which the way parts changes nothing of where it leads
pub walk-put_apart : {A : Type 0} (p : Path) (ls : List (Link A)) (t v : ValueTree) → parts_from p ls ≡ true → walk ls (put t p v) ≡ walk ls t
walk-put_apart [] ls t v h = absurd (true≢false (sym h))
walk-put_apart (s ∷ p) [] t v h = absurd (true≢false (sym h))
walk-put_apart {A = A} (s ∷ p) (l ∷ ls) t v h = go (leads s l) refl h (walk-put_apart p ls)
  where
    go : (b : Bool) → leads s l ≡ b → (if b then parts_from p ls else true) ≡ true → ((t v : ValueTree) → parts_from p ls ≡ true → walk ls (put t p v) ≡ walk ls t) → walk (l ∷ ls) (put t (s ∷ p) v) ≡ walk (l ∷ ls) t
    go true e k ih = step_unseen (walk ls) s l t (λ c. put c p v) (inr (e, λ c. ih c v k))
    go false e k ih = step_unseen (walk ls) s l t (λ c. put c p v) (inl e)

-- a write inside the place to which a way leads is seen from there
pub walk-put_inside : {A : Type 0} (ls : List (Link A)) (t : ValueTree) (p q : Path) (u v : ValueTree) → walk ls t ≡ Reaches p u → walk ls (put t (p ++ q) v) ≡ Reaches p (put u q v)
walk-put_inside {A = A} [] t p q u v h =
    let path : [] ≡ p = grind (arith, h) in
    let place : t ≡ u = grind (arith, h) in
    subst (λ x. ◌≡◌ {A = Reached A} (Reaches [] (put t (x ++ q) v)) (Reaches x (put u q v))) path (ap (λ y. Reaches [] (put y q v)) place)
walk-put_inside {A = A} (l ∷ ls) t p q u v h = go l t (λ t p. walk-put_inside ls t p q u v) h
  where
    onto : (l : Link A) (t : ValueTree) (s : PathStep) (other : Reached A) → ((f : ValueTree → ValueTree) → step_on (walk ls) l (change_part t s f) ≡ onward (walk ls) s other (option_map f (part t s))) → ((x : Path) → other ≢ Reaches x u) → ((t : ValueTree) (p : Path) → walk ls t ≡ Reaches p u → walk ls (put t (p ++ q) v) ≡ Reaches p (put u q v)) → onward (walk ls) s other (part t s) ≡ Reaches p u → step_on (walk ls) l (put t (p ++ q) v) ≡ Reaches p (put u q v)
    onto l t s other look never ih k =
        let found : GoesOn (walk ls) s (part t s) p u = goes_on (walk ls) s other (part t s) p u never k in
        let f : ValueTree → ValueTree = λ c. put c (found.rest ++ q) v in
        subst (λ x. ◌≡◌ {A = Reached A} (step_on (walk ls) l (put t (x ++ q) v)) (Reaches x (put u q v))) (sym found.joined)
        (look f
        ∙ ap (λ o. onward (walk ls) s other (option_map f o)) found.there
        ∙ ap (after_step s) (ih found.between found.rest found.on))

    go : (l : Link A) (t : ValueTree) → ((t : ValueTree) (p : Path) → walk ls t ≡ Reaches p u → walk ls (put t (p ++ q) v) ≡ Reaches p (put u q v)) → step_on (walk ls) l t ≡ Reaches p u → step_on (walk ls) l (put t (p ++ q) v) ≡ Reaches p (put u q v)
    go (ToField k) (Fields ts) ih h = onto (ToField k) (Fields ts) (Field k) Lost (λ f. ap (onward (walk ls) (Field k) Lost) (part-same (Fields ts) (Field k) f)) (λ x e. cc) ih h
    go (ToIndex (pos k) a) (Elements ts) ih h = onto (ToIndex (pos k) a) (Elements ts) (At k) (Outside a) (λ f. ap (onward (walk ls) (At k) (Outside a)) (part-same (Elements ts) (At k) f)) (λ x e. cc) ih h
    go (ToIndex (negsuc k) a) (Elements ts) ih h = cc
    go _ _ ih h = cc
