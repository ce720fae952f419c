-- What the code finds that an event refuses is what the event violates.
use Rattle.std.proofs.Common.{◌≡◌, ◌≢◌, ◌⊎◌, inl, inr, zero, suc, ◌==◌, Bool, true, false, ◌&&◌, ◌||◌, if◌then◌else◌, List, [], ◌∷◌, Some, None, Contains, refl, sym, ap, subst, arith}
use Rattle.std.proofs.lemmas.Bool.{eq-eqb, eqb-true}
use Rattle.hv_tree.specs.declared.place.Place.{Place}
use Rattle.hv_tree.specs.declared.refusal.Refusal.{Refusal}
use Rattle.hv_tree.specs.declared.refusal.Rule.TheVariants as rule
use Rattle.hv_tree.specs.Core.{Core}
use Rattle.hv_decls.specs.declared.path.StaticPath.{StaticPath}
use Rattle.hv_rules.specs.declared.event.FlowEvent.{FlowEvent}
use Rattle.hv_rules.specs.declared.event.FlowEvent.TheVariants as event
use Rattle.hv_decls.specs.Paths.{Overlap, steps_meet}
use Rattle.hv_decls.specs.Locals.{CoreBody}
use Rattle.hv_rules.specs.Events.{Belongs, ToNothing, ToDeclaration, ToEnd}
use Rattle.hv_rules.specs.States.{Mode, Reading, Writing, Setting, Access, binding_of, State}
use Rattle.hv_rules.specs.Rules.{asks_free, asks_unwritten, Clashes, ClashesWithChange}
use Rattle.hv_decls.proofs.Overlaps.{meets, meet_of}
use Rattle.hv_excl.specs.Clashes.{overlaps, counts, clashes, change_refused, read_refused, refused_at}
use Rattle.hv_lemmas.proofs.Bools.{and_parts, and_both}

-- ---- items of a list

pub among : {A : Type 0} (x : A) (xs : List A) (a : A) → Contains (x ∷ xs) a → (x ≡ a) ⊎ Contains xs a
among x xs a (zero, l, e) = inl e
among x xs a (suc k, l, e) = inr (k, omega (arith, l), e)

pub among_first : {A : Type 0} (x : A) (xs : List A) (a : A) → x ≡ a → Contains (x ∷ xs) a
among_first x xs a e = (0, omega arith, e)

pub among_others : {A : Type 0} (x : A) (xs : List A) (a : A) → Contains xs a → Contains (x ∷ xs) a
among_others x xs a c = (suc c.0, omega (arith, c.1), c.2)

pub among_none : {A : Type 0} (a : A) → Contains [] a → ⊥
among_none a (k, l, e) = omega (arith, l)

-- ---- two paths

pub overlap_of : (a b : StaticPath) → overlaps a b ≡ true → Overlap a b
overlap_of a b e = let s = and_parts (a.root == b.root) (steps_meet a.steps b.steps) e in (eqb-true a.root b.root s.0, meets a.steps b.steps s.1)

pub overlap_to : (a b : StaticPath) → Overlap a b → overlaps a b ≡ true
overlap_to a b h = and_both (a.root == b.root) (steps_meet a.steps b.steps) (eq-eqb a.root b.root h.0) (meet_of a.steps b.steps h.1)

-- ---- a path and open accesses

changes_of : (m : Mode) → counts false m ≡ true → m ≢ Reading
changes_of Reading e = cc
changes_of Writing e = λ f. cc
changes_of Setting e = λ f. cc

changes_to : (m : Mode) → m ≢ Reading → counts false m ≡ true
changes_to Reading h = absurd (h refl)
changes_to Writing h = refl
changes_to Setting h = refl

all_count : (m : Mode) → counts true m ≡ true
all_count Reading = refl
all_count Writing = refl
all_count Setting = refl

-- an access that counts, and overlaps the path
abbrev Clash : Bool → StaticPath → List Access → Type 0
Clash reading p xs = (a : Access) × Contains xs a × Overlap p a.path × (counts reading a.mode ≡ true)

clash_of : (reading : Bool) (p : StaticPath) (xs : List Access) → clashes reading p xs ≡ true → Clash reading p xs
clash_of reading p [] e = cc
clash_of reading p (a ∷ xs) e = by (counts reading a.mode && overlaps p a.path) refl e (clash_of reading p xs)
  where
    by : (t : Bool) → (counts reading a.mode && overlaps p a.path) ≡ t → (t || clashes reading p xs) ≡ true → (clashes reading p xs ≡ true → Clash reading p xs) → Clash reading p (a ∷ xs)
    by true f g h = let s = and_parts (counts reading a.mode) (overlaps p a.path) f in (a, among_first a xs a refl, overlap_of p a.path s.1, s.0)
    by false f g h = let w = h g in (w.0, among_others a xs w.0 w.1, w.2, w.3)

or_left : (p q : Bool) → p ≡ true → (p || q) ≡ true
or_left true q e = refl
or_left false q e = cc

or_right : (p q : Bool) → q ≡ true → (p || q) ≡ true
or_right true q e = refl
or_right false q e = e

clash_to : (reading : Bool) (p : StaticPath) (xs : List Access) (a : Access) → Contains xs a → Overlap p a.path → counts reading a.mode ≡ true → clashes reading p xs ≡ true
clash_to reading p [] a c o k = absurd (among_none a c)
clash_to reading p (x ∷ xs) a c o k = by (among x xs a c) (λ d. clash_to reading p xs a d o k)
  where
    here : (z : Access) → z ≡ a → (counts reading z.mode && overlaps p z.path) ≡ true
    here z e = subst (λ (y : Access). (counts reading y.mode && overlaps p y.path) ≡ true) (sym e) (and_both (counts reading a.mode) (overlaps p a.path) k (overlap_to p a.path o))

    by : (x ≡ a) ⊎ Contains xs a → (Contains xs a → clashes reading p xs ≡ true) → clashes reading p (x ∷ xs) ≡ true
    by (inl e) h = or_left (counts reading x.mode && overlaps p x.path) (clashes reading p xs) (here x e)
    by (inr d) h = or_right (counts reading x.mode && overlaps p x.path) (clashes reading p xs) (h d)

-- ---- an event

chosen : (b : Bool) (t r : Refusal) → (if b then Some t else None) ≡ Some r → (b ≡ true) × (t ≡ r)
chosen true t r e = (refl, cc)
chosen false t r e = cc

module _ (tree : Core) (body : CoreBody) (s : State) where
  -- the event violates the first rule on accesses, or the second
  abbrev pub ClashesFree : FlowEvent → Belongs → Type 0
  ClashesFree e of = (p : StaticPath) × (asks_free e of ≡ Some p) × Clashes tree body s p

  abbrev pub ClashesUnwritten : FlowEvent → Type 0
  ClashesUnwritten e = (p : StaticPath) × (asks_unwritten e ≡ Some p) × ClashesWithChange tree body s p

  -- as this refusal says, at this place
  abbrev pub Violation : FlowEvent → Belongs → Place → Refusal → Type 0
  Violation e of at r = (at ≡ r.place) × (((rule.X1 ≡ r.rule) × ClashesFree e of) ⊎ ((rule.X2 ≡ r.rule) × ClashesUnwritten e))

  change_of : (e : FlowEvent) (of : Belongs) (p : StaticPath) (at : Place) (r : Refusal) → asks_free e of ≡ Some p → change_refused p at s.accesses ≡ Some r → Violation e of at r
  change_of e of p at r q h =
      let c = chosen (clashes true p s.accesses) (record { rule = rule.X1; place = at }) r h in
      let w = clash_of true p s.accesses c.0 in
      (ap (λ (t : Refusal). t.place) c.1, inl (ap (λ (t : Refusal). t.rule) c.1, (p, q, (w.0, w.1, w.2))))

  read_of : (e : FlowEvent) (of : Belongs) (p : StaticPath) (at : Place) (r : Refusal) → asks_unwritten e ≡ Some p → read_refused p at s.accesses ≡ Some r → Violation e of at r
  read_of e of p at r q h =
      let c = chosen (clashes false p s.accesses) (record { rule = rule.X2; place = at }) r h in
      let w = clash_of false p s.accesses c.0 in
      (ap (λ (t : Refusal). t.place) c.1, inr (ap (λ (t : Refusal). t.rule) c.1, (p, q, (w.0, w.1, w.2, changes_of w.0.mode w.3))))

  pub refused_of : (e : FlowEvent) (of : Belongs) (at : Place) (r : Refusal) → refused_at e (binding_of of) at s.accesses ≡ Some r → Violation e of at r
  refused_of event.Entry of at r h = cc
  refused_of (event.Declare n) of at r h = cc
  refused_of (event.Init p) ToNothing at r h = change_of (event.Init p) ToNothing p at r refl h
  refused_of (event.Init p) (ToDeclaration n) at r h = cc
  refused_of (event.Init p) (ToEnd back handles missing) at r h = change_of (event.Init p) (ToEnd back handles missing) p at r refl h
  refused_of (event.Use p) of at r h = read_of (event.Use p) of p at r refl h
  refused_of (event.Move p) of at r h = change_of (event.Move p) of p at r refl h
  refused_of (event.OpenRead p) of at r h = read_of (event.OpenRead p) of p at r refl h
  refused_of (event.OpenWrite p) of at r h = change_of (event.OpenWrite p) of p at r refl h
  refused_of (event.OpenSet p) of at r h = change_of (event.OpenSet p) of p at r refl h
  refused_of event.Close of at r h = cc
  refused_of (event.Spawn h) of at r g = cc
  refused_of (event.Await h) of at r g = cc
  refused_of event.Return of at r h = cc
  refused_of (event.ScopeEnd n) of at r h = cc

  -- and the other way
  change_to : (p q : StaticPath) (at : Place) → Some p ≡ Some q → Clashes tree body s q → change_refused p at s.accesses ≡ Some (record { rule = rule.X1; place = at })
  change_to p q at e (a, c, o) =
      ap (λ (b : Bool). if b then Some (record { rule = rule.X1; place = at }) else None) (clash_to true p s.accesses a c (subst (λ (z : StaticPath). Overlap z a.path) (sym (cc)) o) (all_count a.mode))

  read_to : (p q : StaticPath) (at : Place) → Some p ≡ Some q → ClashesWithChange tree body s q → read_refused p at s.accesses ≡ Some (record { rule = rule.X2; place = at })
  read_to p q at e (a, c, o, m) =
      ap (λ (b : Bool). if b then Some (record { rule = rule.X2; place = at }) else None) (clash_to false p s.accesses a c (subst (λ (z : StaticPath). Overlap z a.path) (sym (cc)) o) (changes_to a.mode m))

  pub free_to : (e : FlowEvent) (of : Belongs) (at : Place) → ClashesFree e of → refused_at e (binding_of of) at s.accesses ≡ Some (record { rule = rule.X1; place = at })
  free_to event.Entry of at (q, h, c) = cc
  free_to (event.Declare n) of at (q, h, c) = cc
  free_to (event.Init p) ToNothing at (q, h, c) = change_to p q at h c
  free_to (event.Init p) (ToDeclaration n) at (q, h, c) = cc
  free_to (event.Init p) (ToEnd back handles missing) at (q, h, c) = change_to p q at h c
  free_to (event.Use p) of at (q, h, c) = cc
  free_to (event.Move p) of at (q, h, c) = change_to p q at h c
  free_to (event.OpenRead p) of at (q, h, c) = cc
  free_to (event.OpenWrite p) of at (q, h, c) = change_to p q at h c
  free_to (event.OpenSet p) of at (q, h, c) = change_to p q at h c
  free_to event.Close of at (q, h, c) = cc
  free_to (event.Spawn k) of at (q, h, c) = cc
  free_to (event.Await k) of at (q, h, c) = cc
  free_to event.Return of at (q, h, c) = cc
  free_to (event.ScopeEnd n) of at (q, h, c) = cc

  pub unwritten_to : (e : FlowEvent) (of : Belongs) (at : Place) → ClashesUnwritten e → refused_at e (binding_of of) at s.accesses ≡ Some (record { rule = rule.X2; place = at })
  unwritten_to event.Entry of at (q, h, c) = cc
  unwritten_to (event.Declare n) of at (q, h, c) = cc
  unwritten_to (event.Init p) of at (q, h, c) = cc
  unwritten_to (event.Use p) of at (q, h, c) = read_to p q at h c
  unwritten_to (event.Move p) of at (q, h, c) = cc
  unwritten_to (event.OpenRead p) of at (q, h, c) = read_to p q at h c
  unwritten_to (event.OpenWrite p) of at (q, h, c) = cc
  unwritten_to (event.OpenSet p) of at (q, h, c) = cc
  unwritten_to event.Close of at (q, h, c) = cc
  unwritten_to (event.Spawn k) of at (q, h, c) = cc
  unwritten_to (event.Await k) of at (q, h, c) = cc
  unwritten_to event.Return of at (q, h, c) = cc
  unwritten_to (event.ScopeEnd n) of at (q, h, c) = cc
