-- Runs that end only at places of which P holds.
use Rattle.std.proofs.Common.{ℕ, suc, ◌-◌, nat_le, Bool, true, false, if◌then◌else◌, List, [], ◌∷◌, ◌++◌, Option, Some, None}
use Rattle.hv_tree.specs.declared.place.Place.{Place}
use Rattle.hv_value.specs.ValueTree.{ValueTree}
use Rattle.hv_value.specs.Walk.{Link, ToField, ToIndex}
use Rattle.hv_sem_copying.specs.declared.end.TrapKind.{TrapKind}
use Rattle.hv_sem_copying.specs.declared.end.Cause.{Cause}
use Rattle.hv_sem_copying.specs.Node.{nodes}
use Rattle.hv_sem_copying.specs.Run.{Task, Res, Is, Halted, Trap, Spent, Stuck, after, Now, Run, Flow, and_then, ◌>>=◌, pure, halt, stuck, trap, spent, known, pay, say, mine, become, with_reference, counted_from, unless_left}
use Rattle.hv_sem_copying.specs.Ops.{Target, Spot, Mode, Passed, Ops}
use Rattle.hv_law_run_places.specs.NodePlaces.{in_nodes}
use Rattle.hv_lemmas.proofs.Each.{Each}

-- P holds of the places of the children that have ended
abbrev pub ChildrenTell : (Place → Type 0) → Task → Type 0
ChildrenTell P t = Each P (in_nodes (nodes t.children))

-- P holds of the place of a halt, and Q of a result
abbrev pub Named : {S X : Type 0} → (Place → Type 0) → (X → Type 0) → Res (Now S × X) → Type 0
Named P Q (Is r) = ChildrenTell P r.0.task × Q r.1
Named P Q (Halted (Trap kind at id) t) = P at × ChildrenTell P t
Named P Q (Halted (Spent at id) t) = P at × ChildrenTell P t
Named P Q (Halted (Stuck cause) t) = Unit {0}

pub record Tells {C S X : Type 0} (P : Place → Type 0) (Q : X → Type 0) (p : Run C S X) : Type 0 where
  pub tells : (n : ℕ) (c : C) (s : Now S) → ChildrenTell P s.task → Named P Q (p n c s)

abbrev pub Any : {X : Type 0} → X → Type 0
Any x = Unit {0}

abbrev pub LinkTells : (Place → Type 0) → Link Place → Type 0
LinkTells P (ToField k) = Unit {0}
LinkTells P (ToIndex z at) = P at

named_after : {S X Y : Type 0} (P : Place → Type 0) (Q : X → Type 0) (R : Y → Type 0) (x : Res (Now S × X)) (f : Now S × X → Res (Now S × Y)) → Named P Q x →
    ((r : Now S × X) → ChildrenTell P r.0.task → Q r.1 → Named P R (f r)) → Named P R (after x f)
named_after P Q R (Is r) f h k = k r h.0 h.1
named_after P Q R (Halted (Trap kind at id) t) f h k = h
named_after P Q R (Halted (Spent at id) t) f h k = h
named_after P Q R (Halted (Stuck cause) t) f h k = tt

pub bind : {C S X Y : Type 0} {P : Place → Type 0} {Q : X → Type 0} {R : Y → Type 0} {p : Run C S X} {f : X → Run C S Y} → Tells P Q p → ((x : X) → Q x → Tells P R (f x)) → Tells P R (p >>= f)
unfolding and_then
bind {P = P} {Q = Q} {R = R} {p = p} {f = f} h k = record {
  tells = λ n c s e. named_after P Q R (p n c s) (λ r. f r.1 n c r.0) (h.tells n c s e) (λ r i j. (k r.1 j).tells n c r.0 i);
}

-- the same where nothing is said of the result
pub next : {C S X Y : Type 0} {P : Place → Type 0} {R : Y → Type 0} {p : Run C S X} {f : X → Run C S Y} → Tells P Any p → ((x : X) → Tells P R (f x)) → Tells P R (p >>= f)
next h k = bind {Q = Any} h (λ x i. k x)

pub pure_tells : {C S X : Type 0} {P : Place → Type 0} {Q : X → Type 0} (x : X) → Q x → Tells {C = C} {S = S} P Q (pure x)
unfolding pure
pure_tells x h = record { tells = λ n c s e. (e, h) }

pub stuck_tells : {C S X : Type 0} {P : Place → Type 0} {Q : X → Type 0} (cause : Cause) → Tells {C = C} {S = S} P Q (stuck cause)
unfolding halt
stuck_tells cause = record { tells = λ n c s e. tt }

pub trap_tells : {C S X : Type 0} {P : Place → Type 0} {Q : X → Type 0} (kind : TrapKind) (at : Place) → P at → Tells {C = C} {S = S} P Q (trap kind at)
unfolding trap
trap_tells kind at h = record { tells = λ n c s e. (h, e) }

pub spent_tells : {C S X : Type 0} {P : Place → Type 0} {Q : X → Type 0} (at : Place) → P at → Tells {C = C} {S = S} P Q (spent at)
unfolding spent
spent_tells at h = record { tells = λ n c s e. (h, e) }

pub known_tells : {C S X : Type 0} {P : Place → Type 0} (cause : Cause) (o : Option X) → Tells {C = C} {S = S} P Any (known cause o)
known_tells cause None = stuck_tells cause
known_tells cause (Some x) = pure_tells x tt

if_named : {S X : Type 0} (P : Place → Type 0) (Q : X → Type 0) (b : Bool) (x y : Res (Now S × X)) → Named P Q x → Named P Q y → Named P Q (if b then x else y)
if_named P Q true x y h k = h
if_named P Q false x y h k = k

pub if_tells : {C S X : Type 0} {P : Place → Type 0} {Q : X → Type 0} (b : Bool) {p q : Run C S X} → Tells P Q p → Tells P Q q → Tells P Q (if b then p else q)
if_tells true h k = h
if_tells false h k = k

pub pay_tells : {C S : Type 0} {P : Place → Type 0} (cost : ℕ) (at : Place) → P at → Tells {C = C} {S = S} P Any (pay cost at)
unfolding pay
pay_tells {P = P} cost at h = record { tells = λ n c s e. if_named P Any (nat_le cost s.task.steps) _ _ (e, tt) (h, e) }

pub say_tells : {C S : Type 0} {P : Place → Type 0} (bytes : List ℕ) → Tells {C = C} {S = S} P Any (say bytes)
unfolding say
say_tells bytes = record { tells = λ n c s e. (e, tt) }

pub mine_tells : {C S : Type 0} {P : Place → Type 0} → Tells {C = C} {S = S} P Any mine
unfolding mine
mine_tells = record { tells = λ n c s e. (e, tt) }

pub become_tells : {C S : Type 0} {P : Place → Type 0} (own : S) → Tells {C = C} {S = S} P Any (become own)
unfolding become
become_tells own = record { tells = λ n c s e. (e, tt) }

pub reference_tells : {C S X : Type 0} {P : Place → Type 0} {Q : X → Type 0} (p : ℕ → Run C S X) → ((r : ℕ) → Tells P Q (p r)) → Tells P Q (with_reference p)
unfolding with_reference
reference_tells p h = record { tells = λ n c s e. (h n).tells (suc n) c s e }

pub counted_tells : {C S X : Type 0} {P : Place → Type 0} {Q : X → Type 0} (m : ℕ) {p : Run C S X} → Tells P Q p → Tells P Q (counted_from m p)
unfolding counted_from
counted_tells m h = record { tells = λ n c s e. h.tells m c s e }

pub unless_tells : {C S : Type 0} {P : Place → Type 0} {p : Run C S Flow} → Tells P Any p → (flow : Flow) → Tells P Any (unless_left p flow)
unless_tells h None = h
unless_tells h (Some v) = pure_tells (Some v) tt

-- what a kind of state has to show
pub record Telling {C S : Type 0} (P : Place → Type 0) (o : Ops C S) : Type 0 where
  pub look : (x : Target) → Each (LinkTells P) x.links → Tells P Any (o.look x)
  pub write : (p : Spot) (v : ValueTree) → Tells P Any (o.write p v)
  pub under : (mode : Mode) (r : ℕ) (p : Spot) (go : Run C S Flow) → Tells P Any go → Tells P Any (o.under mode r p go)
  pub call : (size : ℕ) (given : List Passed) (go : Run C S Flow) → Tells P Any go → Tells P Any (o.call size given go)
  pub spawn : (h k size : ℕ) (given : List Passed) (go : Run C S Flow) → Tells P Any go → Tells P Any (o.spawn h k size given go)
  pub await : (h : ℕ) → Tells P Any (o.await h)
