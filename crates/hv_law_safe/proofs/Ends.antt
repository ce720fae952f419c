-- Runs that aren't stuck: what holds of the state before holds of what they give and the state after.
use Rattle.std.proofs.Common.{◌≡◌, ℕ, zero, suc, Bool, true, false, nat_le, if◌then◌else◌, List, Option, Some, None, sym, subst}
use Rattle.hv_tree.specs.declared.place.Place.{Place}
use Rattle.hv_value.specs.ValueTree.{ValueTree}
use Rattle.hv_value.specs.Walk.{Reached, Reaches, Outside, Lost, walk}
use Rattle.hv_law_formed.proofs.Fits.{IsTruth}
use Rattle.hv_sem_copying.specs.declared.end.TrapKind.{TrapKind}
use Rattle.hv_sem_copying.specs.declared.end.Cause.{Cause}
use Rattle.hv_sem_copying.specs.declared.end.Cause.TheVariants.{Holes}
use Rattle.hv_sem_copying.specs.Node.{Id}
use Rattle.hv_sem_copying.specs.Run.{Task, Res, Is, Halted, Trap, Spent, after, Now, Run, Flow, and_then, ◌>>=◌, pure, trap, spent, known, pay, say, mine, become, with_reference, counted_from, unless_left}
use Rattle.hv_sem_copying.specs.Ops.{Target, Spot, Reads, Passed}
use Rattle.hv_sem_copying.specs.Operations.{truth}
use Rattle.hv_sem_copying.specs.Blocks.{chosen, turns, repeated}
use Rattle.hv_sem_copying.specs.Copying.{Locals, tree_at, with_tree, arrived, at_spot, written, opened, without, closed, entering, returned, copying}

-- an end other than being stuck, where P holds of what is given and of the state
pub data Ends {X : Type 0} (P : X → Locals → Type 0) : Res (Now Locals × X) → Type 0 where
  e_is : {r : Now Locals × X} → P r.1 r.0.own → Ends P (Is r)
  e_trap : {kind : TrapKind} {at : Place} {id : Id} {t : Task} → Ends P (Halted (Trap kind at id) t)
  e_spent : {at : Place} {id : Id} {t : Task} → Ends P (Halted (Spent at id) t)

pub then_ends : {X Y : Type 0} {P : X → Locals → Type 0} {R : Y → Locals → Type 0} {x : Res (Now Locals × X)} {f : Now Locals × X → Res (Now Locals × Y)} → Ends P x → ((r : Now Locals × X) → P r.1 r.0.own → Ends R (f r)) → Ends R (after x f)
then_ends (e_is {r = r} h) k = k r h
then_ends e_trap k = e_trap
then_ends e_spent k = e_spent

-- where so many references are in use, from a state in which P holds
pub record Does {X : Type 0} (n : ℕ) (P : Locals → Type 0) (Q : X → Locals → Type 0) (p : Run (Unit {0}) Locals X) : Type 0 where
  pub does : (s : Now Locals) → P s.own → Ends Q (p n tt s)

-- ---- one after another

pub bind : {X Y : Type 0} {n : ℕ} {P : Locals → Type 0} {Q : X → Locals → Type 0} {R : Y → Locals → Type 0} {p : Run (Unit {0}) Locals X} {f : X → Run (Unit {0}) Locals Y} → Does n P Q p → ((x : X) → Does n (Q x) R (f x)) → Does n P R (p >>= f)
unfolding and_then
bind h k = record { does = λ s e. then_ends (h.does s e) (λ r q. (k r.1).does r.0 q) }

-- a fact beside the state
pub given : {X : Type 0} {n : ℕ} {A : Type 0} {P : Locals → Type 0} {Q : X → Locals → Type 0} {p : Run (Unit {0}) Locals X} → (A → Does n P Q p) → Does n (λ e. A × P e) Q p
given k = record { does = λ s e. (k e.0).does s e.1 }

pub next : {X Y : Type 0} {n : ℕ} {P M : Locals → Type 0} {A : X → Type 0} {R : Y → Locals → Type 0} {p : Run (Unit {0}) Locals X} {f : X → Run (Unit {0}) Locals Y} → Does n P (λ x e. A x × M e) p → ((x : X) → A x → Does n M R (f x)) → Does n P R (p >>= f)
unfolding and_then
next h k = record { does = λ s e. then_ends (h.does s e) (λ r q. (k r.1 q.0).does r.0 q.1) }

pub before : {X : Type 0} {n : ℕ} {P P' : Locals → Type 0} {Q : X → Locals → Type 0} {p : Run (Unit {0}) Locals X} → ((e : Locals) → P' e → P e) → Does n P Q p → Does n P' Q p
before k h = record { does = λ s e. h.does s (k s.own e) }

ends_as : {X : Type 0} {Q R : X → Locals → Type 0} {x : Res (Now Locals × X)} → Ends Q x → ((a : X) (e : Locals) → Q a e → R a e) → Ends R x
ends_as (e_is {r = r} h) k = e_is (k r.1 r.0.own h)
ends_as e_trap k = e_trap
ends_as e_spent k = e_spent

pub behind : {X : Type 0} {n : ℕ} {P : Locals → Type 0} {Q R : X → Locals → Type 0} {p : Run (Unit {0}) Locals X} → Does n P Q p → ((a : X) (e : Locals) → Q a e → R a e) → Does n P R p
behind h k = record { does = λ s e. ends_as (h.does s e) k }

-- ---- steps

pub pures : {X : Type 0} {n : ℕ} {P : Locals → Type 0} {Q : X → Locals → Type 0} (x : X) → ((e : Locals) → P e → Q x e) → Does n P Q (pure x)
unfolding pure
pures x k = record { does = λ s e. e_is (k s.own e) }

pub gives : {X : Type 0} {n : ℕ} {M : Locals → Type 0} {A : X → Type 0} (x : X) → A x → Does n M (λ y e. A y × M e) (pure x)
gives x a = pures x (λ e m. (a, m))

pub then_pure : {X Y : Type 0} {n : ℕ} {P : Locals → Type 0} {R : Y → Locals → Type 0} (x : X) (f : X → Run (Unit {0}) Locals Y) → Does n P R (f x) → Does n P R (pure x >>= f)
unfolding and_then pure
then_pure x f h = record { does = λ s e. h.does s e }

pub then_known : {X Y : Type 0} {n : ℕ} {P : Locals → Type 0} {R : Y → Locals → Type 0} (cause : Cause) (o : Option X) (x : X) (f : X → Run (Unit {0}) Locals Y) → o ≡ Some x → Does n P R (f x) → Does n P R (known cause o >>= f)
then_known {n = n} {P = P} {R = R} cause o x f e h = subst (λ o. Does n P R (known cause o >>= f)) (sym e) (then_pure x f h)

pub traps : {X : Type 0} {n : ℕ} {P : Locals → Type 0} {Q : X → Locals → Type 0} (kind : TrapKind) (at : Place) → Does n P Q (trap kind at)
unfolding trap
traps kind at = record { does = λ s e. e_trap }

pub is_spent : {X : Type 0} {n : ℕ} {P : Locals → Type 0} {Q : X → Locals → Type 0} (at : Place) → Does n P Q (spent at)
unfolding spent
is_spent at = record { does = λ s e. e_spent }

if_ends : {X : Type 0} {Q : X → Locals → Type 0} (b : Bool) {x y : Res (Now Locals × X)} → Ends Q x → Ends Q y → Ends Q (if b then x else y)
if_ends true h k = h
if_ends false h k = k

pub if_does : {X : Type 0} {n : ℕ} {P : Locals → Type 0} {Q : X → Locals → Type 0} (b : Bool) {p q : Run (Unit {0}) Locals X} → Does n P Q p → Does n P Q q → Does n P Q (if b then p else q)
if_does true h k = h
if_does false h k = k

pub pays : {n : ℕ} {P : Locals → Type 0} (cost : ℕ) (at : Place) → Does n P (λ u e. P e) (pay cost at)
unfolding pay
pays cost at = record { does = λ s e. if_ends (nat_le cost s.task.steps) (e_is e) e_spent }

pub then_pay : {Y : Type 0} {n : ℕ} {P : Locals → Type 0} {R : Y → Locals → Type 0} (cost : ℕ) (at : Place) (f : Unit {0} → Run (Unit {0}) Locals Y) → Does n P R (f tt) → Does n P R (pay cost at >>= f)
then_pay cost at f h = bind (pays cost at) (λ u. h)

pub says : {n : ℕ} {P : Locals → Type 0} (bytes : List ℕ) → Does n P (λ u e. P e) (say bytes)
unfolding say
says bytes = record { does = λ s e. e_is e }

pub refers : {X : Type 0} {n : ℕ} {P : Locals → Type 0} {Q : X → Locals → Type 0} (p : ℕ → Run (Unit {0}) Locals X) → Does (suc n) P Q (p n) → Does n P Q (with_reference p)
unfolding with_reference
refers p h = record { does = λ s e. h.does s e }

pub counted : {X : Type 0} {n : ℕ} {P : Locals → Type 0} {Q : X → Locals → Type 0} (m : ℕ) {p : Run (Unit {0}) Locals X} → Does m P Q p → Does n P Q (counted_from m p)
unfolding counted_from
counted m h = record { does = λ s e. h.does s e }

-- ---- flows

pub unless : {n : ℕ} {M : Locals → Type 0} (A : Flow → Type 0) {B : Flow → Type 0} {go : Run (Unit {0}) Locals Flow} → ((v : ValueTree) → A (Some v) → B (Some v)) → Does n M (λ y e. B y × M e) go → (flow : Flow) → A flow → Does n M (λ y e. B y × M e) (unless_left go flow)
unless A k h None a = h
unless A k h (Some v) a = gives (Some v) (k v a)

chooses_by : {n : ℕ} {P : Locals → Type 0} {R : Flow → Locals → Type 0} (p q : Run (Unit {0}) Locals Flow) (v : ValueTree) → IsTruth v → Does n P R p → Does n P R q → Does n P R (truth v >>= (λ b. if b then p else q))
chooses_by {n = n} {P = P} {R = R} p q v t h k = subst (λ v. Does n P R (truth v >>= (λ b. if b then p else q))) (sym t.1) (then_pure t.0 (λ b. if b then p else q) (if_does t.0 h k))

pub chooses : {n : ℕ} {M : Locals → Type 0} {R : Flow → Locals → Type 0} {test : Run (Unit {0}) Locals ValueTree} {p q : Run (Unit {0}) Locals Flow} → Does n M (λ v e. IsTruth v × M e) test → Does n M R p → Does n M R q → Does n M R (chosen test p q)
chooses {p = p} {q = q} t h k = next t (λ v i. chooses_by p q v i h k)

pub turns_do : {n : ℕ} {M : Locals → Type 0} {A : Flow → Type 0} (at : Place) {test : Run (Unit {0}) Locals ValueTree} {body : Run (Unit {0}) Locals Flow} → A None → Does n M (λ v e. IsTruth v × M e) test → Does n M (λ y e. A y × M e) body → (k : ℕ) → Does n M (λ y e. A y × M e) (turns k at test body)
turns_do at a t b zero = is_spent at
turns_do {A = A} at a t b (suc k) = then_pay 1 at _ (chooses t (next b (λ flow i. unless A (λ v j. j) (turns_do at a t b k) flow i)) (gives None a))

pub repeats : {n : ℕ} {M : Locals → Type 0} {A : Flow → Type 0} (at : Place) {test : Run (Unit {0}) Locals ValueTree} {body : Run (Unit {0}) Locals Flow} → A None → Does n M (λ v e. IsTruth v × M e) test → Does n M (λ y e. A y × M e) body → Does n M (λ y e. A y × M e) (repeated at test body)
unfolding repeated
repeats at a t b = record { does = λ s e. (turns_do at a t b (suc s.task.steps)).does s e }

-- ---- the operations

-- what is found at the end of a way
abbrev pub Finds : Target → (Spot × ValueTree → Locals → Type 0) → Locals → Reached Place → Type 0
Finds t Q e (Reaches p u) = Q (record { root = t.root; written = t.written; path = p }, u) e
Finds t Q e (Outside at) = Unit {0}
Finds t Q e Lost = ⊥

finds_by : {Q : Spot × ValueTree → Locals → Type 0} (n : ℕ) (t : Target) (s : Now Locals) (r : Reached Place) → Finds t Q s.own r → Ends Q (arrived {C = Unit {0}} t r n (tt {0}) s)
unfolding pure trap
finds_by n t s (Reaches p u) h = e_is h
finds_by n t s (Outside at) h = e_trap
finds_by n t s Lost h = absurd h

pub looks : {n : ℕ} {P : Locals → Type 0} {Q : Spot × ValueTree → Locals → Type 0} (t : Target) → ((e : Locals) → P e → Finds t Q e (walk t.links (tree_at e t.root))) → Does n P Q (copying.look t)
unfolding and_then mine
looks {n = n} t k = record { does = λ s e. finds_by n t s (walk t.links (tree_at s.own t.root)) (k s.own e) }

known_ends : {X Y : Type 0} {n : ℕ} {R : Y → Locals → Type 0} (cause : Cause) (s : Now Locals) (o : Option X) (x : X) (f : X → Run (Unit {0}) Locals Y) → o ≡ Some x → Ends R (f x n tt s) → Ends R ((known cause o >>= f) n tt s)
unfolding and_then pure
known_ends {n = n} {R = R} cause s o x f e h = subst (λ o. Ends R ((known cause o >>= f) n tt s)) (sym e) h

pub writes : {n : ℕ} {P : Locals → Type 0} {Q : Unit {0} → Locals → Type 0} (p : Spot) (v : ValueTree) → ((e : Locals) → P e → ((old : ValueTree) × (at_spot e p ≡ Some old)) × Q tt (written e p v)) → Does n P Q (copying.write p v)
unfolding and_then mine become
writes {n = n} p v k = record { does = λ s e. let h = k s.own e in known_ends {n = n} Holes s (at_spot s.own p) h.0.0 (λ old. become (written s.own p v)) h.0.1 (e_is h.1) }

pub opens : {n : ℕ} {P : Locals → Type 0} {Q : Unit {0} → Locals → Type 0} (r : ℕ) (p : Spot) → ((e : Locals) → P e → (t : ValueTree) × (at_spot e p ≡ Some t) × Q tt (with_tree e r t)) → Does n P Q (opened r p)
unfolding and_then mine become
opens {n = n} r p k = record { does = λ s e. let h = k s.own e in known_ends {n = n} Holes s (at_spot s.own p) h.0 (λ t. become (with_tree s.own r t)) h.1 (e_is h.2) }

pub closes : {n : ℕ} {P : Locals → Type 0} {Q : Unit {0} → Locals → Type 0} (r : ℕ) (p : Spot) → ((e : Locals) → P e → Q tt (without e r)) → Does n P Q (closed Reads r p)
unfolding and_then mine become
closes r p k = record { does = λ s e. e_is (k s.own e) }

-- a read access is open while the rest runs
pub reads_under : {n : ℕ} {P M N : Locals → Type 0} {A : Flow → Type 0} {go : Run (Unit {0}) Locals Flow} (r : ℕ) (p : Spot) → ((e : Locals) → P e → (t : ValueTree) × (at_spot e p ≡ Some t) × M (with_tree e r t)) → Does n M (λ y e. A y × M e) go → ((e : Locals) → M e → N (without e r)) → Does n P (λ y e. A y × N e) (copying.under Reads r p go)
reads_under {n = n} {M = M} {N = N} r p before go back =
    bind {Q = λ u e. M e} (opens r p before) (λ begun.
    next go (λ flow a.
    bind {Q = λ u e. N e} (closes r p back) (λ done. pures flow (λ e m. (a, m)))))

pub calls : {n : ℕ} {P M : Locals → Type 0} {R Q : Flow → Locals → Type 0} {go : Run (Unit {0}) Locals Flow} (size : ℕ) (given : List Passed) → ((e : Locals) → P e → M (entering e given)) → Does n M R go → ((e callee : Locals) (flow : Flow) → P e → R flow callee → Q flow (returned 0 e given callee)) → Does n P Q (copying.call size given go)
unfolding and_then mine become pure
calls size given enter go back = record {
  does = λ s e. then_ends (go.does (record s { own = entering s.own given }) (enter s.own e)) (λ r q. e_is (back s.own r.0.own r.1 e q));
}
