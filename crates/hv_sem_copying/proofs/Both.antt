-- Related results, and related steps.
use Rattle.std.proofs.Common.{inl, inr, ℕ, suc, Bool, true, false, if◌then◌else◌, Option, Some, None, refl, subst}
use Rattle.hv_tree.specs.declared.place.Place.{Place}
use Rattle.hv_sem_copying.specs.declared.end.TrapKind.{TrapKind}
use Rattle.hv_sem_copying.specs.Node.{Id}
use Rattle.hv_sem_copying.specs.declared.end.Cause.{Cause}
use Rattle.hv_sem_copying.specs.Run.{Task, Res, Is, Halted, Trap, Spent, Stuck, after, Run, Flow, and_then, ◌>>=◌, pure, halt, stuck, trap, spent, known, with_reference, counted_from, unless_left}
use Rattle.hv_sem_copying.specs.Alike.{Both, Relation, Ends, Alike, Kept}

pub both_weaken : {A B : Type 0} (L : Type 0) (H H' : Task → Task → Type 0) (R Q : A → B → Type 0) (x : Res A) (y : Res B) → ((t t' : Task) → H t t' → H' t t') → ((a : A) (b : B) → R a b → Q a b) → Both L H R x y → Both L H' Q x y
both_weaken L H H' R Q (Halted (Stuck cause) w) y f k h = tt
both_weaken L H H' R Q (Is a) (Is b) f k h = k a b h
both_weaken L H H' R Q (Is a) (Halted (Trap kind at id) t) f k h = absurd h
both_weaken L H H' R Q (Is a) (Halted (Spent at id) t) f k h = absurd h
both_weaken L H H' R Q (Is a) (Halted (Stuck cause) w) f k h = absurd h
both_weaken L H H' R Q (Halted (Trap kind at id) t) (Halted (Trap kind' at' id') t') f k h = (h.0, h.1, h.2, f t t' h.3)
both_weaken L H H' R Q (Halted (Trap kind at id) t) (Is b) f k h = absurd h
both_weaken L H H' R Q (Halted (Trap kind at id) t) (Halted (Spent at' id') t') f k h = absurd h
both_weaken L H H' R Q (Halted (Trap kind at id) t) (Halted (Stuck cause) w) f k h = absurd h
both_weaken L H H' R Q (Halted (Spent at id) t) (Halted (Spent at' id') t') f k (inl l) = inl l
both_weaken L H H' R Q (Halted (Spent at id) t) (Halted (Spent at' id') t') f k (inr h) = inr (h.0, h.1, f t t' h.2)
both_weaken L H H' R Q (Halted (Spent at id) t) (Is b) f k h = h
both_weaken L H H' R Q (Halted (Spent at id) t) (Halted (Trap kind at' id') t') f k h = h
both_weaken L H H' R Q (Halted (Spent at id) t) (Halted (Stuck cause) w) f k h = h

-- a spent run on the left, where that tells nothing of the right
pub loose_spent : {A B : Type 0} (L : Type 0) (H : Task → Task → Type 0) (R : A → B → Type 0) (at : Place) (id : Id) (t : Task) (y : Res B) → L → Both L H R (Halted (Spent at id) t) y
loose_spent L H R at id t (Is b) l = l
loose_spent L H R at id t (Halted (Trap kind at' id') t') l = l
loose_spent L H R at id t (Halted (Spent at' id') t') l = inl l
loose_spent L H R at id t (Halted (Stuck cause) w) l = l

pub both_after : {A B A' B' : Type 0} (L : Type 0) (H : Task → Task → Type 0) (R : A → B → Type 0) (Q : A' → B' → Type 0) (x : Res A) (y : Res B) (f : A → Res A') (g : B → Res B') → Both L H R x y → ((a : A) (b : B) → R a b → Both L H Q (f a) (g b)) → Both L H Q (after x f) (after y g)
both_after L H R Q (Halted (Stuck cause) w) y f g h k = tt
both_after L H R Q (Is a) (Is b) f g h k = k a b h
both_after L H R Q (Is a) (Halted (Trap kind at id) t) f g h k = absurd h
both_after L H R Q (Is a) (Halted (Spent at id) t) f g h k = absurd h
both_after L H R Q (Is a) (Halted (Stuck cause) w) f g h k = absurd h
both_after L H R Q (Halted (Trap kind at id) t) (Halted (Trap kind' at' id') t') f g h k = h
both_after L H R Q (Halted (Trap kind at id) t) (Is b) f g h k = absurd h
both_after L H R Q (Halted (Trap kind at id) t) (Halted (Spent at' id') t') f g h k = absurd h
both_after L H R Q (Halted (Trap kind at id) t) (Halted (Stuck cause) w) f g h k = absurd h
both_after L H R Q (Halted (Spent at id) t) (Halted (Spent at' id') t') f g h k = h
both_after L H R Q (Halted (Spent at id) t) (Is b) f g h k = loose_spent L H Q at id t (g b) h
both_after L H R Q (Halted (Spent at id) t) (Halted (Trap kind at' id') t') f g h k = h
both_after L H R Q (Halted (Spent at id) t) (Halted (Stuck cause) w) f g h k = h

module _ {C D S T : Type 0} (r : Relation C D S T) (ok : Kept r) where
  pub bind : {X Y : Type 0} {p : Run C S X} {q : Run D T X} {f : X → Run C S Y} {g : X → Run D T Y} → Alike r p q → ((x : X) → Alike r (f x) (g x)) → Alike r (p >>= f) (q >>= g)
  unfolding and_then
  bind {X} {Y} {p} {q} {f} {g} h k = record {
    alike = λ n c d s t e.
        both_after r.loose (r.halts c d t) (Ends r c d t) (Ends r c d t) (p n c s) (q n d t) (λ a. f a.1 n c a.0) (λ b. g b.1 n d b.0) (h.alike n c d s t e) (λ a b i.
        both_weaken r.loose (r.halts c d b.0) (r.halts c d t) (Ends r c d b.0) (Ends r c d t) (f a.1 n c a.0) (g b.1 n d b.0)
        (λ x y. ok.later c d t b.0 x y i.1)
        (λ a' b' e'. (e'.0, ok.chain c d t b.0 b'.0 i.1 e'.1, e'.2))
        (subst (λ v. Both r.loose (r.halts c d b.0) (Ends r c d b.0) (f a.1 n c a.0) (g v n d b.0)) i.2 ((k a.1).alike n c d a.0 b.0 i.0)));
  }

  pub pure_alike : {X : Type 0} (x : X) → Alike r (pure x) (pure x)
  unfolding pure
  pure_alike x = record { alike = λ n c d s t e. (e, ok.still c d t, refl) }

  pub stuck_alike : {X : Type 0} (cause : Cause) → Alike {X = X} r (stuck cause) (stuck cause)
  unfolding halt
  stuck_alike cause = record { alike = λ n c d s t e. tt }

  pub trap_alike : {X : Type 0} (kind : TrapKind) (at : Place) → Alike {X = X} r (trap kind at) (trap kind at)
  unfolding trap
  trap_alike kind at = record { alike = λ n c d s t e. let h = ok.halted c d s t e in (refl, refl, h.0, h.1) }

  pub spent_alike : {X : Type 0} (at : Place) → Alike {X = X} r (spent at) (spent at)
  unfolding spent
  spent_alike at = record { alike = λ n c d s t e. let h = ok.halted c d s t e in inr (refl, h.0, h.1) }

  pub loose_alike : {X : Type 0} (at : Place) (q : Run D T X) → r.loose → Alike r (spent at) q
  unfolding spent
  loose_alike at q l = record { alike = λ n c d s t e. loose_spent r.loose (r.halts c d t) (Ends r c d t) at s.task.id s.task (q n d t) l }

  pub known_alike : {X : Type 0} (cause : Cause) (o : Option X) → Alike r (known cause o) (known cause o)
  known_alike cause None = stuck_alike cause
  known_alike cause (Some x) = pure_alike x

  pub if_alike : {X : Type 0} (b : Bool) {p p' : Run C S X} {q q' : Run D T X} → Alike r p q → Alike r p' q' → Alike r (if b then p else p') (if b then q else q')
  if_alike true h h' = h
  if_alike false h h' = h'

  pub reference_alike : {X : Type 0} (p : ℕ → Run C S X) (q : ℕ → Run D T X) → ((n : ℕ) → Alike r (p n) (q n)) → Alike r (with_reference p) (with_reference q)
  unfolding with_reference
  reference_alike p q h = record { alike = λ n c d s t e. (h n).alike (suc n) c d s t e }

  pub counted_alike : {X : Type 0} (m : ℕ) {p : Run C S X} {q : Run D T X} → Alike r p q → Alike r (counted_from m p) (counted_from m q)
  unfolding counted_from
  counted_alike m h = record { alike = λ n c d s t e. h.alike m c d s t e }

  pub unless_alike : {p : Run C S Flow} {q : Run D T Flow} → Alike r p q → (flow : Flow) → Alike r (unless_left p flow) (unless_left q flow)
  unless_alike h None = h
  unless_alike h (Some v) = pure_alike (Some v)
