-- Laws of runs, as equations.
use Rattle.std.proofs.Common.{◌≡◌, ℕ, refl, ◌∙◌}
use Rattle.hv_sem_copying.specs.declared.end.Cause.{Cause}
use Rattle.hv_sem_copying.specs.Run.{Now, Run, and_then, ◌>>=◌, pure, halt, stuck, counted_from}
use Rattle.hv_sem_copying.proofs.RunLaws.{bind_assoc}

-- runs that do the same from everywhere are one
pub runs : {C S A : Type 0} {p q : Run C S A} → ((n : ℕ) (c : C) (s : Now S) → p n c s ≡ q n c s) → p ≡ q
runs h = λ i. λ n c s. h n c s i

pub families : {A B : Type 0} {f g : A → B} → ((x : A) → f x ≡ g x) → f ≡ g
families h = λ i. λ x. h x i

-- both parts the same
pub both : {C S A B : Type 0} {p q : Run C S A} {f g : A → Run C S B} → p ≡ q → ((a : A) → f a ≡ g a) → p >>= f ≡ q >>= g
both e h = λ i. e i >>= (λ a. h a i)

-- the same first
pub later : {C S A B : Type 0} (p : Run C S A) {f g : A → Run C S B} → ((a : A) → f a ≡ g a) → p >>= f ≡ p >>= g
later p h = λ i. p >>= (λ a. h a i)

-- a run in two parts, of which the first is known, with more behind
pub split : {C S A B D : Type 0} (p : Run C S A) (f : A → Run C S B) (g : B → Run C S D) {h : A → Run C S D} → ((a : A) → f a >>= g ≡ h a) → (p >>= f) >>= g ≡ p >>= h
split p f g k = bind_assoc p f g ∙ later p k

pub stuck_first : {C S A B : Type 0} (cause : Cause) (f : A → Run C S B) → stuck cause >>= f ≡ stuck cause
unfolding and_then halt
stuck_first cause f = refl

-- ---- the number of references in use

pub counted_bind : {C S A B : Type 0} (m : ℕ) (p : Run C S A) (f : A → Run C S B) → counted_from m (p >>= f) ≡ counted_from m p >>= (λ a. counted_from m (f a))
unfolding and_then counted_from
counted_bind m p f = refl

pub counted_pure : {C S A : Type 0} (m : ℕ) (a : A) → counted_from {C = C} {S = S} m (pure a) ≡ pure a
unfolding counted_from pure
counted_pure m a = refl

pub counted_stuck : {C S A : Type 0} (m : ℕ) (cause : Cause) → counted_from {C = C} {S = S} {A = A} m (stuck cause) ≡ stuck cause
unfolding counted_from halt
counted_stuck m cause = refl
