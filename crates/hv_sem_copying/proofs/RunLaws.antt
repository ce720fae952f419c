-- Laws of runs one after another.
use Rattle.std.proofs.Common.{◌≡◌, refl, ap}
use Rattle.hv_sem_copying.specs.Run.{Res, Is, Halted, after, Run, and_then, ◌>>=◌, pure}

after_after : {A B X : Type 0} (x : Res A) (f : A → Res B) (g : B → Res X) → after (after x f) g ≡ after x (λ a. after (f a) g)
after_after (Is a) f g = refl
after_after (Halted h t) f g = refl

after_is : {A : Type 0} (x : Res A) → after x (λ a. Is a) ≡ x
after_is (Is a) = refl
after_is (Halted h t) = refl

pub bind_assoc : {C S X Y Z : Type 0} (p : Run C S X) (f : X → Run C S Y) (g : Y → Run C S Z) → (p >>= f) >>= g ≡ p >>= (λ x. f x >>= g)
unfolding and_then
bind_assoc p f g = λ i n c s. after_after (p n c s) (λ r. f r.1 n c r.0) (λ r. g r.1 n c r.0) i

pub pure_then : {C S X Y : Type 0} (x : X) (f : X → Run C S Y) → pure x >>= f ≡ f x
unfolding and_then pure
pure_then x f = refl

pub then_pure : {C S X : Type 0} (p : Run C S X) → p >>= pure ≡ p
unfolding and_then pure
then_pure p = λ i n c s. after_is (p n c s) i

-- the same first step, and the same from there on
pub then_same : {C S X Y : Type 0} (p : Run C S X) (f g : X → Run C S Y) → ((x : X) → f x ≡ g x) → p >>= f ≡ p >>= g
then_same p f g h = λ i. p >>= (λ x. h x i)

pub first_same : {C S X Y : Type 0} (p q : Run C S X) (f : X → Run C S Y) → p ≡ q → p >>= f ≡ q >>= f
first_same p q f h = ap (λ x. x >>= f) h
