-- Runs: a step of a task gives something and leaves the task, or ends it.
use Rattle.std.specs.Prelude.{ℕ, suc, ◌-◌, nat_le, if◌then◌else◌, List, ◌++◌, Option, Some, None}
use Rattle.hv_tree.specs.declared.place.Place.{Place}
use Rattle.hv_value.specs.ValueTree.{ValueTree}
use Rattle.hv_sem_copying.specs.declared.end.TrapKind.{TrapKind}
use Rattle.hv_sem_copying.specs.declared.end.Cause.{Cause}
use Rattle.hv_sem_copying.specs.Node.{Id, Node}

-- ---- results

-- a task under way: its name, the steps left, its output so far and its children that have ended
pub record Task : Type 0 where
  pub id : Id
  pub steps : ℕ
  pub output : List ℕ
  pub children : List Node

-- how a run ends before its end
pub data Halt : Type 0 where
  -- the kind, the place, and the task in which it came
  Trap : TrapKind → Place → Id → Halt
  -- the place of what could not be paid, and the task
  Spent : Place → Id → Halt
  Stuck : Cause → Halt

-- what is given, or how it halted, and what the task is then
pub data Res (A : Type 0) : Type 0 where
  Is : A → Res A
  Halted : Halt → Task → Res A

abbrev pub after : {A B : Type 0} → Res A → (A → Res B) → Res B
after (Is a) f = f a
after (Halted h t) f = Halted h t

-- ---- runs

-- a task with its state of some kind
pub record Now (S : Type 0) : Type 0 where
  pub task : Task
  pub own : S

-- what is done where so many references of the body are in use, and this is fixed by the blocks around
abbrev pub Run : Type 0 → Type 0 → Type 0 → Type 0
Run C S A = ℕ → C → Now S → Res (Now S × A)

-- the value of a Return, if one was met
abbrev pub Flow : Type 0
Flow = Option ValueTree

-- one step, and then another one that goes by what the first gave
unfoldable pub and_then : {C S A B : Type 0} → Run C S A → (A → Run C S B) → Run C S B
and_then p f n c s = after (p n c s) (λ r. f r.1 n c r.0)

infixl 10 ◌>>=◌
abbrev pub ◌>>=◌ : {C S A B : Type 0} → Run C S A → (A → Run C S B) → Run C S B
p >>= f = and_then p f

unfoldable pub pure : {C S A : Type 0} → A → Run C S A
pure a n c s = Is (s, a)

unfoldable pub halt : {C S A : Type 0} → Halt → Run C S A
halt h n c s = Halted h s.task

abbrev pub stuck : {C S A : Type 0} → Cause → Run C S A
stuck cause = halt (Stuck cause)

unfoldable pub trap : {C S A : Type 0} → TrapKind → Place → Run C S A
trap kind at n c s = Halted (Trap kind at s.task.id) s.task

unfoldable pub spent : {C S A : Type 0} → Place → Run C S A
spent at n c s = Halted (Spent at s.task.id) s.task

-- what is there, or no rule
abbrev pub known : {C S A : Type 0} → Cause → Option A → Run C S A
known cause None = stuck cause
known cause (Some a) = pure a

-- a cost is paid before its action; where less is left, nothing is paid
unfoldable pub pay : {C S : Type 0} → ℕ → Place → Run C S (Unit {0})
pay cost at n c s =
    if nat_le cost s.task.steps then Is (record s { task = record s.task { steps = s.task.steps - cost } }, tt)
    else Halted (Spent at s.task.id) s.task

-- bytes are added to the output
unfoldable pub say : {C S : Type 0} → List ℕ → Run C S (Unit {0})
say bytes n c s = Is (record s { task = record s.task { output = s.task.output ++ bytes } }, tt)

-- the state as it is, and another one in its place
unfoldable pub mine : {C S : Type 0} → Run C S S
mine n c s = Is (s, s.own)

unfoldable pub become : {C S : Type 0} → S → Run C S (Unit {0})
become own n c s = Is (record s { own = own }, tt)

-- goes on with the number of the next reference
unfoldable pub with_reference : {C S A : Type 0} → (ℕ → Run C S A) → Run C S A
with_reference p n c s = p n (suc n) c s

-- as if so many references were in use
unfoldable pub counted_from : {C S A : Type 0} → ℕ → Run C S A → Run C S A
counted_from m p n c s = p m c s

-- goes on where no Return was met
abbrev pub unless_left : {C S : Type 0} → Run C S Flow → Flow → Run C S Flow
unless_left go None = go
unless_left go (Some v) = pure (Some v)
