-- Two kinds of state that do the same: what each operation has to show for it.
use Rattle.std.specs.Prelude.{◌≡◌, ◌≤◌, ◌⊎◌, ℕ, List}
use Rattle.hv_tree.specs.declared.place.Place.{Place}
use Rattle.hv_value.specs.ValueTree.{ValueTree}
use Rattle.hv_sem_copying.specs.Run.{Task, Res, Is, Halted, Trap, Spent, Stuck, Now, Run, Flow, pay, say}
use Rattle.hv_sem_copying.specs.Ops.{Target, Spot, Mode, Passed, Ops}

-- the same kind of end, with tasks in H beside a halt. A run that is stuck is as any other; where Loose is met, a spent one too
abbrev pub Both : {A B : Type 0} → Type 0 → (Task → Task → Type 0) → (A → B → Type 0) → Res A → Res B → Type 0
Both Loose H R (Halted (Stuck cause) w) y = Unit {0}
Both Loose H R (Is a) (Is b) = R a b
Both Loose H R (Is a) y = ⊥
Both Loose H R (Halted (Trap kind at id) t) (Halted (Trap kind' at' id') t') = (kind ≡ kind') × (at ≡ at') × (id ≡ id') × H t t'
Both Loose H R (Halted (Trap kind at id) t) y = ⊥
Both Loose H R (Halted (Spent at id) t) (Halted (Spent at' id') t') = Loose ⊎ ((at ≡ at') × (id ≡ id') × H t t')
Both Loose H R (Halted (Spent at id) t) y = Loose

-- how two kinds of state are compared
pub record Relation (C D S T : Type 0) : Type 1 where
  -- met where a spent run on the left tells nothing of the right
  pub loose : Type 0
  pub rel : C → D → Now S → Now T → Type 0
  -- what a run on the right keeps, from its beginning to its end
  pub keeps : C → D → Now T → Now T → Type 0
  -- what stands beside a halt, on the left and on the right, of a run that began so on the right
  pub halts : C → D → Now T → Task → Task → Type 0

abbrev pub Ends : {C D S T X : Type 0} → Relation C D S T → C → D → Now T → Now S × X → Now T × X → Type 0
Ends r c d t a b = r.rel c d a.0 b.0 × r.keeps c d t b.0 × (a.1 ≡ b.1)

-- from related states both end alike, with the same result, in related states
pub record Alike {C D S T X : Type 0} (r : Relation C D S T) (p : Run C S X) (q : Run D T X) : Type 0 where
  pub alike : (n : ℕ) (c : C) (d : D) (s : Now S) (t : Now T) → r.rel c d s t → Both r.loose (r.halts c d t) (Ends r c d t) (p n c s) (q n d t)

-- what runs keep is kept on and on, and a halt is as one of a run that began earlier
pub record Kept {C D S T : Type 0} (r : Relation C D S T) : Type 0 where
  pub still : (c : C) (d : D) (t : Now T) → r.keeps c d t t
  pub chain : (c : C) (d : D) (t t1 t2 : Now T) → r.keeps c d t t1 → r.keeps c d t1 t2 → r.keeps c d t t2
  pub later : (c : C) (d : D) (t t1 : Now T) (x y : Task) → r.keeps c d t t1 → r.halts c d t1 x y → r.halts c d t x y
  pub halted : (c : C) (d : D) (s : Now S) (t : Now T) → r.rel c d s t → (s.task.id ≡ t.task.id) × r.halts c d t s.task t.task
  -- a loop makes as many turns on both sides, or more on the right
  pub limit : (c : C) (d : D) (s : Now S) (t : Now T) → r.rel c d s t → (s.task.steps ≡ t.task.steps) ⊎ (r.loose × (s.task.steps ≤ t.task.steps))

pub record Related {C D S T : Type 0} (r : Relation C D S T) (a : Ops C S) (b : Ops D T) : Type 0 where
  pub kept : Kept r
  pub pays : (cost : ℕ) (at : Place) → Alike r (pay cost at) (pay cost at)
  pub says : (bytes : List ℕ) → Alike r (say bytes) (say bytes)
  pub look : (x : Target) → Alike r (a.look x) (b.look x)
  pub write : (p : Spot) (v : ValueTree) → Alike r (a.write p v) (b.write p v)
  pub under : (mode : Mode) (n : ℕ) (p : Spot) (f : Run C S Flow) (g : Run D T Flow) → Alike r f g → Alike r (a.under mode n p f) (b.under mode n p g)
  pub call : (size : ℕ) (given : List Passed) (f : Run C S Flow) (g : Run D T Flow) → Alike r f g → Alike r (a.call size given f) (b.call size given g)
  pub spawn : (h k size : ℕ) (given : List Passed) (f : Run C S Flow) (g : Run D T Flow) → Alike r f g → Alike r (a.spawn h k size given f) (b.spawn h k size given g)
  pub await : (h : ℕ) → Alike r (a.await h) (b.await h)
