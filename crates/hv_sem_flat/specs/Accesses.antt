-- Places that are there, and accesses that open and close on their own.
use Rattle.std.specs.Prelude.{ℕ, List, [], ◌∷◌, Option}
use Rattle.hv_tree.specs.declared.place.Place.{Place}
use Rattle.hv_value.specs.ValueTree.{ValueTree}
use Rattle.hv_value.specs.Places.{Path, get, put}
use Rattle.hv_value.specs.Walk.{Link, Reached, Reaches, Outside, Lost, walk}
use Rattle.hv_sem_copying.specs.declared.end.TrapKind.TheVariants as trap_kind
use Rattle.hv_sem_copying.specs.declared.end.Cause.TheVariants.{Holes}
use Rattle.hv_sem_copying.specs.Run.{Run, Flow, ◌>>=◌, pure, stuck, trap, known, mine, become}
use Rattle.hv_sem_copying.specs.Ops.{Mode, Reads, Writes, Sets}
use Rattle.hv_sem_copying.specs.Copying.{Locals, tree_at, with_tree, without}

-- what is done with locals that are copies
abbrev pub Plain : Type 0 → Type 0
Plain A = Run (Unit {0}) Locals A

-- a place in a local
pub record Spot : Type 0 where
  pub root : ℕ
  pub path : Path

abbrev pub stands_at : Locals → Spot → Option ValueTree
stands_at e p = get (tree_at e p.root) p.path

abbrev pub written : Locals → Spot → ValueTree → Locals
written e p t = with_tree e p.root (put (tree_at e p.root) p.path t)

-- what stands at the place, which must be there
unfoldable pub there : Spot → Plain ValueTree
there p = mine >>= (λ e. known Holes (stands_at e p))

unfoldable pub put_at : Spot → ValueTree → Plain (Unit {0})
put_at p t = mine >>= (λ e. known Holes (stands_at e p) >>= (λ old. become (written e p t)))

abbrev pub arrived : ℕ → Reached Place → Plain Spot
arrived x (Reaches p t) = pure (record { root = x; path = p })
arrived x (Outside at) = trap trap_kind.Index at
arrived x Lost = stuck Holes

-- where the indices lead in a local
unfoldable pub look : ℕ → List (Link Place) → Plain Spot
look x links = mine >>= (λ e. arrived x (walk links (tree_at e x)))

-- ---- accesses

-- a reference that stands for a place
pub record Access : Type 0 where
  pub mode : Mode
  pub reference : ℕ
  pub place : Spot

abbrev pub access : Mode → ℕ → Spot → Access
access mode r p = record { mode = mode; reference = r; place = p }

-- what stands there is copied
unfoldable pub opened : Access → Plain (Unit {0})
opened a = mine >>= (λ e. known Holes (stands_at e a.place) >>= (λ t. become (with_tree e a.reference t)))

unfoldable pub dropped : ℕ → Plain (Unit {0})
dropped r = mine >>= (λ e. become (without e r))

-- the copy goes back to its place, which must be there
unfoldable pub returned : ℕ → Spot → Plain (Unit {0})
returned r p = mine >>= (λ e. known Holes (stands_at e p) >>= (λ old. become (without (written e p (tree_at e r)) r)))

abbrev pub closed_by : Mode → ℕ → Spot → Plain (Unit {0})
closed_by Reads r p = dropped r
closed_by Writes r p = returned r p
closed_by Sets r p = returned r p

abbrev pub closed : Access → Plain (Unit {0})
closed a = closed_by a.mode a.reference a.place

-- the last opened is the first of the list
abbrev pub all_closed : List Access → Plain (Unit {0})
all_closed [] = pure tt
all_closed (a ∷ opens) = closed a >>= (λ done. all_closed opens)

-- accesses are closed, and the flow stays
abbrev pub shut : List Access → Flow → Plain Flow
shut opens flow = all_closed opens >>= (λ done. pure flow)
