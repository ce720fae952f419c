-- The kind of state in which each access is a copy, which is written back when it ends.
use Rattle.std.specs.Prelude.{ℕ, zero, suc, List, [], ◌∷◌, get_or, Option}
use Rattle.hv_tree.specs.declared.place.Place.{Place}
use Rattle.hv_value.specs.ValueTree.{ValueTree, Hole}
use Rattle.hv_value.specs.Places.{get, put}
use Rattle.hv_value.specs.Walk.{Reached, Reaches, Outside, Lost, walk}
use Rattle.hv_sem_copying.specs.declared.end.TrapKind.TheVariants as trap_kind
use Rattle.hv_sem_copying.specs.declared.end.Cause.TheVariants.{Holes, Tasks}
use Rattle.hv_sem_copying.specs.Run.{Run, ◌>>=◌, pure, stuck, trap, known, mine, become}
use Rattle.hv_sem_copying.specs.Ops.{Target, Spot, Mode, Reads, Writes, Sets, Passed, Value, Lent, Ops}

-- the locals of the body that runs, each a tree with holes, and the children under its handles
pub record Locals : Type 0 where
  pub trees : List ValueTree
  pub handles : List (ℕ × ℕ)

abbrev pub tree_at : Locals → ℕ → ValueTree
tree_at e x = get_or e.trees x Hole

abbrev pub change_at : List ValueTree → ℕ → ValueTree → List ValueTree
change_at [] zero t = t ∷ []
change_at [] (suc x) t = Hole ∷ change_at [] x t
change_at (u ∷ us) zero t = t ∷ us
change_at (u ∷ us) (suc x) t = u ∷ change_at us x t

-- another tree under the number
abbrev pub with_tree : Locals → ℕ → ValueTree → Locals
with_tree e x t = record e { trees = change_at e.trees x t }

-- ---- places

-- where the indices lead
abbrev pub arrived : {C S : Type 0} → Target → Reached Place → Run C S (Spot × ValueTree)
arrived t (Reaches p u) = pure (record { root = t.root; written = t.written; path = p }, u)
arrived t (Outside at) = trap trap_kind.Index at
arrived t Lost = stuck Holes

abbrev pub at_spot : Locals → Spot → Option ValueTree
at_spot e p = get (tree_at e p.root) p.path

-- the locals with another tree at a place
abbrev pub written : Locals → Spot → ValueTree → Locals
written e p t = with_tree e p.root (put (tree_at e p.root) p.path t)

-- ---- accesses

-- the reference stands for a copy of the place
abbrev pub opened : {C : Type 0} → ℕ → Spot → Run C Locals (Unit {0})
opened r p = mine >>= (λ e. known Holes (at_spot e p) >>= (λ t. become (with_tree e r t)))

-- a reference that is closed stands for nothing
abbrev pub without : Locals → ℕ → Locals
without e r = with_tree e r Hole

-- what it stands for goes back to its place, which must be there
abbrev pub write_back : {C : Type 0} → ℕ → Spot → Run C Locals (Unit {0})
write_back r p = mine >>= (λ e. known Holes (at_spot e p) >>= (λ old. become (without (written e p (tree_at e r)) r)))

abbrev pub closed : {C : Type 0} → Mode → ℕ → Spot → Run C Locals (Unit {0})
closed Reads r p = mine >>= (λ e. become (without e r))
closed Writes r p = write_back r p
closed Sets r p = write_back r p

-- ---- calls

abbrev pub first_tree : Locals → Passed → ValueTree
first_tree e (Value mode t) = t
first_tree e (Lent r) = tree_at e r

abbrev pub callee_trees : Locals → List Passed → List ValueTree
callee_trees e [] = []
callee_trees e (a ∷ more) = first_tree e a ∷ callee_trees e more

-- a body begins with what it is entered with, and no handle
abbrev pub entering : Locals → List Passed → Locals
entering e given = record { trees = callee_trees e given; handles = [] }

-- each lent reference takes what its parameter was at the end; the parameters are counted from i
abbrev pub returned : ℕ → Locals → List Passed → Locals → Locals
returned i e [] callee = e
returned i e (Value mode t ∷ more) callee = returned (suc i) e more callee
returned i e (Lent r ∷ more) callee = returned (suc i) (with_tree e r (tree_at callee i)) more callee

-- ---- the operations

abbrev pub copying : Ops (Unit {0}) Locals
copying = record {
  look = λ t. mine >>= (λ e. arrived t (walk t.links (tree_at e t.root)));
  write = λ p t. mine >>= (λ e. known Holes (at_spot e p) >>= (λ old. become (written e p t)));
  under = λ mode r p go. opened r p >>= (λ begun. go >>= (λ flow. closed mode r p >>= (λ done. pure flow)));
  call = λ size given go.
      mine >>= (λ e.
      become (entering e given) >>= (λ begun.
      go >>= (λ flow. mine >>= (λ callee. become (returned 0 e given callee) >>= (λ done. pure flow)))));
  spawn = λ h k size given go. stuck Tasks;
  await = λ h. stuck Tasks;
}
