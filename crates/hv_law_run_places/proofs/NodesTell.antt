-- A node names only places of its program.
use Rattle.std.proofs.Common.{◌≡◌, ℕ, zero, suc, pos, negsuc, List, [], ◌∷◌, ◌++◌, Option, Some, None, IfSome, Contains, subst}
use Rattle.hv_tree.specs.declared.place.Place.{Place}
use Rattle.hv_tree.specs.Core.{Core}
use Rattle.hv_value.specs.ValueTree.{ValueTree, Hole, Number, Truth, Fields, Elements, Closure}
use Rattle.hv_value.specs.declared.value.PathStep.{PathStep}
use Rattle.hv_value.specs.declared.value.PathStep.TheVariants.{Field, At}
use Rattle.hv_value.specs.Places.{nth}
use Rattle.hv_value.specs.Walk.{Link, ToField, ToIndex, Reached, Reaches, Outside, Lost, after_step, onward, step_on, walk}
use Rattle.hv_sem_copying.specs.declared.end.TrapKind.TheVariants as trap_kind
use Rattle.hv_sem_copying.specs.declared.end.Cause.TheVariants.{Holes, Tasks}
use Rattle.hv_sem_copying.specs.Node.{End, Node, nodes}
use Rattle.hv_sem_copying.specs.Run.{Res, Is, Halted, Trap, Spent, Stuck, Now, Run, Flow}
use Rattle.hv_sem_copying.specs.Ops.{Target, Spot, Mode, Reads, Writes, Sets, Passed}
use Rattle.hv_sem_copying.specs.Copying.{Locals, tree_at, with_tree, arrived, at_spot, written, opened, without, write_back, closed, entering, returned, copying}
use Rattle.hv_sem_copying.specs.Meaning.{start, run_of, below_root, main_in, node_by, root_by, node_of}
use Rattle.hv_law_places.specs.Places.{places_of, IsIn}
use Rattle.hv_law_run_places.specs.NodePlaces.{in_node}
use Rattle.hv_lemmas.proofs.Each.{Each, each_at, each_contained}
use Rattle.hv_law_run_places.proofs.Tells.{Tells, Any, Named, LinkTells, Telling, next, pure_tells, stuck_tells, trap_tells, known_tells, mine_tells, become_tells}
use Rattle.hv_law_run_places.proofs.TreesTell.{runs_tell}

module _ (P : Place → Type 0) where
  -- ---- ways into a tree

  abbrev ReachedTells : Reached Place → Type 0
  ReachedTells (Reaches p u) = Unit {0}
  ReachedTells (Outside at) = P at
  ReachedTells Lost = Unit {0}

  after_tells : (s : PathStep) (r : Reached Place) → ReachedTells r → ReachedTells (after_step s r)
  after_tells s (Reaches p u) h = tt
  after_tells s (Outside at) h = h
  after_tells s Lost h = tt

  onward_tells : (go : ValueTree → Reached Place) (s : PathStep) (other : Reached Place) (c : Option ValueTree) → ((u : ValueTree) → ReachedTells (go u)) → ReachedTells other → ReachedTells (onward go s other c)
  onward_tells go s other None h k = k
  onward_tells go s other (Some c) h k = after_tells s (go c) (h c)

  step_tells : (go : ValueTree → Reached Place) (l : Link Place) (t : ValueTree) → ((u : ValueTree) → ReachedTells (go u)) → LinkTells P l → ReachedTells (step_on go l t)
  step_tells go (ToField k) (Fields ts) h e = onward_tells go (Field k) Lost (nth ts k) h tt
  step_tells go (ToField k) Hole h e = tt
  step_tells go (ToField k) (Number z) h e = tt
  step_tells go (ToField k) (Truth b) h e = tt
  step_tells go (ToField k) (Elements ts) h e = tt
  step_tells go (ToField k) (Closure f ts) h e = tt
  step_tells go (ToIndex (pos k) at) (Elements ts) h e = onward_tells go (At k) (Outside at) (nth ts k) h e
  step_tells go (ToIndex (negsuc k) at) (Elements ts) h e = e
  step_tells go (ToIndex (pos k) at) Hole h e = tt
  step_tells go (ToIndex (negsuc k) at) Hole h e = tt
  step_tells go (ToIndex (pos k) at) (Number w) h e = tt
  step_tells go (ToIndex (negsuc k) at) (Number w) h e = tt
  step_tells go (ToIndex (pos k) at) (Truth b) h e = tt
  step_tells go (ToIndex (negsuc k) at) (Truth b) h e = tt
  step_tells go (ToIndex (pos k) at) (Fields ts) h e = tt
  step_tells go (ToIndex (negsuc k) at) (Fields ts) h e = tt
  step_tells go (ToIndex (pos k) at) (Closure f ts) h e = tt
  step_tells go (ToIndex (negsuc k) at) (Closure f ts) h e = tt

  walk_tells : (ls : List (Link Place)) (t : ValueTree) → Each (LinkTells P) ls → ReachedTells (walk ls t)
  walk_tells [] t h = tt
  walk_tells (l ∷ ls) t h = step_tells (walk ls) l t (λ u. walk_tells ls u h.1) h.0

  -- ---- the operations

  abbrev Goes : {X : Type 0} → Run (Unit {0}) Locals X → Type 0
  Goes p = Tells P Any p

  arrived_tells : (x : Target) (r : Reached Place) → ReachedTells r → Goes (arrived x r)
  arrived_tells x (Reaches p u) h = pure_tells (record { root = x.root; written = x.written; path = p }, u) tt
  arrived_tells x (Outside at) h = trap_tells trap_kind.Index at h
  arrived_tells x Lost h = stuck_tells Holes

  opened_tells : (r : ℕ) (p : Spot) → Goes (opened r p)
  opened_tells r p = next mine_tells (λ e. next (known_tells Holes (at_spot e p)) (λ t. become_tells (with_tree e r t)))

  write_back_tells : (r : ℕ) (p : Spot) → Goes (write_back r p)
  write_back_tells r p = next mine_tells (λ e. next (known_tells Holes (at_spot e p)) (λ old. become_tells (without (written e p (tree_at e r)) r)))

  closed_tells : (mode : Mode) (r : ℕ) (p : Spot) → Goes (closed mode r p)
  closed_tells Reads r p = next mine_tells (λ e. become_tells (without e r))
  closed_tells Writes r p = write_back_tells r p
  closed_tells Sets r p = write_back_tells r p

  copying_tells : Telling P copying
  copying_tells = record {
    look = λ x h. next mine_tells (λ e. arrived_tells x (walk x.links (tree_at e x.root)) (walk_tells x.links (tree_at e x.root) h));
    write = λ p v. next mine_tells (λ e. next (known_tells Holes (at_spot e p)) (λ old. become_tells (written e p v)));
    under = λ mode r p go h. next (opened_tells r p) (λ begun. next h (λ flow. next (closed_tells mode r p) (λ done. pure_tells flow tt)));
    call = λ size given go h.
        next mine_tells (λ e.
        next (become_tells (entering e given)) (λ begun.
        next h (λ flow. next mine_tells (λ callee. next (become_tells (returned 0 e given callee)) (λ done. pure_tells flow tt)))));
    spawn = λ h k size given go g. stuck_tells Tasks;
    await = λ h. stuck_tells Tasks;
  }

  -- ---- the root

  node_tells : (budget : ℕ) (x : Res (Now Locals × Flow)) → Named P Any x → IfSome (node_by budget x) (λ node. Each P (in_node node))
  node_tells budget (Is r) h = h.0
  node_tells budget (Halted (Trap kind at id) t) h = h
  node_tells budget (Halted (Spent at id) t) h = h
  node_tells budget (Halted (Stuck cause) t) h = tt

  root_tells : (tree : Core) → Each P (places_of tree) → (budget : ℕ) (f : Option ℕ) → IfSome (root_by tree budget f) (λ node. Each P (in_node node))
  root_tells tree all budget None = tt
  root_tells tree all budget (Some f) = node_tells budget (run_of tree below_root f 0 tt (start budget)) ((runs_tell P copying copying_tells tree all below_root f).tells 0 tt (start budget) tt)

  of_node : (tree : Core) → Each P (places_of tree) → (budget : ℕ) → IfSome (node_of tree budget) (λ node. Each P (in_node node))
  unfolding node_of
  of_node tree all budget = root_tells tree all budget (main_in tree)

pub nodes_tell : (tree : Core) (budget : ℕ) (node : Node) → node_of tree budget ≡ Some node → (place : Place) → Contains (in_node node) place → IsIn place tree
nodes_tell tree budget node e place h =
    let P : Place → Type 0 = Contains (places_of tree) in
    each_at P (in_node node) place (subst (λ o. IfSome o (λ n. Each P (in_node n))) e (of_node P tree (each_contained (places_of tree)) budget)) h
