-- Copying compared with itself, where the tasks may differ and the locals don't.
use Rattle.std.proofs.Common.{◌≡◌, ◌≤◌, ◌⊎◌, ℕ, List, refl}
use Rattle.hv_tree.specs.declared.place.Place.{Place}
use Rattle.hv_value.specs.ValueTree.{ValueTree}
use Rattle.hv_value.specs.Walk.{Reached, Reaches, Outside, Lost, walk}
use Rattle.hv_sem_copying.specs.declared.end.TrapKind.TheVariants as trap_kind
use Rattle.hv_sem_copying.specs.declared.end.Cause.TheVariants.{Holes, Tasks}
use Rattle.hv_sem_copying.specs.Run.{Task, Run, Flow, pay, say, mine, become}
use Rattle.hv_sem_copying.specs.Ops.{Target, Spot, Mode, Reads, Writes, Sets, Passed}
use Rattle.hv_sem_copying.specs.Copying.{Locals, tree_at, with_tree, arrived, at_spot, written, opened, without, write_back, closed, entering, returned, copying}
use Rattle.hv_sem_copying.specs.Alike.{Relation, Alike, Kept, Related}
use Rattle.hv_sem_copying.proofs.Both.{bind, pure_alike, stuck_alike, trap_alike, known_alike}

-- the same locals; tasks in Q, and what they keep in K
abbrev pub same_locals : Type 0 → (Task → Task → Type 0) → (Task → Task → Type 0) → Relation (Unit {0}) (Unit {0}) Locals Locals
same_locals L Q K = record {
  loose = L;
  rel = λ c d s t. (s.own ≡ t.own) × Q s.task t.task;
  keeps = λ c d t u. K t.task u.task;
  halts = λ c d t x y. Q x y × K t.task y;
}

-- what has to be known of the tasks
pub record Facts (L : Type 0) (Q K : Task → Task → Type 0) : Type 0 where
  pub still : (t : Task) → K t t
  pub chain : (t u w : Task) → K t u → K u w → K t w
  pub same_id : (t u : Task) → Q t u → t.id ≡ u.id
  pub limit : (t u : Task) → Q t u → (t.steps ≡ u.steps) ⊎ (L × (t.steps ≤ u.steps))
  pub pays : (cost : ℕ) (at : Place) → Alike (same_locals L Q K) (pay cost at) (pay cost at)
  pub says : (bytes : List ℕ) → Alike (same_locals L Q K) (say bytes) (say bytes)

module _ (L : Type 0) (Q K : Task → Task → Type 0) (facts : Facts L Q K) where
  abbrev r : Relation (Unit {0}) (Unit {0}) Locals Locals
  r = same_locals L Q K

  kept : Kept r
  kept = record {
    still = λ c d t. facts.still t.task;
    chain = λ c d t t1 t2 k l. facts.chain t.task t1.task t2.task k l;
    later = λ c d t t1 x y k h. (h.0, facts.chain t.task t1.task y k h.1);
    halted = λ c d s t e. (facts.same_id s.task t.task e.1, (e.1, facts.still t.task));
    limit = λ c d s t e. facts.limit s.task t.task e.1;
  }

  mine_alike : Alike r mine mine
  unfolding mine
  mine_alike = record { alike = λ n c d s t e. (e, facts.still t.task, e.0) }

  become_alike : (own : Locals) → Alike r (become own) (become own)
  unfolding become
  become_alike own = record { alike = λ n c d s t e. ((refl, e.1), facts.still t.task, refl) }

  arrived_alike : (x : Target) (w : Reached Place) → Alike r (arrived x w) (arrived x w)
  arrived_alike x (Reaches p u) = pure_alike r kept (record { root = x.root; written = x.written; path = p }, u)
  arrived_alike x (Outside at) = trap_alike r kept trap_kind.Index at
  arrived_alike x Lost = stuck_alike r kept Holes

  look_alike : (x : Target) → Alike r (copying.look x) (copying.look x)
  look_alike x = bind r kept mine_alike (λ e. arrived_alike x (walk x.links (tree_at e x.root)))

  write_alike : (p : Spot) (v : ValueTree) → Alike r (copying.write p v) (copying.write p v)
  write_alike p v = bind r kept mine_alike (λ e. bind r kept (known_alike r kept Holes (at_spot e p)) (λ old. become_alike (written e p v)))

  opened_alike : (n : ℕ) (p : Spot) → Alike r (opened n p) (opened n p)
  opened_alike n p = bind r kept mine_alike (λ e. bind r kept (known_alike r kept Holes (at_spot e p)) (λ t. become_alike (with_tree e n t)))

  write_back_alike : (n : ℕ) (p : Spot) → Alike r (write_back n p) (write_back n p)
  write_back_alike n p =
      bind r kept mine_alike (λ e. bind r kept (known_alike r kept Holes (at_spot e p)) (λ old. become_alike (without (written e p (tree_at e n)) n)))

  closed_alike : (mode : Mode) (n : ℕ) (p : Spot) → Alike r (closed mode n p) (closed mode n p)
  closed_alike Reads n p = bind r kept mine_alike (λ e. become_alike (without e n))
  closed_alike Writes n p = write_back_alike n p
  closed_alike Sets n p = write_back_alike n p

  under_alike : (mode : Mode) (n : ℕ) (p : Spot) (f g : Run (Unit {0}) Locals Flow) → Alike r f g → Alike r (copying.under mode n p f) (copying.under mode n p g)
  under_alike mode n p f g h =
      bind r kept (opened_alike n p) (λ begun. bind r kept h (λ flow. bind r kept (closed_alike mode n p) (λ done. pure_alike r kept flow)))

  call_alike : (size : ℕ) (given : List Passed) (f g : Run (Unit {0}) Locals Flow) → Alike r f g → Alike r (copying.call size given f) (copying.call size given g)
  call_alike size given f g h =
      bind r kept mine_alike (λ e.
      bind r kept (become_alike (entering e given)) (λ begun.
      bind r kept h (λ flow. bind r kept mine_alike (λ callee. bind r kept (become_alike (returned 0 e given callee)) (λ done. pure_alike r kept flow)))))

  pub copies_related : Related r copying copying
  copies_related = record {
    kept = kept;
    pays = facts.pays;
    says = facts.says;
    look = look_alike;
    write = write_alike;
    under = under_alike;
    call = call_alike;
    spawn = λ h k size given f g e. stuck_alike r kept Tasks;
    await = λ h. stuck_alike r kept Tasks;
  }
