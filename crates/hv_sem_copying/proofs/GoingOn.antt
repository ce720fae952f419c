-- Tasks only go on.
use Rattle.std.proofs.Common.{◌≡◌, ◌≤◌, inl, inr, ℕ, ◌-◌, Bool, true, false, nat_le, if◌then◌else◌, List, [], ◌++◌, Option, Some, None, IfSome, refl, sym, subst, ◌∙◌, ap, arith}
use Rattle.std.proofs.lemmas.List.{append_assoc, append-nil}
use Rattle.hv_tree.specs.declared.place.Place.{Place}
use Rattle.hv_tree.specs.Core.{Core}
use Rattle.hv_sem_copying.specs.Node.{used}
use Rattle.hv_sem_copying.specs.Run.{Task, Res, Is, Halted, Trap, Spent, Stuck, Now, Flow, pay, say}
use Rattle.hv_sem_copying.specs.Copying.{Locals, copying}
use Rattle.hv_sem_copying.specs.Meaning.{run_of, node_by, node_of, root_by, start, below_root, main_in}
use Rattle.hv_sem_copying.specs.Alike.{Both, Relation, Ends, Alike}
use Rattle.hv_sem_copying.specs.Laws.{Extends, Follows, Leaves}
use Rattle.hv_sem_copying.proofs.Copies.{same_locals, Facts, copies_related}
use Rattle.hv_sem_copying.proofs.Generic.{related_runs}

extends_itself : {A : Type 0} (l : List A) → Extends l l
extends_itself l = ([], sym (append-nil l))

extends_on : {A : Type 0} (a b c : List A) → Extends a b → Extends b c → Extends a c
extends_on a b c h k = (h.0 ++ k.0, k.1 ∙ (ap (λ l. l ++ k.0) h.1 ∙ append_assoc a h.0 k.0))

stays : (t : Task) → Follows t t
stays t = record { same_id = refl; steps_fall = omega arith; output_grows = extends_itself t.output; children_grow = extends_itself t.children }

follows_on : (t u w : Task) → Follows t u → Follows u w → Follows t w
follows_on t u w h k = record {
  same_id = k.same_id ∙ h.same_id;
  steps_fall = omega (arith, h.steps_fall, k.steps_fall);
  output_grows = extends_on t.output u.output w.output h.output_grows k.output_grows;
  children_grow = extends_on t.children u.children w.children h.children_grow k.children_grow;
}

abbrev kept : Relation (Unit {0}) (Unit {0}) Locals Locals
kept = same_locals ⊥ (λ t u. t ≡ u) Follows

paid : (cost : ℕ) (t : Task) → Follows t (record t { steps = t.steps - cost })
paid cost t = record { same_id = refl; steps_fall = omega arith; output_grows = extends_itself t.output; children_grow = extends_itself t.children }

said : (bytes : List ℕ) (t : Task) → Follows t (record t { output = t.output ++ bytes })
said bytes t = record { same_id = refl; steps_fall = omega arith; output_grows = (bytes, refl); children_grow = extends_itself t.children }

abbrev now : Task → Locals → Now Locals
now t own = record { task = t; own = own }

paid_by : (b : Bool) (cost : ℕ) (at : Place) (t : Task) (own own' : Locals) → own ≡ own' →
    Both ⊥ (kept.halts tt tt (now t own')) (Ends {X = Unit {0}} kept tt tt (now t own'))
    (if b then Is (now (record t { steps = t.steps - cost }) own, tt) else Halted (Spent at t.id) t)
    (if b then Is (now (record t { steps = t.steps - cost }) own', tt) else Halted (Spent at t.id) t)
paid_by true cost at t own own' e = ((e, refl), paid cost t, refl)
paid_by false cost at t own own' e = inr (refl, refl, (refl, stays t))

pays : (cost : ℕ) (at : Place) → Alike kept (pay cost at) (pay cost at)
unfolding pay
pays cost at = record {
  alike = λ n c d s t e.
      subst (λ u. Both ⊥ (kept.halts tt tt (now u t.own)) (Ends {X = Unit {0}} kept tt tt (now u t.own)) (pay {C = Unit {0}} cost at n tt s) (pay {C = Unit {0}} cost at n tt (now u t.own))) e.1
      (paid_by (nat_le cost s.task.steps) cost at s.task s.own t.own e.0);
}

abbrev adding : List ℕ → Task → Task
adding bytes t = record t { output = t.output ++ bytes }

says : (bytes : List ℕ) → Alike kept (say bytes) (say bytes)
unfolding say
says bytes = record {
  alike = λ n c d s t e. ((e.0, ap (adding bytes) e.1), said bytes t.task, refl);
}

facts : Facts ⊥ (λ t u. t ≡ u) Follows
facts = record {
  still = stays;
  chain = follows_on;
  same_id = λ t u e. ap (λ x. x.id) e;
  limit = λ t u e. inl (ap (λ x. x.steps) e);
  pays = pays;
  says = says;
}

leaves : (P : Task → Type 0) (x : Res (Now Locals × Flow)) (H : Task → Task → Type 0) (R : Now Locals × Flow → Now Locals × Flow → Type 0) → ((t u : Task) → H t u → P u) → ((a b : Now Locals × Flow) → R a b → P b.0.task) → Both ⊥ H R x x → Leaves P x
leaves P (Is r) H R f k h = k r r h
leaves P (Halted (Trap kind at id) t) H R f k h = f t t h.3
leaves P (Halted (Spent at id) t) H R f k (inl l) = absurd l
leaves P (Halted (Spent at id) t) H R f k (inr h) = f t t h.2
leaves P (Halted (Stuck cause) w) H R f k h = tt

pub goes_on : (tree : Core) (depth body references : ℕ) (s : Now Locals) → Leaves (Follows s.task) (run_of tree depth body references tt s)
goes_on tree depth body references s =
    leaves (Follows s.task) (run_of tree depth body references tt s) (kept.halts tt tt s) (Ends kept tt tt s) (λ t u h. h.1) (λ a b e. e.1)
    ((related_runs kept copying copying (copies_related ⊥ (λ t u. t ≡ u) Follows facts) tree depth body).alike references tt tt s s (refl, refl))

-- ---- budgets

within_by : (budget : ℕ) (x : Res (Now Locals × Flow)) → IfSome (node_by budget x) (λ node. used node ≤ budget)
within_by budget (Is r) = omega arith
within_by budget (Halted (Trap kind at id) t) = omega arith
within_by budget (Halted (Spent at id) t) = omega arith
within_by budget (Halted (Stuck cause) w) = tt

root_within : (tree : Core) (budget : ℕ) (f : Option ℕ) → IfSome (root_by tree budget f) (λ node. used node ≤ budget)
root_within tree budget None = tt
root_within tree budget (Some f) = within_by budget (run_of tree below_root f 0 tt (start budget))

pub within : (tree : Core) (budget : ℕ) → IfSome (node_of tree budget) (λ node. used node ≤ budget)
unfolding node_of
within tree budget = root_within tree budget (main_in tree)
