-- A task with more steps does the same, unless it is spent.
use Rattle.std.proofs.Common.{◌≡◌, ◌≤◌, inr, ℕ, ◌+◌, ◌-◌, Bool, true, false, nat_le, if◌then◌else◌, List, ◌++◌, Option, Some, None, refl, sym, subst, ◌∙◌, ap, arith}
use Rattle.std.proofs.lemmas.Bool.{le-leb, leb-true}
use Rattle.hv_tree.specs.declared.place.Place.{Place}
use Rattle.hv_tree.specs.Core.{Core}
use Rattle.hv_sem_copying.specs.Node.{End, Done, Trapped, SpentAt, Node, NodeOf, nodes, end_of}
use Rattle.hv_sem_copying.specs.Run.{Task, Res, Is, Halted, Trap, Spent, Stuck, Now, Flow, pay, say}
use Rattle.hv_sem_copying.specs.Copying.{Locals, copying}
use Rattle.hv_sem_copying.specs.Calls.{result_of}
use Rattle.hv_sem_copying.specs.Meaning.{run_of, node, node_by, node_of, root_by, start, below_root, main_in}
use Rattle.hv_sem_copying.specs.Alike.{Both, Relation, Ends, Alike}
use Rattle.hv_sem_copying.specs.Laws.{is_spent}
use Rattle.hv_sem_copying.proofs.Both.{loose_spent}
use Rattle.hv_sem_copying.proofs.Copies.{same_locals, Facts, copies_related}
use Rattle.hv_sem_copying.proofs.Generic.{related_runs}

abbrev richer : ℕ → Task → Task
richer k t = record t { steps = t.steps + k }

module _ (k : ℕ) where
  abbrev Richer : Task → Task → Type 0
  Richer t u = u ≡ richer k t

  abbrev Any : Task → Task → Type 0
  Any t u = Unit {0}

  abbrev rich : Relation (Unit {0}) (Unit {0}) Locals Locals
  rich = same_locals (Unit {0}) Richer Any

  abbrev now : Task → Locals → Now Locals
  now t own = record { task = t; own = own }

  still_enough : (cost : ℕ) (t : Task) → nat_le cost t.steps ≡ true → nat_le cost (t.steps + k) ≡ true
  still_enough cost t e = le-leb cost (t.steps + k) (let h = leb-true cost t.steps e in omega (arith, h))

  rest : (cost steps : ℕ) → cost ≤ steps → steps + k - cost ≡ steps - cost + k
  rest cost steps h = omega (arith, h)

  if_true : {A : Type 0} (b : Bool) (x y : A) → b ≡ true → x ≡ (if b then x else y)
  if_true true x y e = refl
  if_true false x y e = cc

  paid_by : (b : Bool) (cost : ℕ) (at : Place) (t : Task) (own own' : Locals) → own ≡ own' → nat_le cost t.steps ≡ b →
      Both (Unit {0}) (rich.halts tt tt (now (richer k t) own')) (Ends {X = Unit {0}} rich tt tt (now (richer k t) own'))
      (if b then Is (now (record t { steps = t.steps - cost }) own, tt) else Halted (Spent at t.id) t)
      (if nat_le cost (t.steps + k) then Is (now (record t { steps = t.steps + k - cost }) own', tt) else Halted (Spent at t.id) (richer k t))
  paid_by true cost at t own own' e h =
      subst (Both (Unit {0}) (rich.halts tt tt (now (richer k t) own')) (Ends {X = Unit {0}} rich tt tt (now (richer k t) own')) (Is (now (record t { steps = t.steps - cost }) own, tt)))
      (if_true (nat_le cost (t.steps + k)) (Is (now (record t { steps = t.steps + k - cost }) own', tt)) (Halted (Spent at t.id) (richer k t)) (still_enough cost t h))
      ((e, ap (λ n. record t { steps = n }) (rest cost t.steps (leb-true cost t.steps h))), tt, refl)
  paid_by false cost at t own own' e h =
      loose_spent (Unit {0}) (rich.halts tt tt (now (richer k t) own')) (Ends {X = Unit {0}} rich tt tt (now (richer k t) own')) at t.id t _ tt

  pays : (cost : ℕ) (at : Place) → Alike rich (pay cost at) (pay cost at)
  unfolding pay
  pays cost at = record {
    alike = λ n c d s t e.
        subst (λ u. Both (Unit {0}) (rich.halts tt tt (now u t.own)) (Ends {X = Unit {0}} rich tt tt (now u t.own)) (pay {C = Unit {0}} cost at n tt s) (pay {C = Unit {0}} cost at n tt (now u t.own))) (sym e.1)
        (paid_by (nat_le cost s.task.steps) cost at s.task s.own t.own e.0 refl);
  }

  abbrev adding : List ℕ → Task → Task
  adding bytes t = record t { output = t.output ++ bytes }

  says : (bytes : List ℕ) → Alike rich (say bytes) (say bytes)
  unfolding say
  says bytes = record { alike = λ n c d s t e. ((e.0, ap (adding bytes) e.1), tt, refl) }

  facts : Facts (Unit {0}) Richer Any
  facts = record {
    still = λ t. tt;
    chain = λ t u w h i. tt;
    same_id = λ t u e. sym (ap (λ x. x.id) e);
    limit = λ t u e. inr (tt, at_most t u e);
    pays = pays;
    says = says;
  }
    where
      at_most : (t u : Task) → u ≡ richer k t → t.steps ≤ u.steps
      at_most t u e = let h = ap (λ x. x.steps) e in omega (arith, h)

  same_used : (budget : ℕ) (steps : ℕ) → budget + k - (steps + k) ≡ budget - steps
  same_used budget steps = omega arith

  same_node : (budget : ℕ) (e : End) (t u : Task) → u ≡ richer k t → node (budget + k) e u ≡ node budget e t
  same_node budget e t u h = ap (node (budget + k) e) h ∙ ap (λ n. NodeOf t.id n e t.output (nodes t.children)) (same_used budget t.steps)

  not_spent : (a n : Node) → is_spent (end_of a) ≡ true → Some a ≡ Some n → is_spent (end_of n) ≡ false → ⊥
  not_spent a n h e f = cc

  by_result : (budget : ℕ) (x y : Res (Now Locals × Flow)) (t : Now Locals) (n : Node) → Both (Unit {0}) (rich.halts tt tt t) (Ends rich tt tt t) x y → node_by budget x ≡ Some n → is_spent (end_of n) ≡ false → node_by (budget + k) y ≡ Some n
  by_result budget (Is a) (Is b) t n h e f =
      ap (λ w. Some (node (budget + k) (Done (result_of w)) b.0.task)) (sym h.2) ∙ (ap (λ m. Some m) (same_node budget (Done (result_of a.1)) a.0.task b.0.task h.0.1) ∙ e)
  by_result budget (Is a) (Halted (Trap kind at id) u) t n h e f = absurd h
  by_result budget (Is a) (Halted (Spent at id) u) t n h e f = absurd h
  by_result budget (Is a) (Halted (Stuck cause) w) t n h e f = absurd h
  by_result budget (Halted (Trap kind at id) u) (Halted (Trap kind' at' id') u') t n h e f =
      ap (λ m. Some m) (ap (λ z. node (budget + k) (Trapped z at' id') u') (sym h.0) ∙ (ap (λ z. node (budget + k) (Trapped kind z id') u') (sym h.1) ∙ (ap (λ z. node (budget + k) (Trapped kind at z) u') (sym h.2) ∙ same_node budget (Trapped kind at id) u u' h.3.0))) ∙ e
  by_result budget (Halted (Trap kind at id) u) (Is b) t n h e f = absurd h
  by_result budget (Halted (Trap kind at id) u) (Halted (Spent at' id') u') t n h e f = absurd h
  by_result budget (Halted (Trap kind at id) u) (Halted (Stuck cause) w) t n h e f = absurd h
  by_result budget (Halted (Spent at id) u) y t n h e f = absurd (not_spent (node budget (SpentAt at id) u) n refl e f)
  by_result budget (Halted (Stuck cause) w) y t n h e f = cc

  root_same : (tree : Core) (budget : ℕ) (f : Option ℕ) (n : Node) → root_by tree budget f ≡ Some n → is_spent (end_of n) ≡ false → root_by tree (budget + k) f ≡ Some n
  root_same tree budget None n e h = cc
  root_same tree budget (Some f) n e h =
      by_result budget (run_of tree below_root f 0 tt (start budget)) (run_of tree below_root f 0 tt (start (budget + k))) (start (budget + k)) n
      ((related_runs rich copying copying (copies_related (Unit {0}) Richer Any facts) tree below_root f).alike 0 tt tt (start budget) (start (budget + k)) (refl, refl)) e h

pub richer_same : (tree : Core) (budget more : ℕ) (n : Node) → node_of tree budget ≡ Some n → is_spent (end_of n) ≡ false → node_of tree (budget + more) ≡ Some n
unfolding node_of
richer_same tree budget more n e h = root_same more tree budget (main_in tree) n e h
