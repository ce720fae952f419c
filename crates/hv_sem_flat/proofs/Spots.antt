-- Places and accesses of both forms.
use Rattle.std.proofs.Common.{◌≡◌, ℕ, suc, List, [], ◌∷◌, Option, Some, None, refl, sym, ◌∙◌}
use Rattle.hv_tree.specs.declared.place.Place.{Place}
use Rattle.hv_decls.specs.declared.path.StaticStep.{StaticStep}
use Rattle.hv_value.specs.ValueTree.{ValueTree}
use Rattle.hv_value.specs.Walk.{Link, Reached, Reaches, Outside, Lost, walk}
use Rattle.hv_value.proofs.WalkLaws.{get_walk}
use Rattle.hv_sem_copying.specs.declared.end.Cause.{Cause}
use Rattle.hv_sem_copying.specs.declared.end.Cause.TheVariants.{Holes}
use Rattle.hv_sem_copying.specs.Run.{Is, after, Now, Flow, and_then, ◌>>=◌, pure, halt, trap, known, mine, become, counted_from, with_reference}
use Rattle.hv_sem_copying.specs.Ops as ops
use Rattle.hv_sem_copying.specs.Ops.{Target, Mode, Reads, Writes, Sets, Passed, Lent}
use Rattle.hv_sem_copying.specs.Copying as copying
use Rattle.hv_sem_copying.specs.Copying.{Locals, tree_at}
use Rattle.hv_sem_copying.proofs.RunLaws.{bind_assoc, pure_then, then_pure}
use Rattle.hv_sem_flat.specs.Accesses.{Plain, Spot, stands_at, there, put_at, arrived, look, Access, access, opened, dropped, returned, closed, all_closed, shut}
use Rattle.hv_sem_flat.proofs.Runs.{runs, both, later, split, counted_bind, counted_pure, counted_stuck}

abbrev pub written_spot : List StaticStep → Spot → ops.Spot
written_spot w p = record { root = p.root; written = w; path = p.path }

-- a place, and what stands there
abbrev pub seen : List StaticStep → Plain Spot → Plain (ops.Spot × ValueTree)
seen w q = q >>= (λ p. there p >>= (λ t. pure (written_spot w p, t)))

-- ---- what is found is there

pub looked : (x : Target) → copying.copying.look x ≡ seen x.written (look x.root x.links)
unfolding and_then pure halt mine there look trap
looked x = runs (λ n c s. go n c s (walk x.links (tree_at s.own x.root)) refl)
  where
    go : (n : ℕ) (c : Unit {0}) (s : Now Locals) (r : Reached Place) → walk x.links (tree_at s.own x.root) ≡ r → copying.arrived x r n c s ≡ after {A = Now Locals × Spot} (arrived x.root r n c s) (λ z. after {A = Now Locals × ValueTree} (known Holes (stands_at z.0.own z.1) n c z.0) (λ y. Is (y.0, (written_spot x.written z.1, y.1))))
    go n c s (Reaches p u) e = rw (get_walk x.links (tree_at s.own x.root) p u e) refl
    go n c s (Outside at) e = refl
    go n c s Lost e = refl

pub look_sure : (x : ℕ) (links : List (Link Place)) → look x links >>= (λ p. there p >>= (λ t. pure p)) ≡ look x links
unfolding and_then pure halt mine there look trap
look_sure x links = runs (λ n c s. go n c s (walk links (tree_at s.own x)) refl)
  where
    go : (n : ℕ) (c : Unit {0}) (s : Now Locals) (r : Reached Place) → walk links (tree_at s.own x) ≡ r → after {A = Now Locals × Spot} (arrived x r n c s) (λ z. after {A = Now Locals × ValueTree} (known Holes (stands_at z.0.own z.1) n c z.0) (λ y. Is (y.0, z.1))) ≡ arrived x r n c s
    go n c s (Reaches p u) e = rw (get_walk links (tree_at s.own x) p u e) refl
    go n c s (Outside at) e = refl
    go n c s Lost e = refl

-- a place of the one form as one of the other, which is there where it is found
pub record Sees (P : Plain (ops.Spot × ValueTree)) (Q : Plain Spot) : Type 0 where
  pub steps : List StaticStep
  pub same : P ≡ seen steps Q
  pub sure : Q >>= (λ p. there p >>= (λ t. pure p)) ≡ Q

-- what is done with the place and what stands there
pub seen_then : {A : Type 0} (P : Plain (ops.Spot × ValueTree)) (Q : Plain Spot) (h : Sees P Q) (K : ops.Spot × ValueTree → Plain A) → P >>= K ≡ Q >>= (λ p. there p >>= (λ t. K (written_spot h.steps p, t)))
seen_then P Q h K =
    both h.same (λ f. refl)
    ∙ split Q (λ p. there p >>= (λ t. pure (written_spot h.steps p, t))) K
    (λ p. split (there p) (λ t. pure (written_spot h.steps p, t)) K (λ t. pure_then (written_spot h.steps p, t) K))

-- what is done with the place alone
pub place_then : {A : Type 0} (P : Plain (ops.Spot × ValueTree)) (Q : Plain Spot) (h : Sees P Q) (K : ops.Spot → Plain A) → P >>= (λ f. K f.0) ≡ Q >>= (λ p. K (written_spot h.steps p))
place_then P Q h K =
    seen_then P Q h (λ f. K f.0)
    ∙ sym (split Q (λ p. there p >>= (λ t. pure p)) (λ p. K (written_spot h.steps p))
    (λ p. split (there p) (λ t. pure p) (λ p. K (written_spot h.steps p)) (λ t. pure_then p (λ p. K (written_spot h.steps p)))))
    ∙ both h.sure (λ p. refl)

-- ---- writing, opening and closing

pub wrote : (w : List StaticStep) (p : Spot) (t : ValueTree) → copying.copying.write (written_spot w p) t ≡ put_at p t
unfolding put_at
wrote w p t = refl

closing : (mode : Mode) (r : ℕ) (w : List StaticStep) (p : Spot) → copying.closed mode r (written_spot w p) ≡ closed (access mode r p)
unfolding dropped returned
closing Reads r w p = refl
closing Writes r w p = refl
closing Sets r w p = refl

opening : (mode : Mode) (r : ℕ) (w : List StaticStep) (p : Spot) → copying.opened r (written_spot w p) ≡ opened (access mode r p)
unfolding opened
opening mode r w p = refl

-- an access that is open while the rest runs: it opens, the rest runs, it closes
pub under_is : (mode : Mode) (r : ℕ) (w : List StaticStep) (p : Spot) (go : Plain Flow) → copying.copying.under mode r (written_spot w p) go ≡ opened (access mode r p) >>= (λ done. go >>= (λ v. closed (access mode r p) >>= (λ done. pure v)))
under_is mode r w p go = both (opening mode r w p) (λ done. later go (λ v. both (closing mode r w p) (λ done. refl)))

pub shut_nothing : (q : Plain Flow) → q >>= shut [] ≡ q
shut_nothing q = later q (λ v. pure_then tt (λ done. pure v)) ∙ then_pure q

-- one more access that is open
pub under_shut : (mode : Mode) (r : ℕ) (w : List StaticStep) (p : Spot) (go : Plain Flow) (opens : List Access) → copying.copying.under mode r (written_spot w p) go >>= shut opens ≡ opened (access mode r p) >>= (λ done. go >>= shut (access mode r p ∷ opens))
under_shut mode r w p go opens =
    both (under_is mode r w p go) (λ v. refl)
    ∙ split (opened (access mode r p)) (λ done. go >>= (λ v. closed (access mode r p) >>= (λ done. pure v))) (shut opens)
    (λ done. split go (λ v. closed (access mode r p) >>= (λ done. pure v)) (shut opens)
    (λ v. split (closed (access mode r p)) (λ done. pure v) (shut opens) (λ done. pure_then v (shut opens))
    ∙ sym (bind_assoc (closed (access mode r p)) (λ done. all_closed opens) (λ done. pure v))))

-- ---- none of it goes by the number of references in use

counted_mine : (m : ℕ) → ◌≡◌ {A = Plain Locals} (counted_from m mine) mine
unfolding counted_from mine
counted_mine m = refl

counted_become : (m : ℕ) (own : Locals) → ◌≡◌ {A = Plain (Unit {0})} (counted_from m (become own)) (become own)
unfolding counted_from become
counted_become m own = refl

counted_known : {X : Type 0} (m : ℕ) (cause : Cause) (o : Option X) → ◌≡◌ {A = Plain X} (counted_from m (known cause o)) (known cause o)
counted_known m cause None = counted_stuck m cause
counted_known m cause (Some x) = counted_pure m x

counted_then : {X Y : Type 0} (m : ℕ) (p : Plain X) (f : X → Plain Y) → counted_from m p ≡ p → ((x : X) → counted_from m (f x) ≡ f x) → counted_from m (p >>= f) ≡ p >>= f
counted_then m p f h k = counted_bind m p f ∙ both h k

counted_there : {X : Type 0} (m : ℕ) (f : Locals → Option X) (g : Locals → X → Locals) → ◌≡◌ {A = Plain (Unit {0})} (counted_from m (mine >>= (λ e. known Holes (f e) >>= (λ x. become (g e x))))) (mine >>= (λ e. known Holes (f e) >>= (λ x. become (g e x))))
counted_there m f g = counted_then m mine _ (counted_mine m) (λ e. counted_then m (known Holes (f e)) _ (counted_known m Holes (f e)) (λ x. counted_become m (g e x)))

counted_closed : (m : ℕ) (mode : Mode) (r : ℕ) (p : ops.Spot) → ◌≡◌ {A = Plain (Unit {0})} (counted_from m (copying.closed mode r p)) (copying.closed mode r p)
counted_closed m Reads r p = counted_then m mine _ (counted_mine m) (λ e. counted_become m (copying.without e r))
counted_closed m Writes r p = counted_there m (λ e. copying.at_spot e p) (λ e old. copying.without (copying.written e p (tree_at e r)) r)
counted_closed m Sets r p = counted_there m (λ e. copying.at_spot e p) (λ e old. copying.without (copying.written e p (tree_at e r)) r)

referenced : {X : Type 0} (m : ℕ) (p : ℕ → Plain X) → counted_from m (with_reference p) ≡ counted_from (suc m) (p m)
unfolding counted_from with_reference
referenced m p = refl

-- but the next reference has it
pub counted_lent : (m : ℕ) (mode : Mode) (p : ops.Spot) (go : Passed → Plain Flow) → counted_from m (with_reference (λ r. copying.copying.under mode r p (go (Lent r)))) ≡ copying.copying.under mode m p (counted_from (suc m) (go (Lent m)))
counted_lent m mode p go =
    referenced m (λ r. copying.copying.under mode r p (go (Lent r)))
    ∙ counted_bind (suc m) (copying.opened m p) (λ begun. go (Lent m) >>= (λ flow. copying.closed mode m p >>= (λ done. pure flow)))
    ∙ both (counted_there (suc m) (λ e. copying.at_spot e p) (λ e t. copying.with_tree e m t))
    (λ begun. counted_bind (suc m) (go (Lent m)) (λ flow. copying.closed mode m p >>= (λ done. pure flow))
    ∙ later (counted_from (suc m) (go (Lent m))) (λ flow. counted_then (suc m) (copying.closed mode m p) _ (counted_closed (suc m) mode m p) (λ done. counted_pure (suc m) flow)))
