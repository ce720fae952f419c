-- Bodies and programs: both forms do the same.
use Rattle.std.proofs.Common.{◌≡◌, ℕ, zero, suc, List, length, Option, Some, None, refl, sym, ap, ◌∙◌}
use Rattle.std.specs.List.{slice_get}
use Rattle.hv_tree.specs.declared.place.Place.{Place}
use Rattle.hv_tree.specs.Core.{Core}
use Rattle.hv_decls.specs.Locals.{CoreBody, locals_of}
use Rattle.hv_sem_copying.specs.declared.end.TrapKind.TheVariants as trap_kind
use Rattle.hv_decls.specs.Sites.{bodies_of}
use Rattle.hv_sem_copying.specs.declared.end.Cause.TheVariants.{Kinds}
use Rattle.hv_sem_copying.specs.Run.{Flow, and_then, stuck, halt, mine, become, pure, trap, pay, counted_from}
use Rattle.hv_sem_copying.specs.Ops.{Passed}
use Rattle.hv_sem_copying.specs.Copying.{Locals, copying}
use Rattle.hv_sem_copying.specs.Calls.{Deeper, entered}
use Rattle.hv_sem_copying.specs.Evaluate as def
use Rattle.hv_sem_copying.specs.Meaning as meaning
use Rattle.hv_sem_copying.specs.Meaning.{below_root, start, node_by, main_in}
use Rattle.hv_sem_flat.specs.Accesses.{Plain}
use Rattle.hv_sem_flat.specs.Flat as flat
use Rattle.hv_sem_flat.specs.Programs as programs
use Rattle.hv_sem_flat.proofs.Runs.{runs, families, both, counted_bind}
use Rattle.hv_sem_flat.proofs.Constructs.{Steady}
use Rattle.hv_sem_flat.proofs.Whole.{block_same}

-- no activation goes by the number of references in use around it
abbrev Even : Deeper (Unit {0}) Locals → Type 0
Even None = Unit {0}
Even (Some run) = (m f : ℕ) → counted_from m (run f) ≡ run f

counted_call : (m size : ℕ) (ps : List Passed) (go : Plain Flow) → counted_from m (copying.call size ps go) ≡ copying.call size ps (counted_from m go)
unfolding counted_from and_then mine become pure
counted_call m size ps go = runs (λ n c s. refl)

counted_pay : (m cost : ℕ) (at : Place) → counted_from {C = Unit {0}} {S = Locals} m (pay cost at) ≡ pay cost at
unfolding counted_from pay
counted_pay m cost at = runs (λ n c s. refl)

counted_deep : (m : ℕ) (at : Place) → counted_from {C = Unit {0}} {S = Locals} {A = Flow} m (trap trap_kind.TooDeep at) ≡ trap trap_kind.TooDeep at
unfolding counted_from trap
counted_deep m at = runs (λ n c s. refl)

entered_steady : (deeper : Deeper (Unit {0}) Locals) → Even deeper → (at : Place) (f : ℕ) (body : CoreBody) → Steady (entered copying deeper at f body)
entered_steady None e at f body m ps = counted_deep m at
entered_steady (Some run) e at f body m ps =
    counted_bind m (pay 1 at) (λ paid. copying.call (length (locals_of body)) ps (run f))
    ∙ both (counted_pay m 1 at) (λ paid. counted_call m (length (locals_of body)) ps (run f) ∙ ap (copying.call (length (locals_of body)) ps) (e m f))

counted_twice : (m k : ℕ) (p : Plain Flow) → counted_from m (counted_from k p) ≡ counted_from k p
unfolding counted_from
counted_twice m k p = runs (λ n c s. refl)

counted_none : (m : ℕ) → counted_from {C = Unit {0}} {S = Locals} {A = Flow} m (stuck Kinds) ≡ stuck Kinds
unfolding counted_from halt
counted_none m = runs (λ n c s. refl)

body_even : (tree : Core) (deeper : Deeper (Unit {0}) Locals) (body : Option CoreBody) (m : ℕ) → counted_from m (def.body_by copying tree deeper body) ≡ def.body_by copying tree deeper body
body_even tree deeper None m = counted_none m
body_even tree deeper (Some body) m = counted_twice m (length (locals_of body)) _

pub even : (tree : Core) (n : ℕ) → Even (def.activations copying tree n)
even tree zero = tt
even tree (suc n) = λ m f. body_even tree (def.activations copying tree n) (slice_get (bodies_of tree) f) m

body_same : (tree : Core) (deeper : Deeper (Unit {0}) Locals) → Even deeper → (body : Option CoreBody) → def.body_by copying tree deeper body ≡ flat.body_by tree deeper body
body_same tree deeper e None = refl
body_same tree deeper e (Some body) =
    ap (counted_from (length (locals_of body))) (both (block_same tree (locals_of body) deeper (entered_steady deeper e) body.block) (λ flow. refl))

pub activations_same : (tree : Core) (n : ℕ) → def.activations copying tree n ≡ flat.activations tree n
activations_same tree zero = refl
activations_same tree (suc n) =
    ap Some (families (λ f. body_same tree (def.activations copying tree n) (even tree n) (slice_get (bodies_of tree) f)) ∙ ap (flat.bodies_run tree) (activations_same tree n))

pub run_same : (tree : Core) (depth f : ℕ) → meaning.run_of tree depth f ≡ programs.run_of tree depth f
run_same tree depth f =
    body_same tree (def.activations copying tree depth) (even tree depth) (slice_get (bodies_of tree) f)
    ∙ ap (λ (d : Deeper (Unit {0}) Locals). flat.bodies_run tree d f) (activations_same tree depth)

root_same : (tree : Core) (budget : ℕ) (o : Option ℕ) → programs.root_by tree budget o ≡ meaning.root_by tree budget o
root_same tree budget None = refl
root_same tree budget (Some f) = ap (λ (p : Plain Flow). node_by budget (p 0 tt (start budget))) (sym (run_same tree below_root f))

pub node_same : (tree : Core) (budget : ℕ) → programs.node_of tree budget ≡ meaning.node_of tree budget
unfolding programs.node_of meaning.node_of
node_same tree budget = root_same tree budget (main_in tree)
