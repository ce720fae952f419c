-- Accesses that open and close.
use Rattle.std.proofs.Common.{◌≡◌, ◌≢◌, ℕ, true, false, List, [], ◌∷◌, ◌++◌, map, slice_set, Option, Some, None, is_some, refl, sym, ap, ◌∙◌}
use Rattle.std.specs.Prelude.{get_or}
use Rattle.hv_value.specs.ValueTree.{ValueTree, Hole}
use Rattle.hv_value.specs.Places.{get, put}
use Rattle.hv_sem_copying.specs.declared.end.Cause.TheVariants.{Holes}
use Rattle.hv_sem_copying.specs.Run.{Res, Now, Is, Halted, Stuck, after, and_then, mine, become, pure, halt as no_rule}
use Rattle.hv_sem_copying.specs.Copying.{Locals, change_at}
use Rattle.hv_sem_flat.specs.Accesses.{Spot, Access, opened, dropped, returned, closed, all_closed}
use Rattle.hv_partial.specs.declared.tree.Held.{Held}
use Rattle.hv_partial.specs.declared.tree.Held.TheVariants as held
use Rattle.hv_partial.specs.HeldTree.{held_tree}
use Rattle.hv_partial.proofs.VariantLemmas.{tree-hole}
use Rattle.hv_eval_state.specs.declared.task.Task.{Task}
use Rattle.hv_eval_state.specs.declared.access.Access as code
use Rattle.hv_eval_state.specs.declared.task.Halt.{Halt}
use Rattle.hv_eval_state.specs.Opened.{access_of, onto, last_first}
use Rattle.hv_eval_state.specs.Gives.{now_of, from, halted}
use Rattle.hv_eval_state.proofs.LocalLemmas.{get_or-other, change-over, change-twice}
use Rattle.hv_eval_state.proofs.SpotLemmas.{standing}

-- ---- opening

pub opened_nowhere : (a : Access) (n : ℕ) (t : Task) → None ≡ standing t a.place → from (opened a) n t ≡ Halted (Stuck Holes) (now_of t).task
unfolding opened and_then mine become pure no_rule
opened_nowhere a n t h = rw (sym h) refl

pub opened_somewhere : (a : Access) (n : ℕ) (t : Task) (h : Held) (new : List Held) → Some (held_tree h) ≡ standing t a.place → map held_tree new ≡ change_at (map held_tree t.locals) a.reference (held_tree h) → from (opened a) n t ≡ Is (now_of (record t { locals = new }), tt)
unfolding opened and_then mine become pure no_rule
opened_somewhere a n t h new k e = rw (sym k) (rw e refl)

pub ruleset by_open = (opened_nowhere, opened_somewhere)

-- ---- closing

pub forgotten : (r n : ℕ) (t : Task) (new : List Held) → map held_tree new ≡ change_at (map held_tree t.locals) r (held_tree held.Hole) → from (dropped r) n t ≡ Is (now_of (record t { locals = new }), tt)
unfolding dropped and_then mine become
forgotten r n t new e =
    let trees : map held_tree new ≡ change_at (map held_tree t.locals) r Hole = e ∙ ap (change_at (map held_tree t.locals) r) tree-hole in
    rw trees refl

pub ruleset by_forget = (forgotten)

pub returned_nowhere : (r : ℕ) (p : Spot) (n : ℕ) (t : Task) → is_some (standing t p) ≡ false → from (returned r p) n t ≡ Halted (Stuck Holes) (now_of t).task
unfolding returned and_then mine become pure no_rule
returned_nowhere r p n t h = go (standing t p) refl h
  where
    go : (o : Option ValueTree) → standing t p ≡ o → is_some o ≡ false → from (returned r p) n t ≡ Halted (Stuck Holes) (now_of t).task
    go None k w = rw k refl
    go (Some x) k w = cc

returned_is : (r : ℕ) (p : Spot) (n : ℕ) (t : Task) (new : List Held) → is_some (standing t p) ≡ true → map held_tree new ≡ change_at (change_at (map held_tree t.locals) p.root (put (get_or (map held_tree t.locals) p.root Hole) p.path (get_or (map held_tree t.locals) r Hole))) r Hole → from (returned r p) n t ≡ Is (now_of (record t { locals = new }), tt)
unfolding returned and_then mine become pure no_rule
returned_is r p n t new h e = go (standing t p) refl h
  where
    go : (o : Option ValueTree) → standing t p ≡ o → is_some o ≡ true → from (returned r p) n t ≡ Is (now_of (record t { locals = new }), tt)
    go None k w = cc
    go (Some x) k w = rw k (rw e refl)

pub returned_own : (p : Spot) (n : ℕ) (t : Task) (new : List Held) → is_some (standing t p) ≡ true → map held_tree new ≡ change_at (map held_tree t.locals) p.root (held_tree held.Hole) → from (returned p.root p) n t ≡ Is (now_of (record t { locals = new }), tt)
returned_own p n t new h e =
    returned_is p.root p n t new h
    (e ∙ ap (change_at (map held_tree t.locals) p.root) tree-hole ∙ sym (change-twice (map held_tree t.locals) p.root (put (get_or (map held_tree t.locals) p.root Hole) p.path (get_or (map held_tree t.locals) p.root Hole)) Hole))

pub ruleset by_forget_own = (returned_nowhere, returned_own)

-- the reference is dropped before its tree goes back
pub returned_apart_nowhere : (r : ℕ) (p : Spot) (n : ℕ) (t : Task) (ts : List ValueTree) → p.root ≢ r → ts ≡ slice_set (map held_tree t.locals) r Hole → false ≡ is_some (get (get_or ts p.root Hole) p.path) → from (returned r p) n t ≡ Halted (Stuck Holes) (now_of t).task
returned_apart_nowhere r p n t ts d e h =
    returned_nowhere r p n t (sym (h ∙ ap (λ x. is_some (get x p.path)) (ap (λ x. get_or x p.root Hole) e ∙ get_or-other (map held_tree t.locals) r p.root Hole (λ k. d (sym k)))))

pub returned_apart : (r : ℕ) (p : Spot) (n : ℕ) (t : Task) (u : ValueTree) (ts us : List ValueTree) (new : List Held) → p.root ≢ r → u ≡ get_or (map held_tree t.locals) r Hole → ts ≡ slice_set (map held_tree t.locals) r Hole → true ≡ is_some (get (get_or ts p.root Hole) p.path) → us ≡ change_at ts p.root (put (get_or ts p.root Hole) p.path u) → map held_tree new ≡ change_at us r (held_tree held.Hole) → from (returned r p) n t ≡ Is (now_of (record t { locals = new }), tt)
returned_apart r p n t u ts us new d f e h k l =
    let other : get_or ts p.root Hole ≡ get_or (map held_tree t.locals) p.root Hole = ap (λ x. get_or x p.root Hole) e ∙ get_or-other (map held_tree t.locals) r p.root Hole (λ k. d (sym k)) in
    let put_same : put (get_or ts p.root Hole) p.path u ≡ put (get_or (map held_tree t.locals) p.root Hole) p.path (get_or (map held_tree t.locals) r Hole) = ap (λ x. put x p.path u) other ∙ ap (put (get_or (map held_tree t.locals) p.root Hole) p.path) f in
    returned_is r p n t new (sym (h ∙ ap (λ x. is_some (get x p.path)) other))
    (l ∙ ap (change_at us r) tree-hole
    ∙ ap (λ x. change_at x r Hole) (k ∙ ap (change_at ts p.root) put_same ∙ ap (λ x. change_at x p.root (put (get_or (map held_tree t.locals) p.root Hole) p.path (get_or (map held_tree t.locals) r Hole))) e)
    ∙ change-over (map held_tree t.locals) r p.root Hole (put (get_or (map held_tree t.locals) p.root Hole) p.path (get_or (map held_tree t.locals) r Hole)) Hole (λ k. d (sym k)))

pub ruleset by_return = (returned_apart_nowhere, returned_apart)

-- ---- many

onto-last : (done : List Access) (opens : List code.Access) (a : code.Access) → onto done (opens ++ a ∷ []) ≡ access_of a ∷ onto done opens
onto-last done [] a = refl
onto-last done (b ∷ opens) a = onto-last (access_of b ∷ done) opens a

pub closed_one : (opens all : List code.Access) (a : code.Access) (n : ℕ) (t u : Task) → all ≡ opens ++ a ∷ [] → from (closed (access_of a)) n t ≡ Is (now_of u, tt) → from (all_closed (last_first opens)) n u ≡ from (all_closed (last_first all)) n t
unfolding and_then
closed_one opens all a n t u e h = sym (ap (λ x. from (all_closed (last_first x)) n t) e ∙ ap (λ x. from (all_closed x) n t) (onto-last [] opens a) ∙ ap (λ (r : Res (Now Locals × Unit {0})). after r (λ z. from_now (last_first opens) n z.0)) h)
  where
    from_now : List Access → ℕ → Now Locals → Res (Now Locals × Unit {0})
    from_now more n s = all_closed more n tt s

pub closed_halted : (opens all : List code.Access) (a : code.Access) (n : ℕ) (t u : Task) (h : Halt) → all ≡ opens ++ a ∷ [] → from (closed (access_of a)) n t ≡ halted h u → from (all_closed (last_first all)) n t ≡ halted h u
unfolding and_then
closed_halted opens all a n t u h e k = ap (λ x. from (all_closed (last_first x)) n t) e ∙ ap (λ x. from (all_closed x) n t) (onto-last [] opens a) ∙ ap (λ (r : Res (Now Locals × Unit {0})). after r (λ z. from_now (last_first opens) n z.0)) k
  where
    from_now : List Access → ℕ → Now Locals → Res (Now Locals × Unit {0})
    from_now more n s = all_closed more n tt s

pub ruleset by_all = (closed_one, closed_halted)
