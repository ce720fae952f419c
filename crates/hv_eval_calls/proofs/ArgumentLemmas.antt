-- Arguments, one after the other.
use Rattle.std.proofs.Common.{◌≡◌, ℕ, zero, suc, ◌+◌, List, [], ◌∷◌, ◌++◌, map, drop, slice_get, slice_set, Some, sym, ap, ◌∙◌, refl, arith, add-one, append_assoc}
use Rattle.std.proofs.lemmas.List.{map-append, drop-set-lt}
use Rattle.hv_sem_copying.specs.Run.{Is, and_then, pure}
use Rattle.hv_sem_copying.specs.Ops as ops
use Rattle.hv_sem_copying.specs.Calls.{passed_captures}
use Rattle.hv_sem_flat.specs.Accesses as flat
use Rattle.hv_sem_flat.specs.Accesses.{opened}
use Rattle.hv_partial.specs.declared.tree.Held.{Held}
use Rattle.hv_partial.specs.HeldTree.{held_trees}
use Rattle.hv_eval_state.specs.declared.access.Mode.TheVariants as mode
use Rattle.hv_eval_state.specs.declared.task.Task.{Task}
use Rattle.hv_eval_state.specs.declared.access.Mode.{Mode}
use Rattle.hv_eval_state.specs.declared.access.Access.{Access}
use Rattle.hv_eval_state.specs.declared.spot.Spot.{Spot}
use Rattle.hv_eval_state.specs.Gives.{now_of, from}
use Rattle.hv_eval_state.specs.Opened.{access_of, onto, last_first}
use Rattle.hv_eval_calls.specs.declared.passed.Passed.{Passed}
use Rattle.hv_eval_calls.specs.declared.passed.Passed.TheVariants as passed
use Rattle.hv_eval_calls.specs.declared.given.Argument.{Argument}
use Rattle.hv_eval_calls.specs.declared.given.Argument.TheVariants as argument
use Rattle.hv_eval_calls.specs.Passes.{passed_by}
use Rattle.hv_eval_calls.specs.Arguments.{argument_by, Sofar, taken_one}

-- ---- an argument more

onto-pushed : (done : List flat.Access) (opens : List Access) (a : Access) → onto done (opens ++ a ∷ []) ≡ access_of a ∷ onto done opens
onto-pushed done [] a = refl
onto-pushed done (b ∷ opens) a = onto-pushed (access_of b ∷ done) opens a

abbrev sofar : ℕ → List ops.Passed → List flat.Access → Sofar
sofar m ps opens = (m, ps, opens)

pub lends_taken : (x : Argument) (mode : Mode) (place : Spot) (m k n : ℕ) (ps qs : List Passed) (opens more : List Access) (t u : Task) →
    x ≡ argument.Lends mode place → from (opened (access_of (record { mode = mode; reference = m; place = place }))) n t ≡ Is (now_of u, tt) →
    k ≡ m + 1 → qs ≡ ps ++ passed.Lent m ∷ [] → more ≡ opens ++ record { mode = mode; reference = m; place = place } ∷ [] →
    from (taken_one (argument_by x) m (map passed_by ps) (last_first opens)) n t ≡ Is (now_of u, (k, map passed_by qs, last_first more))
unfolding and_then pure
lends_taken x mode place m k n ps qs opens more t u e h i j l =
    ap (λ y. from (taken_one (argument_by y) m (map passed_by ps) (last_first opens)) n t) e
    ∙ rw h refl
    ∙ sym (ap (λ (z : Sofar). Is (now_of u, z))
    (ap (λ y. sofar y (map passed_by qs) (last_first more)) (i ∙ add-one m)
    ∙ ap (λ y. sofar (suc m) y (last_first more)) (ap (map passed_by) j ∙ map-append passed_by ps (passed.Lent m ∷ []))
    ∙ ap (λ y. sofar (suc m) (map passed_by ps ++ ops.Lent m ∷ []) y) (ap last_first l ∙ onto-pushed [] opens (record { mode = mode; reference = m; place = place }))))

-- ---- captures

first_capture : (hs : List Held) (i : ℕ) (h : Held) → slice_get hs i ≡ Some h → passed_captures (held_trees (drop i hs)) ≡ passed_by (passed.Value mode.Reads h) ∷ passed_captures (held_trees (drop (suc i) hs))
first_capture [] i h e = cc
first_capture (g ∷ hs) zero h e = let same : g ≡ h = grind (arith, e) in ap (λ x. passed_by (passed.Value mode.Reads x) ∷ passed_captures (held_trees hs)) same
first_capture (g ∷ hs) (suc i) h e = first_capture hs i h e

pub capture_next : (hs us : List Held) (ps qs : List Passed) (i : ℕ) (h g : Held) → slice_get hs i ≡ Some h → us ≡ slice_set hs i g → qs ≡ ps ++ passed.Value mode.Reads h ∷ [] →
    map passed_by qs ++ passed_captures (held_trees (drop (i + 1) us)) ≡ map passed_by ps ++ passed_captures (held_trees (drop i hs))
capture_next hs us ps qs i h g e k l =
    ap (λ xs. map passed_by xs ++ passed_captures (held_trees (drop (i + 1) us))) l
    ∙ ap (λ xs. xs ++ passed_captures (held_trees (drop (i + 1) us))) (map-append passed_by ps (passed.Value mode.Reads h ∷ []))
    ∙ append_assoc (map passed_by ps) (passed_by (passed.Value mode.Reads h) ∷ []) (passed_captures (held_trees (drop (i + 1) us)))
    ∙ ap (λ xs. map passed_by ps ++ passed_by (passed.Value mode.Reads h) ∷ passed_captures (held_trees xs)) (ap (drop (i + 1)) k ∙ drop-set-lt (i + 1) hs i g (omega arith) ∙ ap (λ j. drop j hs) (add-one i))
    ∙ ap (λ xs. map passed_by ps ++ xs) (sym (first_capture hs i h e))
