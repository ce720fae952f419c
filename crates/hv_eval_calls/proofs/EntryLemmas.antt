-- What a body is entered with, and what goes back.
use Rattle.std.proofs.Common.{◌≡◌, ◌<◌, ◌+◌, ℕ, zero, suc, List, [], ◌∷◌, ◌++◌, length, map, drop, slice_get, slice_set, Some, option_map, set-set, arith, refl, sym, ap, ◌∙◌, append_assoc, add-one, drop-cons}
use Rattle.std.proofs.lemmas.List.{map-append}
use Rattle.std.specs.Prelude.{get_or}
use Rattle.hv_value.specs.ValueTree.{ValueTree, Hole}
use Rattle.hv_sem_copying.specs.Copying.{Locals, callee_trees, change_at, returned, with_tree, tree_at}
use Rattle.hv_partial.specs.declared.tree.Held.{Held}
use Rattle.hv_partial.specs.HeldTree.{held_tree}
use Rattle.hv_eval_state.specs.declared.access.Mode.{Mode}
use Rattle.hv_eval_state.proofs.LocalLemmas.{get_or-other}
use Rattle.hv_eval_calls.specs.declared.passed.Passed.{Passed}
use Rattle.hv_eval_calls.specs.declared.passed.Passed.TheVariants as passed
use Rattle.hv_eval_calls.specs.Passes.{passed_by, lent_by, own_by, first_by}

-- ---- what a body is entered with

pub lent_kept : (ps : List Passed) (i : ℕ) (p q : Passed) → slice_get ps i ≡ Some p → lent_by q ≡ lent_by p → map lent_by (slice_set ps i q) ≡ map lent_by ps
lent_kept [] i p q h e = refl
lent_kept (r ∷ ps) zero p q h e = let same : r ≡ p = grind (arith, h) in ap (λ o. o ∷ map lent_by ps) (e ∙ ap lent_by (sym same))
lent_kept (r ∷ ps) (suc i) p q h e = ap (λ os. lent_by r ∷ os) (lent_kept ps i p q h e)

pub lent_twice : (ps : List Passed) (i : ℕ) (p q r : Passed) → slice_get ps i ≡ Some p → lent_by r ≡ lent_by p → map lent_by (slice_set (slice_set ps i q) i r) ≡ map lent_by ps
lent_twice ps i p q r h e = ap (map lent_by) (set-set ps i q r) ∙ lent_kept ps i p r h e

pub ruleset by_take = (lent_kept, lent_twice)

first_there : (hs : List Held) (ps : List Passed) (i : ℕ) (t : ValueTree) → option_map (first_by hs) (slice_get ps i) ≡ Some t → t ∷ callee_trees (own_by hs) (map passed_by (drop (suc i) ps)) ≡ callee_trees (own_by hs) (map passed_by (drop i ps))
first_there hs [] i t h = cc
first_there hs (p ∷ ps) zero t h = let same : first_by hs p ≡ t = grind (arith, h) in ap (λ u. u ∷ callee_trees (own_by hs) (map passed_by ps)) (sym same)
first_there hs (p ∷ ps) (suc i) t h = first_there hs ps i t h

-- the next one has been taken
pub first_next : (hs firsts more : List Held) (ps qs : List Passed) (i : ℕ) (h : Held) → more ≡ firsts ++ h ∷ [] → option_map (first_by hs) (slice_get ps i) ≡ Some (held_tree h) → drop (i + 1) qs ≡ drop (i + 1) ps → map held_tree more ++ callee_trees (own_by hs) (map passed_by (drop (i + 1) qs)) ≡ map held_tree firsts ++ callee_trees (own_by hs) (map passed_by (drop i ps))
first_next hs firsts more ps qs i h k there e =
    ap (λ us. map held_tree us ++ callee_trees (own_by hs) (map passed_by (drop (i + 1) qs))) k
    ∙ ap (λ us. us ++ callee_trees (own_by hs) (map passed_by (drop (i + 1) qs))) (map-append held_tree firsts (h ∷ []))
    ∙ append_assoc (map held_tree firsts) (held_tree h ∷ []) (callee_trees (own_by hs) (map passed_by (drop (i + 1) qs)))
    ∙ ap (λ rs. map held_tree firsts ++ held_tree h ∷ callee_trees (own_by hs) (map passed_by rs)) (e ∙ ap (λ k. drop k ps) (add-one i))
    ∙ ap (λ us. map held_tree firsts ++ us) (first_there hs ps i (held_tree h) there)

-- ---- what goes back

-- only what is lent goes back
pub back_lent : (i : ℕ) (e : Locals) (ps qs : List Passed) (callee : Locals) → map lent_by ps ≡ map lent_by qs → returned i e (map passed_by ps) callee ≡ returned i e (map passed_by qs) callee
back_lent i e [] [] callee h = refl
back_lent i e [] (q ∷ qs) callee h = cc
back_lent i e (p ∷ ps) [] callee h = cc
back_lent i e (passed.Value m t ∷ ps) (passed.Value k u ∷ qs) callee h = let rest : map lent_by ps ≡ map lent_by qs = grind (arith, h) in back_lent (suc i) e ps qs callee rest
back_lent i e (passed.Value m t ∷ ps) (passed.Lent r ∷ qs) callee h = cc
back_lent i e (passed.Lent r ∷ ps) (passed.Value k u ∷ qs) callee h = cc
back_lent i e (passed.Lent r ∷ ps) (passed.Lent s ∷ qs) callee h =
    let rest : map lent_by ps ≡ map lent_by qs = grind (arith, h) in
    let same : r ≡ s = grind (arith, h) in
    ap (λ x. returned (suc i) (with_tree e x (tree_at callee i)) (map passed_by ps) callee) same ∙ back_lent (suc i) (with_tree e s (tree_at callee i)) ps qs callee rest

-- a parameter that has gone back isn't asked for again
back_dropped : (i j : ℕ) (e : Locals) (ps : List Passed) (ts us : List ValueTree) → j < i → us ≡ slice_set ts j Hole → returned i e (map passed_by ps) (record { trees = us; handles = [] }) ≡ returned i e (map passed_by ps) (record { trees = ts; handles = [] })
back_dropped i j e [] ts us h k = refl
back_dropped i j e (passed.Value m t ∷ ps) ts us h k = back_dropped (suc i) j e ps ts us (omega (arith, h)) k
back_dropped i j e (passed.Lent r ∷ ps) ts us h k =
    let there : get_or us i Hole ≡ get_or ts i Hole = ap (λ x. get_or x i Hole) k ∙ get_or-other ts j i Hole (omega (arith, h)) in
    back_dropped (suc i) j (with_tree e r (get_or us i Hole)) ps ts us (omega (arith, h)) k
    ∙ ap (λ t. returned (suc i) (with_tree e r t) (map passed_by ps) (record { trees = ts; handles = [] })) there

left_first : (ps : List Passed) (i : ℕ) (p : Passed) → i < length ps → p ≡ get_or ps i p → drop i ps ≡ p ∷ drop (i + 1) ps
left_first ps i p within is = drop-cons ps i p within ∙ ap (λ x. x ∷ drop (suc i) ps) (sym is) ∙ ap (λ n. p ∷ drop n ps) (sym (add-one i))

pub back_value : (ps : List Passed) (i : ℕ) (p : Passed) (mode : Mode) (held : Held) (e callee : Locals) → i < length ps → p ≡ get_or ps i p → p ≡ passed.Value mode held →
    returned (i + 1) e (map passed_by (drop (i + 1) ps)) callee ≡ returned i e (map passed_by (drop i ps)) callee
back_value ps i p mode held e callee within is h =
    ap (λ k. returned k e (map passed_by (drop (i + 1) ps)) callee) (add-one i)
    ∙ sym (ap (λ qs. returned i e (map passed_by qs) callee) (left_first ps i p within is ∙ ap (λ q. q ∷ drop (i + 1) ps) h))

pub back_next : (ps : List Passed) (i r : ℕ) (p : Passed) (held : Held) (locals new callee after : List Held) → i < length ps → p ≡ get_or ps i p → p ≡ passed.Lent r →
    held_tree held ≡ get_or (map held_tree callee) i Hole → map held_tree after ≡ slice_set (map held_tree callee) i Hole → map held_tree new ≡ change_at (map held_tree locals) r (held_tree held) →
    returned (i + 1) (own_by new) (map passed_by (drop (i + 1) ps)) (own_by after) ≡ returned i (own_by locals) (map passed_by (drop i ps)) (own_by callee)
back_next ps i r p held locals new callee after within is h was left k =
    ap (λ j. returned j (own_by new) (map passed_by (drop (i + 1) ps)) (own_by after)) (add-one i)
    ∙ back_dropped (suc i) i (own_by new) (drop (i + 1) ps) (map held_tree callee) (map held_tree after) (omega arith) left
    ∙ ap (λ ts. returned (suc i) (record { trees = ts; handles = [] }) (map passed_by (drop (i + 1) ps)) (own_by callee)) (k ∙ ap (change_at (map held_tree locals) r) was)
    ∙ sym (ap (λ qs. returned i (own_by locals) (map passed_by qs) (own_by callee)) (left_first ps i p within is ∙ ap (λ q. q ∷ drop (i + 1) ps) h))

pub ruleset by_back = (back_value, back_next)
