-- Where a way leads, as code answers it.
use Rattle.std.proofs.Common.{◌≡◌, ◌≤◌, ◌<◌, ◌-◌, ℕ, true, false, List, [], ◌∷◌, map, slice_set, Option, Some, None, is_some, option_map, inl, inr, refl, sym, ap, ◌∙◌}
use Rattle.std.specs.Prelude.{get_or}
use Rattle.std.proofs.lemmas.Bool.{le-leb, lt-leb}
use Rattle.hv_tree.specs.declared.place.Place.{Place}
use Rattle.hv_value.specs.Walk.{Reached, Reaches, Outside, Lost}
use Rattle.hv_sem_copying.specs.declared.end.TrapKind.TheVariants as trap_kind
use Rattle.hv_value.specs.ValueTree.{ValueTree, Hole}
use Rattle.hv_value.specs.Places.{get, put}
use Rattle.hv_value.specs.Holes.{is_whole, emptied, clear, put_if_there}
use Rattle.hv_value.specs.Sizes.{size}
use Rattle.hv_sem_copying.specs.declared.end.Cause.TheVariants.{Holes}
use Rattle.hv_sem_copying.specs.Run.{Is, Halted, Spent, Stuck, and_then, pure, pay, halt, stuck, trap, mine, become}
use Rattle.hv_sem_copying.specs.Copying.{change_at}
use Rattle.hv_sem_flat.specs.Accesses.{Plain, Spot, arrived, there, put_at}
use Rattle.hv_sem_flat.specs.Parts.{moved}
use Rattle.hv_partial.specs.declared.tree.Held.{Held}
use Rattle.hv_partial.specs.HeldTree.{held_tree}
use Rattle.hv_eval_state.specs.declared.task.Task.{Task}
use Rattle.hv_eval_state.specs.Gives.{now_of, from}
use Rattle.hv_eval_state.specs.Spots.{Found, whole_there, copied_there}
use Rattle.hv_eval_state.proofs.LocalLemmas.{change_dropped}
use Rattle.hv_partial.specs.declared.way.Way.{Way}
use Rattle.hv_partial.specs.declared.way.Way.TheVariants as way
use Rattle.hv_partial.specs.Ways.{way_of}

abbrev pub by_way : ℕ → Way → Plain Spot
by_way x (way.Reaches p) = pure (record { root = x; path = p })
by_way x (way.Outside at) = trap trap_kind.Index at
by_way x way.Lost = stuck Holes

pub arrived_way : (x : ℕ) (r : Reached Place) → arrived x r ≡ by_way x (way_of r)
arrived_way x (Reaches p t) = refl
arrived_way x (Outside at) = refl
arrived_way x Lost = refl

-- what stands at a place of a task
abbrev pub standing : Task → Spot → Option ValueTree
standing t p = get (get_or (map held_tree t.locals) p.root Hole) p.path

-- ---- copies

pub copied_nowhere : (at : Place) (p : Spot) (n : ℕ) (t : Task) → Found (standing t p) None → from (copied_there at p) n t ≡ Halted (Stuck Holes) (now_of t).task
unfolding copied_there there and_then mine pure halt
copied_nowhere at p n t (inl h) = rw h refl
copied_nowhere at p n t (inr h) = rw h refl

pub copied_holed : (at : Place) (p : Spot) (n : ℕ) (t : Task) (u : ValueTree) → standing t p ≡ Some u → is_whole u ≡ false → from (copied_there at p) n t ≡ Halted (Stuck Holes) (now_of t).task
unfolding copied_there there and_then mine pure halt
copied_holed at p n t u h w = rw h (rw w refl)

pub copied_whole : (at : Place) (p : Spot) (n : ℕ) (t : Task) (u : ValueTree) → standing t p ≡ Some u → is_whole u ≡ true → size u ≤ t.steps → from (copied_there at p) n t ≡ Is (now_of (record t { steps = t.steps - size u }), u)
unfolding copied_there there and_then mine pure halt pay
copied_whole at p n t u h w e = rw h (rw w (rw (le-leb (size u) t.steps e) refl))

pub copied_spent : (at : Place) (p : Spot) (n : ℕ) (t : Task) (u : ValueTree) → standing t p ≡ Some u → is_whole u ≡ true → t.steps < size u → from (copied_there at p) n t ≡ Halted (Spent at (0 ∷ [])) (now_of t).task
unfolding copied_there there and_then mine pure halt pay
copied_spent at p n t u h w e = rw h (rw w (rw (lt-leb (size u) t.steps e) refl))

pub ruleset by_copy = (copied_nowhere, copied_holed, copied_whole, copied_spent)

-- ---- moves

pub moved_nowhere : (p : Spot) (n : ℕ) (t : Task) (u : ValueTree) → u ≡ get_or (map held_tree t.locals) p.root Hole → whole_there (get u p.path) ≡ false → from (moved p) n t ≡ Halted (Stuck Holes) (now_of t).task
unfolding there and_then mine become pure halt
moved_nowhere p n t u e h = go (standing t p) refl (ap (λ x. whole_there (get x p.path)) (sym e) ∙ h)
  where
    go : (o : Option ValueTree) → standing t p ≡ o → whole_there o ≡ false → from (moved p) n t ≡ Halted (Stuck Holes) (now_of t).task
    go None k w = rw k refl
    go (Some x) k w = rw k (rw w refl)

pub moved_whole : (p : Spot) (n : ℕ) (t : Task) (u v : ValueTree) (new : List Held) → u ≡ get_or (map held_tree t.locals) p.root Hole → whole_there (get u p.path) ≡ true → get u p.path ≡ Some v → map held_tree new ≡ change_at (slice_set (map held_tree t.locals) p.root Hole) p.root (clear u p.path) → from (moved p) n t ≡ Is (now_of (record t { locals = new }), v)
unfolding there and_then mine become pure halt put_at
moved_whole p n t u v new e w h k =
    let stands : standing t p ≡ Some v = ap (λ x. get x p.path) (sym e) ∙ h in
    let whole : is_whole v ≡ true = ap whole_there (sym h) ∙ w in
    let left : clear u p.path ≡ put u p.path (emptied v) = ap (λ o. put_if_there u p.path (option_map emptied o)) h in
    let trees : map held_tree new ≡ change_at (map held_tree t.locals) p.root (put (get_or (map held_tree t.locals) p.root Hole) p.path (emptied v)) =
    k ∙ change_dropped (map held_tree t.locals) p.root Hole (clear u p.path) ∙ ap (change_at (map held_tree t.locals) p.root) (left ∙ ap (λ x. put x p.path (emptied v)) e) in
    rw stands (rw whole (rw stands (rw trees refl)))

pub ruleset by_move = (moved_nowhere, moved_whole)

-- ---- writes

pub put_nowhere : (p : Spot) (v : ValueTree) (n : ℕ) (t : Task) → is_some (standing t p) ≡ false → from (put_at p v) n t ≡ Halted (Stuck Holes) (now_of t).task
unfolding put_at and_then mine become pure halt
put_nowhere p v n t h = go (standing t p) refl h
  where
    go : (o : Option ValueTree) → standing t p ≡ o → is_some o ≡ false → from (put_at p v) n t ≡ Halted (Stuck Holes) (now_of t).task
    go None k w = rw k refl
    go (Some x) k w = cc

pub put_somewhere : (p : Spot) (v : ValueTree) (n : ℕ) (t : Task) (new : List Held) → is_some (standing t p) ≡ true → map held_tree new ≡ change_at (map held_tree t.locals) p.root (put (get_or (map held_tree t.locals) p.root Hole) p.path v) → from (put_at p v) n t ≡ Is (now_of (record t { locals = new }), tt)
unfolding put_at and_then mine become pure halt
put_somewhere p v n t new h e = go (standing t p) refl h
  where
    go : (o : Option ValueTree) → standing t p ≡ o → is_some o ≡ true → from (put_at p v) n t ≡ Is (now_of (record t { locals = new }), tt)
    go None k w = cc
    go (Some x) k w = rw k (rw e refl)

pub ruleset by_put = (put_nowhere, put_somewhere)
