-- An argument by its convention, as code meets it.
use Rattle.std.proofs.Common.{◌≡◌, ℕ, map, Option, Some, None, option_map, refl, ap, ◌∙◌, arith}
use Rattle.std.specs.Prelude.{get_or}
use Rattle.hv_tree.specs.declared.place.Place.{Place}
use Rattle.hv_tree.specs.declared.types.Name.{Name}
use Rattle.hv_tree.specs.declared.types.Conv.{Conv}
use Rattle.hv_tree.specs.declared.types.Conv.TheVariants as conv
use Rattle.hv_tree.specs.declared.ast.Arg.{Arg}
use Rattle.hv_tree.specs.declared.ast.Arg.TheVariants as arg
use Rattle.hv_tree.specs.declared.ast.Expr.{Expr}
use Rattle.hv_tree.specs.declared.ast.PlaceExpr.{PlaceExpr}
use Rattle.hv_tree.specs.Core.{NoArgs, core_of, CoreSteps}
use Rattle.hv_tree.proofs.CoreLemmas as lemmas
use Rattle.hv_value.specs.ValueTree.{ValueTree, Hole}
use Rattle.hv_value.specs.Places.{get}
use Rattle.hv_value.specs.Holes.{emptied}
use Rattle.hv_sem_copying.specs.declared.end.Cause.TheVariants.{Holes}
use Rattle.hv_sem_copying.specs.Run.{Is, Halted, Stuck, and_then, ◌>>=◌, mine, pure, halt}
use Rattle.hv_sem_copying.specs.Ops.{Sets}
use Rattle.hv_sem_flat.specs.Accesses.{Plain, Spot, there, put_at}
use Rattle.hv_sem_flat.specs.Parts as parts
use Rattle.hv_partial.specs.HeldTree.{held_tree}
use Rattle.hv_eval_state.specs.declared.task.Task.{Task}
use Rattle.hv_eval_state.specs.declared.task.Halt.{Halt}
use Rattle.hv_eval_state.specs.Gives.{now_of, from, halted}
use Rattle.hv_eval_env.specs.declared.level.Level.{Level}
use Rattle.hv_eval_env.specs.Level.{value_in}
use Rattle.hv_eval_operands.specs.Places.{found_by}
use Rattle.hv_eval_calls.specs.Calling.{place_of, found_of, emptied_given, first_argument, argument_in}

-- what stands at a place of a task
abbrev standing : Task → Spot → Option ValueTree
standing t p = get (get_or (map held_tree t.locals) p.root Hole) p.path

-- ---- holes that are made

pub emptied_nowhere : (p : Spot) (n : ℕ) (t : Task) → None ≡ option_map emptied (standing t p) → from (emptied_given p) n t ≡ Halted (Stuck Holes) (now_of t).task
unfolding emptied_given there and_then mine pure halt
emptied_nowhere p n t h = go (standing t p) refl h
  where
    go : (o : Option ValueTree) → standing t p ≡ o → None ≡ option_map emptied o → from (emptied_given p) n t ≡ Halted (Stuck Holes) (now_of t).task
    go None k w = rw k refl
    go (Some x) k w = cc

-- what is put there is what is there without its leaves
emptied_put : (p : Spot) (n : ℕ) (t : Task) (v : ValueTree) → Some v ≡ option_map emptied (standing t p) → from (emptied_given p) n t ≡ from (put_at p v >>= (λ done. pure (parts.Lends Sets p))) n t
unfolding emptied_given there and_then mine pure
emptied_put p n t v h = go (standing t p) refl h
  where
    go : (o : Option ValueTree) → standing t p ≡ o → Some v ≡ option_map emptied o → from (emptied_given p) n t ≡ from (put_at p v >>= (λ done. pure (parts.Lends Sets p))) n t
    go None k w = cc
    go (Some x) k w = let same : v ≡ emptied x = grind (arith, w) in rw k (rw same refl)

pub emptied_somewhere : (p : Spot) (n : ℕ) (t u : Task) (v : ValueTree) → Some v ≡ option_map emptied (standing t p) → from (put_at p v) n t ≡ Is (now_of u, tt) → from (emptied_given p) n t ≡ Is (now_of u, parts.Lends Sets p)
unfolding and_then pure
emptied_somewhere p n t u v h e = emptied_put p n t v h ∙ rw e refl

pub emptied_halted : (p : Spot) (n : ℕ) (t u : Task) (v : ValueTree) (h : Halt) → Some v ≡ option_map emptied (standing t p) → from (put_at p v) n t ≡ halted h u → from (emptied_given p) n t ≡ halted h u
unfolding and_then pure
emptied_halted p n t u v h k e = emptied_put p n t v k ∙ rw e refl

-- where the place is found, holes are made there
pub set_found : (c : Conv) (place : Plain Spot) (p : Spot) (n : ℕ) (t u : Task) → c ≡ conv.Set → from place n t ≡ Is (now_of u, p) → from (parts.place_given c place) n t ≡ from (emptied_given p) n u
unfolding and_then emptied_given
set_found c place p n t u e h = ap (λ k. from (parts.place_given k place) n t) e ∙ rw h refl

-- ---- an argument by its variant

pub value_first : (l : Level) (c : Conv) (a : Arg) (x : Expr) → a ≡ arg.Value x → argument_in l c a ≡ parts.value_given c (place_of l (core_of x)) (value_in l x)
unfolding argument_in
value_first l c a x h = ap (argument_in l c) h ∙ ap (first_argument l c) (lemmas.arg_value NoArgs x)

pub ref_first : (l : Level) (c : Conv) (a : Arg) (at : Place) (p : PlaceExpr) → a ≡ arg.Ref at p → argument_in l c a ≡ parts.place_given c (found_by l p)
unfolding argument_in
ref_first l c a at p h =
    ap (argument_in l c) h
    ∙ ap (first_argument l c) (lemmas.arg_ref NoArgs at p)
    ∙ ap (λ (q : Name × CoreSteps). parts.place_given c (found_of l q.0 q.1)) (lemmas.opened_place p)
