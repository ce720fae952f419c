-- Places by what their root is, as code meets them.
use Rattle.std.proofs.Common.{◌≡◌, ℕ, pos, List, [], ◌∷◌, map, Option, Some, None, refl, ap, ◌∙◌}
use Rattle.std.specs.Prelude.{get_or}
use Rattle.hv_tree.specs.declared.types.Name.{Name}
use Rattle.hv_tree.specs.declared.place.Place.{Place}
use Rattle.hv_tree.specs.declared.ast.Arg.{Arg}
use Rattle.hv_tree.specs.declared.ast.Block.{Block}
use Rattle.hv_tree.specs.declared.ast.Branch.{Branch}
use Rattle.hv_tree.specs.declared.ast.Call.{Call}
use Rattle.hv_tree.specs.declared.ast.Expr.{Expr, out-Expr}
use Rattle.hv_tree.specs.declared.ast.ExprKind.{ExprKind, out-ExprKind}
use Rattle.hv_tree.specs.declared.ast.ExprKind.TheVariants as expr
use Rattle.hv_tree.specs.declared.ast.PlaceExpr.{PlaceExpr, out-PlaceExpr}
use Rattle.hv_tree.specs.declared.ast.Step.{Step}
use Rattle.hv_tree.specs.declared.ast.Stmt.{Stmt}
use Rattle.hv_tree.specs.declared.ast.StmtKind.{StmtKind}
use Rattle.hv_tree.specs.declared.ast.Arg.TheOpen.{ExprKind-F}
use Rattle.hv_tree.specs.Core.{CoreExpr, CoreSteps, core_of, core_kind, core_place}
use Rattle.hv_tree.proofs.CoreLemmas as lemmas
use Rattle.hv_decls.specs.Locals.{number_in}
use Rattle.hv_decls.specs.Types.{ValueType}
use Rattle.hv_value.specs.ValueTree.{ValueTree, Hole, Number}
use Rattle.hv_value.specs.Places.{Path, get}
use Rattle.hv_value.specs.Operators.{length_of}
use Rattle.hv_sem_copying.specs.declared.end.Cause.TheVariants.{Kinds, Holes}
use Rattle.hv_sem_copying.specs.Run.{Is, Halted, Stuck, and_then, ◌>>=◌, pure, halt, known, mine}
use Rattle.hv_sem_copying.specs.Places.{type_of}
use Rattle.hv_sem_copying.specs.Evaluate.{if_local}
use Rattle.hv_sem_flat.specs.Accesses.{Plain, Spot, there, look}
use Rattle.hv_sem_flat.specs.Parts.{found}
use Rattle.hv_sem_flat.specs.Flat.{links_from, place_in}
use Rattle.hv_partial.specs.HeldTree.{held_tree}
use Rattle.hv_eval_state.specs.declared.task.Task.{Task}
use Rattle.hv_eval_state.specs.Gives.{now_of, from}
use Rattle.hv_eval_env.specs.declared.level.Level.{Level}
use Rattle.hv_eval_env.specs.Level.{tree_in, locals_in, deeper_in}
use Rattle.hv_eval_operands.specs.Links.{links_in}
use Rattle.hv_eval_operands.specs.Places.{found_in, found_by, count_there}

-- ---- roots

-- the indices are evaluated, and then tested
pub root_found : (l : Level) (root : Name) (steps : List Step) (x : ℕ) (t : Option ValueType) (n : ℕ) (task : Task) → number_in (locals_in l) root.text ≡ Some x → type_of (locals_in l) root ≡ t →
    from (found_in l root steps) n task ≡ from (links_in l t steps >>= look x) n task
unfolding and_then pure
root_found l root steps x t n task h e =
    ap (λ o. from (known Kinds o >>= (λ y. links_in l (type_of (locals_in l) root) steps >>= look y)) n task) h ∙ ap (λ u. from (links_in l u steps >>= look x) n task) e

-- ---- expressions that are places

abbrev pub KindLayer : Type 0
KindLayer = ExprKind-F Arg ExprKind Step StmtKind Block Branch Call Expr PlaceExpr Stmt

module _ (l : Level) where
  abbrev placed : Name × CoreSteps → Option (Plain Spot)
  placed q = if_local (number_in (locals_in l) q.0.text) (found (locals_in l) q.0 (links_from (tree_in l) (locals_in l) (deeper_in l) [] (type_of (locals_in l) q.0) q.1))

  abbrev place_of : CoreExpr → Option (Plain Spot)
  place_of x = place_in (tree_in l) (locals_in l) (deeper_in l) x

  unfoldable pub place_by : KindLayer → Option (Plain Spot)
  place_by (ExprKind-F.Path p) = placed (core_place p)
  place_by _ = None

  place_kind : (k : ExprKind) (at : Place) (u : KindLayer) → out-ExprKind k ≡ u → place_of (core_kind k at) ≡ place_by u
  unfolding place_by
  place_kind k at (ExprKind-F.Int z) e = ap place_of (lemmas.kind_int k at z e)
  place_kind k at (ExprKind-F.Bool b) e = ap place_of (lemmas.kind_bool k at b e)
  place_kind k at (ExprKind-F.Path p) e = ap place_of (lemmas.kind_path k at p e)
  place_kind k at (ExprKind-F.ExprKind::Call c) e = ap place_of (lemmas.kind_call k at c e)
  place_kind k at (ExprKind-F.ExprKind::Await name) e = ap place_of (lemmas.kind_await k at name e)
  place_kind k at (ExprKind-F.ArrayLit xs) e = ap place_of (lemmas.kind_array_lit k at xs e)
  place_kind k at (ExprKind-F.Filled len value) e = ap place_of (lemmas.kind_filled k at len value e)
  place_kind k at (ExprKind-F.Count p) e = ap place_of (lemmas.kind_count k at p e)
  place_kind k at (ExprKind-F.Lambda captures params result body) e = ap place_of (lemmas.kind_lambda k at captures params result body e)
  place_kind k at (ExprKind-F.Prefix o x) e = ap place_of (lemmas.kind_prefix k at o x e)
  place_kind k at (ExprKind-F.Chain first links) e = ap place_of (lemmas.kind_chain k at first links e)

  pub place_opened : (x : Expr) → place_of (core_of x) ≡ place_by (out-ExprKind (out-Expr x).kind)
  place_opened x = ap place_of (lemmas.opened_expr x) ∙ place_kind (out-Expr x).kind (out-Expr x).place (out-ExprKind (out-Expr x).kind) refl

  place_path : (x : Expr) (p : PlaceExpr) → (out-Expr x).kind ≡ expr.Path p → place_of (core_of x) ≡ if_local (number_in (locals_in l) (out-PlaceExpr p).root.text) (found_by l p)
  place_path x p h = ap place_of (lemmas.expr_path x p h) ∙ ap placed (lemmas.opened_place p)

  pub place_local : (x : Expr) (p : PlaceExpr) (number : ℕ) → (out-Expr x).kind ≡ expr.Path p → number_in (locals_in l) (out-PlaceExpr p).root.text ≡ Some number → place_of (core_of x) ≡ Some (found_by l p)
  place_local x p number h e = place_path x p h ∙ ap (λ o. if_local o (found_by l p)) e

  pub place_top : (x : Expr) (p : PlaceExpr) → (out-Expr x).kind ≡ expr.Path p → number_in (locals_in l) (out-PlaceExpr p).root.text ≡ None → place_of (core_of x) ≡ None
  place_top x p h e = place_path x p h ∙ ap (λ o. if_local o (found_by l p)) e

-- ---- lengths

abbrev standing : Task → Spot → Option ValueTree
standing t p = get (get_or (map held_tree t.locals) p.root Hole) p.path

pub nothing_counted : (p : Spot) (n : ℕ) (t : Task) → standing t p ≡ None → from (count_there p) n t ≡ Halted (Stuck Holes) (now_of t).task
unfolding count_there there and_then mine pure halt
nothing_counted p n t h = rw h refl

pub none_counted : (p : Spot) (n : ℕ) (t : Task) (u : ValueTree) → standing t p ≡ Some u → length_of u ≡ None → from (count_there p) n t ≡ Halted (Stuck Holes) (now_of t).task
unfolding count_there there and_then mine pure halt
none_counted p n t u h e = rw h (rw e refl)

pub hole_counted : (p : Spot) (n : ℕ) (t : Task) → get_or (map held_tree t.locals) p.root Hole ≡ Hole → from (count_there p) n t ≡ Halted (Stuck Holes) (now_of t).task
unfolding count_there there and_then mine pure halt
hole_counted p n t h = rw h (go p.path)
  where
    go : (path : Path) → from (known Holes (get Hole path) >>= (λ (u : ValueTree). known Holes (length_of u) >>= (λ k. pure (Number (pos k))))) n t ≡ Halted (Stuck Holes) (now_of t).task
    go [] = refl
    go (s ∷ path) = refl

pub all_counted : (p : Spot) (n : ℕ) (t : Task) (u : ValueTree) (k : ℕ) → standing t p ≡ Some u → length_of u ≡ Some k → from (count_there p) n t ≡ Is (now_of t, Number (pos k))
unfolding count_there there and_then mine pure halt
all_counted p n t u k h e = rw h (rw e refl)

pub ruleset by_length = (nothing_counted, none_counted, hole_counted, all_counted)
