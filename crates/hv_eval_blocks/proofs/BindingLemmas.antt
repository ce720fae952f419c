-- Bindings, by whether they stand over a place.
use Rattle.std.proofs.Common.{◌≡◌, Option, Some, None, ap}
use Rattle.hv_tree.specs.declared.types.Name.{Name}
use Rattle.hv_tree.specs.declared.ast.Expr.{Expr}
use Rattle.hv_tree.specs.declared.ast.PlaceExpr.{PlaceExpr}
use Rattle.hv_tree.specs.declared.types.Ty.{Ty}
use Rattle.hv_tree.specs.Core.{core_of, core_ty}
use Rattle.hv_sem_copying.specs.Places.{holes}
use Rattle.hv_sem_copying.specs.Ops.{Reads}
use Rattle.hv_sem_flat.specs.Flat.{place_in}
use Rattle.hv_sem_flat.specs.Parts.{bound, declared}
use Rattle.hv_eval_env.specs.declared.level.Level.{Level}
use Rattle.hv_eval_env.specs.Level.{tree_in, locals_in, deeper_in, value_in}
use Rattle.hv_eval_blocks.specs.Runs.{given, referred}
use Rattle.hv_eval_blocks.specs.Statements.{let_in, var_in, var_by}
use Rattle.hv_eval_operands.specs.Places.{found_by}

module _ (l : Level) (name : Name) (x : Expr) where
  pub let_place : (p : PlaceExpr) → place_in (tree_in l) (locals_in l) (deeper_in l) (core_of x) ≡ Some (found_by l p) → let_in l name x ≡ referred (locals_in l) Reads name (found_by l p)
  unfolding let_in referred
  let_place p e = ap (λ o. bound (locals_in l) name o (value_in l x)) e

  pub let_value : place_in (tree_in l) (locals_in l) (deeper_in l) (core_of x) ≡ None → let_in l name x ≡ given (locals_in l) name (value_in l x)
  unfolding let_in given
  let_value e = ap (λ o. bound (locals_in l) name o (value_in l x)) e

pub ruleset by_let = (let_place, let_value)

module _ (l : Level) (name : Name) (t : Ty) where
  pub var_value : (value : Option Expr) (x : Expr) → value ≡ Some x → var_in l name t value ≡ given (locals_in l) name (value_in l x)
  unfolding var_in given
  var_value value x e = ap (λ v. var_by l name t v) e

  pub var_holes : (value : Option Expr) → value ≡ None → var_in l name t value ≡ declared (locals_in l) name (holes (tree_in l) (core_ty t))
  unfolding var_in
  var_holes value e = ap (λ v. var_by l name t v) e

pub ruleset by_variable = (var_value, var_holes)
