-- What an expression does, by its kind.
use Rattle.std.proofs.Common.{◌≡◌, ℤ, Bool, List, map, Option, refl, ap, ◌∙◌}
use Rattle.hv_tree.specs.declared.place.Place.{Place}
use Rattle.hv_tree.specs.declared.types.Name.{Name}
use Rattle.hv_tree.specs.declared.types.Ty.{Ty}
use Rattle.hv_tree.specs.declared.ast.Operator.{Operator}
use Rattle.hv_tree.specs.declared.ast.Param.{Param}
use Rattle.hv_tree.specs.declared.ast.Block.{Block}
use Rattle.hv_tree.specs.declared.ast.Call.{Call}
use Rattle.hv_tree.specs.declared.ast.Expr.{Expr, out-Expr}
use Rattle.hv_tree.specs.declared.ast.ExprKind.TheVariants as expr
use Rattle.hv_tree.specs.declared.ast.PlaceExpr.{PlaceExpr, out-PlaceExpr}
use Rattle.hv_tree.specs.Core.{Path, Count, CoreSteps, core_steps, core_block, core_call}
use Rattle.hv_tree.proofs.CoreLemmas as lemmas
use Rattle.hv_decls.specs.Locals.{number_in}
use Rattle.hv_value.specs.ValueTree.{ValueTree, Number, Truth}
use Rattle.hv_sem_copying.specs.Run.{pure}
use Rattle.hv_sem_flat.specs.Accesses.{Plain}
use Rattle.hv_sem_flat.specs.Parts.{named, counted}
use Rattle.hv_eval_env.specs.declared.level.Level.{Level}
use Rattle.hv_eval_env.specs.Level.{tree_in, locals_in, deeper_in, value_in}
use Rattle.hv_meaning.specs.Kinds.{awaited_in}
use Rattle.hv_eval_calls.specs.Calling.{call_in}
use Rattle.hv_eval_operands.specs.Links.{value_by}
use Rattle.hv_eval_operands.specs.Places.{found_by}
use Rattle.hv_eval_operands.specs.Operands.{array_in, filled_in, prefix_in, chain_in, lambda_in}

module _ (l : Level) (x : Expr) where
  pub value_int : (z : ℤ) → (out-Expr x).kind ≡ expr.Int z → value_in l x ≡ pure (Number z)
  value_int z h = ap (value_by l) (lemmas.expr_int x z h)

  pub value_bool : (b : Bool) → (out-Expr x).kind ≡ expr.Bool b → value_in l x ≡ pure (Truth b)
  value_bool b h = ap (value_by l) (lemmas.expr_bool x b h)

  pub value_path : (p : PlaceExpr) → (out-Expr x).kind ≡ expr.Path p →
      value_in l x ≡ named (tree_in l) (number_in (locals_in l) (out-PlaceExpr p).root.text) (out-PlaceExpr p).root (core_steps (out-PlaceExpr p).steps) (found_by l p)
  value_path p h = ap (value_by l) (lemmas.expr_path x p h) ∙ ap (λ (r : Name × CoreSteps). value_by l (Path (out-Expr x).place r.0 r.1)) (lemmas.opened_place p)

  pub value_call : (c : Call) → (out-Expr x).kind ≡ expr.Call c → value_in l x ≡ call_in l c
  unfolding call_in
  value_call c h = ap (value_by l) (lemmas.expr_call x c h)

  pub value_await : (name : Name) → (out-Expr x).kind ≡ expr.Await name → value_in l x ≡ awaited_in l name
  value_await name h = ap (value_by l) (lemmas.expr_await x name h)

  pub value_array_lit : (xs : List Expr) → (out-Expr x).kind ≡ expr.ArrayLit xs → value_in l x ≡ array_in l xs
  value_array_lit xs h = ap (value_by l) (lemmas.expr_array_lit x xs h)

  pub value_filled : (len y : Expr) → (out-Expr x).kind ≡ expr.Filled len y → value_in l x ≡ filled_in l (out-Expr x).place len y
  value_filled len y h = ap (value_by l) (lemmas.expr_filled x len y h)

  pub value_count : (p : PlaceExpr) → (out-Expr x).kind ≡ expr.Count p → value_in l x ≡ counted (found_by l p)
  value_count p h = ap (value_by l) (lemmas.expr_count x p h) ∙ ap (λ (r : Name × CoreSteps). value_by l (Count (out-Expr x).place r.0 r.1)) (lemmas.opened_place p)

  pub value_lambda : (captures : List Name) (params : List Param) (result : Option Ty) (body : Block) → (out-Expr x).kind ≡ expr.Lambda captures params result body → value_in l x ≡ lambda_in l captures (core_block body)
  value_lambda captures params result body h = ap (value_by l) (lemmas.expr_lambda x captures params result body h)

  pub value_prefix : (op : Operator) (y : Expr) → (out-Expr x).kind ≡ expr.Prefix op y → value_in l x ≡ prefix_in l (out-Expr x).place op y
  value_prefix op y h = ap (value_by l) (lemmas.expr_prefix x op y h)

  pub value_chain : (first : Expr) (links : List (Operator × Place × Expr)) → (out-Expr x).kind ≡ expr.Chain first links → value_in l x ≡ chain_in l first links
  value_chain first links h = ap (value_by l) (lemmas.expr_chain x first links h)
