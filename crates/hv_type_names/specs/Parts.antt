-- What is found in the parts of the tree as code has them.
use Rattle.std.specs.Prelude.{ℕ, List, [], ◌∷◌, ◌++◌, Option, Some, None}
use Rattle.hv_tree.specs.declared.types.Conv.{Conv}
use Rattle.hv_tree.specs.declared.types.Ty.{Ty}
use Rattle.hv_tree.specs.declared.refusal.Refusal.{Refusal}
use Rattle.hv_tree.specs.declared.ast.Operator.{Operator}
use Rattle.hv_tree.specs.declared.place.Place.{Place}
use Rattle.hv_tree.specs.declared.ast.Arg.{Arg}
use Rattle.hv_tree.specs.declared.ast.Block.{Block}
use Rattle.hv_tree.specs.declared.ast.Branch.{Branch, out-Branch}
use Rattle.hv_tree.specs.declared.ast.Call.{Call}
use Rattle.hv_tree.specs.declared.ast.Expr.{Expr}
use Rattle.hv_tree.specs.declared.ast.PlaceExpr.{PlaceExpr}
use Rattle.hv_tree.specs.declared.ast.Step.{Step}
use Rattle.hv_tree.specs.declared.ast.Stmt.{Stmt}
use Rattle.hv_tree.specs.Core as core
use Rattle.hv_type_names.specs.declared.program.Program.{Program}
use Rattle.hv_type_names.specs.Found as spec

module _ (p : Program) where
  -- the types of a function type's parameters
  abbrev pub pairs_found : List (Conv × Ty) → List Refusal
  pairs_found [] = []
  pairs_found (x ∷ xs) = spec.ty_found p (core.core_ty x.1) ++ pairs_found xs

  module _ (seen : List (List ℕ)) where
    abbrev pub expr_found : Expr → List Refusal
    expr_found x = spec.expr_found p seen (core.core_of x)

    abbrev pub exprs_found : List Expr → List Refusal
    exprs_found xs = spec.exprs_found p seen (core.core_exprs xs)

    abbrev pub links_found : List (Operator × Place × Expr) → List Refusal
    links_found links = spec.links_found p seen (core.core_links links)

    abbrev pub steps_found : List Step → List Refusal
    steps_found steps = spec.steps_found p seen (core.core_steps steps)

    -- an index of a step
    abbrev pub step_found : Step → List Refusal
    step_found step = spec.steps_found p seen (core.core_step step core.NoSteps)

    abbrev pub place_found : PlaceExpr → List Refusal
    place_found place = spec.use_found p seen (core.core_place place).0 ++ spec.steps_found p seen (core.core_place place).1

    abbrev pub call_found : Call → List Refusal
    call_found call = spec.call_found p seen (core.core_call call)

    abbrev pub args_found : List Arg → List Refusal
    args_found args = spec.args_found p seen (core.core_args args)

    abbrev pub arg_found : Arg → List Refusal
    arg_found arg = spec.args_found p seen (core.core_arg arg core.NoArgs)

    abbrev pub block_found : Block → List Refusal
    block_found block = spec.block_found p seen (core.core_block block)

    abbrev pub stmts_found : List Stmt → List Refusal
    stmts_found stmts = spec.stmts_found p seen (core.core_stmts stmts)

    abbrev pub stmt_found : Stmt → List Refusal
    stmt_found stmt = spec.stmt_found p seen (core.core_stmt stmt)

    abbrev pub branch_found : Branch → List Refusal
    branch_found b = expr_found (out-Branch b).test ++ block_found (out-Branch b).body

    abbrev pub branches_found : List Branch → List Refusal
    branches_found branches = spec.branches_found p seen (core.core_branches branches None)

    abbrev pub option_expr_found : Option Expr → List Refusal
    option_expr_found None = []
    option_expr_found (Some x) = expr_found x

    abbrev pub option_block_found : Option Block → List Refusal
    option_block_found None = []
    option_block_found (Some b) = block_found b
