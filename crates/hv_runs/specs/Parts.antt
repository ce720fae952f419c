-- The same of the parts of the tree as code has them.
use Rattle.std.specs.Prelude.{Bool, true, false, ◌&&◌, List, [], ◌∷◌, Option, Some, None}
use Rattle.hv_tree.specs.declared.types.Conv.{Conv}
use Rattle.hv_tree.specs.declared.types.Ty.{Ty}
use Rattle.hv_tree.specs.declared.ast.Operator.{Operator}
use Rattle.hv_tree.specs.declared.place.Place.{Place}
use Rattle.hv_tree.specs.declared.ast.Arg.{Arg}
use Rattle.hv_tree.specs.declared.ast.Block.{Block}
use Rattle.hv_tree.specs.declared.ast.Branch.{Branch, out-Branch}
use Rattle.hv_tree.specs.declared.ast.Call.{Call}
use Rattle.hv_tree.specs.declared.ast.Expr.{Expr}
use Rattle.hv_tree.specs.declared.ast.PlaceExpr.{PlaceExpr}
use Rattle.hv_tree.specs.declared.ast.Step.{Step}
use Rattle.hv_tree.specs.declared.ast.Stmt.{Stmt}
use Rattle.hv_tree.specs.Core as core
use Rattle.hv_runs.specs.Walked as spec

-- a parameter of a function type
abbrev pub pair_reads : Conv × Ty → Bool
pair_reads p = spec.is_let p.0 && spec.ty_reads (core.core_ty p.1)

abbrev pub pairs_read : List (Conv × Ty) → Bool
pairs_read [] = true
pairs_read (p ∷ ps) = pair_reads p && pairs_read ps

abbrev pub expr_runs : Expr → Bool
expr_runs x = spec.expr_runs (core.core_of x)

abbrev pub exprs_run : List Expr → Bool
exprs_run xs = spec.exprs_run (core.core_exprs xs)

abbrev pub links_run : List (Operator × Place × Expr) → Bool
links_run links = spec.links_run (core.core_links links)

abbrev pub place_runs : PlaceExpr → Bool
place_runs place = spec.steps_run (core.core_place place).1

abbrev pub steps_run : List Step → Bool
steps_run steps = spec.steps_run (core.core_steps steps)

-- the index of a step
abbrev pub step_runs : Step → Bool
step_runs step = spec.steps_run (core.core_step step core.NoSteps)

abbrev pub call_runs : Call → Bool
call_runs call = spec.call_runs (core.core_call call)

abbrev pub args_run : List Arg → Bool
args_run args = spec.args_run (core.core_args args)

abbrev pub arg_runs : Arg → Bool
arg_runs arg = spec.args_run (core.core_arg arg core.NoArgs)

abbrev pub block_runs : Block → Bool
block_runs block = spec.block_runs (core.core_block block)

abbrev pub stmts_run : List Stmt → Bool
stmts_run stmts = spec.stmts_run (core.core_stmts stmts)

abbrev pub stmt_runs : Stmt → Bool
stmt_runs stmt = spec.stmt_runs (core.core_stmt stmt)

abbrev pub branch_runs : Branch → Bool
branch_runs b = expr_runs (out-Branch b).test && block_runs (out-Branch b).body

abbrev pub branches_run : List Branch → Bool
branches_run branches = spec.branches_run (core.core_branches branches None)

abbrev pub option_block_runs : Option Block → Bool
option_block_runs None = true
option_block_runs (Some b) = block_runs b

-- the value of a `var`, which has to have one
abbrev pub value_runs : Option Expr → Bool
value_runs None = false
value_runs (Some x) = expr_runs x

-- the value of a `return`
abbrev pub option_expr_runs : Option Expr → Bool
option_expr_runs None = true
option_expr_runs (Some x) = expr_runs x
