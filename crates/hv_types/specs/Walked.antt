-- What is judged wrong at the sites of each part of the tree as code has it.
use Rattle.std.specs.Prelude.{List, [], ◌∷◌, ◌++◌, Option, Some, None, map}
use Rattle.hv_tree.specs.declared.place.Place.{Place}
use Rattle.hv_tree.specs.declared.types.Name.{Name}
use Rattle.hv_tree.specs.declared.types.Ty.{Ty}
use Rattle.hv_tree.specs.declared.refusal.Refusal.{Refusal}
use Rattle.hv_tree.specs.declared.ast.Operator.{Operator}
use Rattle.hv_tree.specs.declared.ast.Arg.{Arg}
use Rattle.hv_tree.specs.declared.ast.Block.{Block}
use Rattle.hv_tree.specs.declared.ast.Branch.{Branch, out-Branch}
use Rattle.hv_tree.specs.declared.ast.Call.{Call}
use Rattle.hv_tree.specs.declared.ast.Expr.{Expr}
use Rattle.hv_tree.specs.declared.ast.Param.{Param}
use Rattle.hv_tree.specs.declared.ast.PlaceExpr.{PlaceExpr}
use Rattle.hv_tree.specs.declared.ast.Step.{Step}
use Rattle.hv_tree.specs.declared.ast.Stmt.{Stmt}
use Rattle.hv_tree.specs.Core as core
use Rattle.hv_tree.specs.declared.ast.Decl.{Decl}
use Rattle.hv_tree.specs.declared.ast.FunDecl.{FunDecl}
use Rattle.hv_decls.specs.Locals.{param_local, fun_body}
use Rattle.hv_decls.specs.Sites as sites
use Rattle.hv_decls.specs.Sites.{Scope, Site, TestPart, PlacePart, site}
use Rattle.hv_scope.specs.declared.known.Known.{Known}
use Rattle.hv_scope.specs.Known.{local_by, core_fun}
use Rattle.hv_type_judge.specs.Judged as spec
use Rattle.hv_decls.specs.Types.{BoolType}
use Rattle.hv_types.specs.declared.here.Program.{Program}

-- what is around a part
abbrev pub scope_of : List Known → Option Ty → Scope
scope_of visible returned = record { visible = map local_by visible; result = core.core_option_ty returned }

-- the sites of an expression behind its own
abbrev pub inside_sites : core.CoreExpr → Scope → List Site
inside_sites (core.Number at z) s = []
inside_sites (core.Truth at b) s = []
inside_sites (core.Path at root steps) s = site s (PlacePart root steps) ∷ sites.step_sites steps s
inside_sites (core.Calls at call) s = sites.call_sites call s
inside_sites (core.Awaits at name) s = []
inside_sites (core.Array at xs) s = sites.exprs_sites xs s
inside_sites (core.Filled at len value) s = sites.expr_sites len s ++ sites.expr_sites value s
inside_sites (core.Count at root steps) s = site s (PlacePart root steps) ∷ sites.step_sites steps s
inside_sites (core.Lambda at captures params result body) s = sites.block_sites body (sites.body_scope (sites.lambda_body s captures params result body))
inside_sites (core.Prefix at o x) s = sites.expr_sites x s
inside_sites (core.Chain at first links) s = sites.expr_sites first s ++ sites.link_sites links s

-- those of a statement behind its own
abbrev pub within_sites : core.CoreStmt → Scope → List Site
within_sites (core.Var at name t) s = []
within_sites (core.VarWith at name t x) s = sites.expr_sites x s
within_sites (core.Let at name t x) s = sites.expr_sites x s
within_sites (core.Inout at name t root steps) s = site s (PlacePart root steps) ∷ sites.step_sites steps s
within_sites (core.Assign at root steps x) s = site s (PlacePart root steps) ∷ (sites.step_sites steps s ++ sites.expr_sites x s)
within_sites (core.If at branches) s = sites.branch_sites branches s
within_sites (core.While at test body) s = site s (TestPart test) ∷ (sites.expr_sites test s ++ sites.block_sites body s)
within_sites (core.Return at) s = []
within_sites (core.ReturnWith at x) s = sites.expr_sites x s
within_sites (core.Print at x) s = sites.expr_sites x s
within_sites (core.Task at name t spawn budget call) s = sites.expr_sites budget s ++ sites.call_sites call s
within_sites (core.AwaitsAlone at name) s = []
within_sites (core.CallsAlone at call) s = sites.call_sites call s
within_sites (core.Bare at block) s = sites.block_sites block s

module _ (p : Program) where
  -- what is judged wrong at these sites
  abbrev pub judged : List Site → List Refusal
  judged ws = spec.sites_judged (core.core_tree p.declared.now) p.holding.now ws

  module _ (visible : List Known) (returned : Option Ty) where
    -- a part alone
    abbrev pub expr_here : Expr → List Refusal
    expr_here x = spec.expr_judged (core.core_tree p.declared.now) p.holding.now (scope_of visible returned) (core.core_of x)

    abbrev pub call_here : Call → List Refusal
    call_here call = spec.call_judged (core.core_tree p.declared.now) p.holding.now (scope_of visible returned) (core.core_call call)

    abbrev pub place_here : PlaceExpr → List Refusal
    place_here place = spec.place_judged (core.core_tree p.declared.now) p.holding.now (scope_of visible returned) (core.core_place place).0 (core.core_place place).1

    abbrev pub stmt_here : Stmt → List Refusal
    stmt_here stmt = spec.stmt_judged (core.core_tree p.declared.now) p.holding.now (scope_of visible returned) (core.core_stmt stmt)

    abbrev pub test_here : Expr → List Refusal
    test_here x = spec.wrong (core.core_tree p.declared.now) p.holding.now (scope_of visible returned) (Some BoolType) (core.core_of x)

    -- a part and those in it
    abbrev pub expr_walked : Expr → List Refusal
    expr_walked x = judged (sites.expr_sites (core.core_of x) (scope_of visible returned))

    abbrev pub inside_walked : Expr → List Refusal
    inside_walked x = judged (inside_sites (core.core_of x) (scope_of visible returned))

    abbrev pub exprs_walked : List Expr → List Refusal
    exprs_walked xs = judged (sites.exprs_sites (core.core_exprs xs) (scope_of visible returned))

    abbrev pub links_walked : List (Operator × Place × Expr) → List Refusal
    links_walked links = judged (sites.link_sites (core.core_links links) (scope_of visible returned))

    abbrev pub steps_walked : List Step → List Refusal
    steps_walked steps = judged (sites.step_sites (core.core_steps steps) (scope_of visible returned))

    abbrev pub step_walked : Step → List Refusal
    step_walked step = judged (sites.step_sites (core.core_step step core.NoSteps) (scope_of visible returned))

    -- a place, and its indices
    abbrev pub place_walked : PlaceExpr → List Refusal
    place_walked place = judged (site (scope_of visible returned) (PlacePart (core.core_place place).0 (core.core_place place).1) ∷ sites.step_sites (core.core_place place).1 (scope_of visible returned))

    abbrev pub call_walked : Call → List Refusal
    call_walked call = judged (sites.call_sites (core.core_call call) (scope_of visible returned))

    abbrev pub args_walked : List Arg → List Refusal
    args_walked args = judged (sites.arg_sites (core.core_args args) (scope_of visible returned))

    abbrev pub arg_walked : Arg → List Refusal
    arg_walked arg = judged (sites.arg_sites (core.core_arg arg core.NoArgs) (scope_of visible returned))

    abbrev pub block_walked : Block → List Refusal
    block_walked block = judged (sites.block_sites (core.core_block block) (scope_of visible returned))

    abbrev pub stmts_walked : List Stmt → List Refusal
    stmts_walked stmts = judged (sites.stmts_sites (core.core_stmts stmts) (scope_of visible returned))

    abbrev pub stmt_walked : Stmt → List Refusal
    stmt_walked stmt = judged (sites.stmt_sites (core.core_stmt stmt) (scope_of visible returned))

    abbrev pub within_walked : Stmt → List Refusal
    within_walked stmt = judged (within_sites (core.core_stmt stmt) (scope_of visible returned))

    -- a test, and the expression in it
    abbrev pub test_walked : Expr → List Refusal
    test_walked x = judged (site (scope_of visible returned) (TestPart (core.core_of x)) ∷ sites.expr_sites (core.core_of x) (scope_of visible returned))

    abbrev pub branch_walked : Branch → List Refusal
    branch_walked b = test_walked (out-Branch b).test ++ block_walked (out-Branch b).body

    abbrev pub branches_walked : List Branch → List Refusal
    branches_walked branches = judged (sites.branch_sites (core.core_branches branches None) (scope_of visible returned))

    abbrev pub option_expr_walked : Option Expr → List Refusal
    option_expr_walked None = []
    option_expr_walked (Some x) = expr_walked x

    abbrev pub option_block_walked : Option Block → List Refusal
    option_block_walked None = []
    option_block_walked (Some b) = block_walked b

  -- the body of a lambda that stands where these locals are visible
  abbrev pub lambda_walked : List Known → List Name → List Param → Option Ty → Block → List Refusal
  lambda_walked visible captures params result body =
      judged
      (sites.block_sites (core.core_block body)
      (record {
        visible = map (sites.capture_local (map local_by visible)) captures ++ map param_local (map core.core_param params);
        result = core.core_option_ty result;
      }))

  -- ---- declarations

  abbrev pub function_walked : FunDecl → List Refusal
  function_walked f = judged (sites.sites_of_body (fun_body (core_fun f)))

  abbrev pub decl_walked : Decl → List Refusal
  decl_walked d = judged (sites.decl_sites (core.core_decl d ∷ []))

  abbrev pub decls_walked : List Decl → List Refusal
  decls_walked ds = judged (sites.decl_sites (map core.core_decl ds))
