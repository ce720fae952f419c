-- The bodies of the lambdas in a part, by the locals that are visible there.
use Rattle.std.specs.Prelude.{List, [], ◌∷◌, ◌++◌, map, Option, None, Some}
use Rattle.hv_tree.specs.declared.types.Name.{Name}
use Rattle.hv_tree.specs.declared.ast.Block.{Block}
use Rattle.hv_tree.specs.declared.ast.Branch.{Branch, out-Branch}
use Rattle.hv_tree.specs.declared.types.Ty.{Ty}
use Rattle.hv_tree.specs.declared.ast.Expr.{Expr}
use Rattle.hv_tree.specs.declared.ast.Param.{Param}
use Rattle.hv_tree.specs.declared.ast.FunDecl.{FunDecl}
use Rattle.hv_tree.specs.Core.{CoreParam, CoreTy, CoreExpr, Number, Truth, Path, Calls, Awaits, Array, Filled, Count, Lambda, Prefix, Chain, CoreExprs, NoExprs, ExprOf, CoreLinks, NoLinks, LinkOf, CoreSteps, NoSteps, FieldStep, IndexStep, CoreCall, CallOf, CoreArgs, NoArgs, ValueArg, RefArg, CoreBlock, BlockOf, CoreStmts, NoStmts, StmtOf, CoreBranches, NoElse, Else, BranchOf, CoreStmt, Var, VarWith, Let, Inout, Assign, If, While, Return, ReturnWith, Print, Task, AwaitsAlone, CallsAlone, Bare, core_param, core_option_ty, core_of, core_block}
use Rattle.hv_decls.specs.Locals.{Local, binds, listed, CoreBody, entry_locals, param_local}
use Rattle.hv_decls.specs.Sites as sites
use Rattle.hv_scope.specs.declared.bodies.Body.{Body}
use Rattle.hv_scope.specs.Known.{local_by}

-- a scope with these locals
abbrev pub scope : List Local → sites.Scope
scope v = record { visible = v; result = None }

-- the body of a lambda
abbrev pub lambda_in : List Local → List Name → List CoreParam → Option CoreTy → CoreBlock → CoreBody
lambda_in v captures params result block = sites.lambda_body (scope v) captures params result block

abbrev mutual
  pub expr_bodies : List Local → CoreExpr → List CoreBody
  expr_bodies v (Number at z) = []
  expr_bodies v (Truth at b) = []
  expr_bodies v (Path at root steps) = step_bodies v steps
  expr_bodies v (Calls at call) = call_bodies v call
  expr_bodies v (Awaits at name) = []
  expr_bodies v (Array at xs) = part_bodies v xs
  expr_bodies v (Filled at len value) = expr_bodies v len ++ expr_bodies v value
  expr_bodies v (Count at root steps) = step_bodies v steps
  expr_bodies v (Lambda at captures params result body) =
      lambda_in v captures params result body ∷ block_bodies (entry_locals (lambda_in v captures params result body)) body
  expr_bodies v (Prefix at o x) = expr_bodies v x
  expr_bodies v (Chain at first links) = expr_bodies v first ++ link_bodies v links

  pub part_bodies : List Local → CoreExprs → List CoreBody
  part_bodies v NoExprs = []
  part_bodies v (ExprOf x rest) = expr_bodies v x ++ part_bodies v rest

  pub link_bodies : List Local → CoreLinks → List CoreBody
  link_bodies v NoLinks = []
  link_bodies v (LinkOf o at x rest) = expr_bodies v x ++ link_bodies v rest

  pub step_bodies : List Local → CoreSteps → List CoreBody
  step_bodies v NoSteps = []
  step_bodies v (FieldStep name rest) = step_bodies v rest
  step_bodies v (IndexStep at x rest) = expr_bodies v x ++ step_bodies v rest

  pub call_bodies : List Local → CoreCall → List CoreBody
  call_bodies v (CallOf root steps at args) = step_bodies v steps ++ arg_bodies v args

  pub arg_bodies : List Local → CoreArgs → List CoreBody
  arg_bodies v NoArgs = []
  arg_bodies v (ValueArg x rest) = expr_bodies v x ++ arg_bodies v rest
  arg_bodies v (RefArg at root steps rest) = step_bodies v steps ++ arg_bodies v rest

  pub block_bodies : List Local → CoreBlock → List CoreBody
  block_bodies v (BlockOf stmts end) = stmts_bodies v stmts

  pub stmts_bodies : List Local → CoreStmts → List CoreBody
  stmts_bodies v NoStmts = []
  stmts_bodies v (StmtOf x rest) = stmt_bodies v x ++ stmts_bodies (listed (binds x) ++ v) rest

  pub branch_bodies : List Local → CoreBranches → List CoreBody
  branch_bodies v NoElse = []
  branch_bodies v (Else block) = block_bodies v block
  branch_bodies v (BranchOf test body rest) = expr_bodies v test ++ (block_bodies v body ++ branch_bodies v rest)

  pub stmt_bodies : List Local → CoreStmt → List CoreBody
  stmt_bodies v (Var at name t) = []
  stmt_bodies v (VarWith at name t x) = expr_bodies v x
  stmt_bodies v (Let at name t x) = expr_bodies v x
  stmt_bodies v (Inout at name t root steps) = step_bodies v steps
  stmt_bodies v (Assign at root steps x) = step_bodies v steps ++ expr_bodies v x
  stmt_bodies v (If at branches) = branch_bodies v branches
  stmt_bodies v (While at test body) = expr_bodies v test ++ block_bodies v body
  stmt_bodies v (Return at) = []
  stmt_bodies v (ReturnWith at x) = expr_bodies v x
  stmt_bodies v (Print at x) = expr_bodies v x
  stmt_bodies v (Task at name t spawn budget call) = expr_bodies v budget ++ call_bodies v call
  stmt_bodies v (AwaitsAlone at name) = []
  stmt_bodies v (CallsAlone at call) = call_bodies v call
  stmt_bodies v (Bare at block) = block_bodies v block

-- ---- as the code knows them

abbrev pub body_by : Body → CoreBody
body_by b = record { captures = map local_by b.captures.items; params = map core_param b.params.now; result = core_option_ty b.returned.now; block = core_block b.block.now }

-- the bodies of the tests and blocks of an `if`
abbrev pub tests_bodies : List Local → List Branch → List CoreBody
tests_bodies v [] = []
tests_bodies v (b ∷ rest) = (expr_bodies v (core_of (out-Branch b).test) ++ block_bodies v (core_block (out-Branch b).body)) ++ tests_bodies v rest

abbrev pub else_bodies : List Local → Option Block → List CoreBody
else_bodies v None = []
else_bodies v (Some b) = block_bodies v (core_block b)

-- the value of a `var` or a `return`, if it has one
abbrev pub value_bodies : List Local → Option Expr → List CoreBody
value_bodies v None = []
value_bodies v (Some x) = expr_bodies v (core_of x)

abbrev pub body_with : List Local → List Param → Option Ty → Block → CoreBody
body_with captures params result b = record { captures = captures; params = map core_param params; result = core_option_ty result; block = core_block b }

-- the body of a function, and those of the lambdas in it
abbrev pub function_bodies : FunDecl → List CoreBody
function_bodies f = body_with [] f.params f.result f.body ∷ block_bodies (map param_local (map core_param f.params)) (core_block f.body)
