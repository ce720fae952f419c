-- The test of a part and those in it is the test of each site.
use Rattle.std.specs.List.{list_all}
use Rattle.std.proofs.Common.{◌≡◌, Bool, true, false, ◌&&◌, List, ◌++◌, refl, sym, ap, ◌∙◌}
use Rattle.std.proofs.lemmas.List.Folds.{list_all-append}
use Rattle.hv_tree.specs.Core.{CoreExpr, Number, Truth, Path, Calls, Awaits, Array, Filled, Count, Lambda, Prefix, Chain, CoreExprs, NoExprs, ExprOf, CoreLinks, NoLinks, LinkOf, CoreSteps, NoSteps, FieldStep, IndexStep, CoreCall, CallOf, CoreArgs, NoArgs, ValueArg, RefArg, CoreBlock, BlockOf, CoreStmts, NoStmts, StmtOf, CoreBranches, NoElse, Else, BranchOf, CoreStmt, Var, VarWith, Let, Inout, Assign, If, While, Return, ReturnWith, Print, Task, AwaitsAlone, CallsAlone, Bare}
use Rattle.hv_decls.specs.Sites.{Part, ExprPart, CallPart, PlacePart, StmtPart, TestPart, Site, Scope, scope_behind, lambda_body, body_scope, expr_sites, exprs_sites, link_sites, step_sites, call_sites, arg_sites, block_sites, stmts_sites, branch_sites, stmt_sites}
use Rattle.hv_runs.specs.Walked as spec

-- ---- a part alone

abbrev pub expr_alone : CoreExpr → Bool
expr_alone (Awaits at name) = false
expr_alone (Lambda at captures params result body) = spec.header_runs params result body
expr_alone _ = true

abbrev pub stmt_alone : CoreStmt → Bool
stmt_alone (Var at name t) = false
stmt_alone (VarWith at name t x) = spec.ty_reads t
stmt_alone (Let at name t x) = spec.ty_reads t
stmt_alone (Inout at name t root steps) = false
stmt_alone (Task at name t spawn budget call) = false
stmt_alone (AwaitsAlone at name) = false
stmt_alone _ = true

abbrev pub part_alone : Part → Bool
part_alone (ExprPart x) = expr_alone x
part_alone (CallPart call) = true
part_alone (PlacePart root steps) = true
part_alone (StmtPart x) = stmt_alone x
part_alone (TestPart x) = true

abbrev pub site_alone : Site → Bool
site_alone w = part_alone w.part

-- ---- all sites

abbrev pub sites_run : List Site → Bool
sites_run ws = list_all site_alone ws

joined : (a b : Bool) (xs ys : List Site) → a ≡ sites_run xs → b ≡ sites_run ys → (a && b) ≡ sites_run (xs ++ ys)
joined a b xs ys e f = ap (λ c. c && b) e ∙ ap (λ c. sites_run xs && c) f ∙ sym (list_all-append site_alone xs ys)

mutual
  pub expr_same : (x : CoreExpr) (s : Scope) → spec.expr_runs x ≡ sites_run (expr_sites x s)
  expr_same (Number at z) s = refl
  expr_same (Truth at b) s = refl
  expr_same (Path at root steps) s = steps_same steps s
  expr_same (Calls at call) s = call_same call s
  expr_same (Awaits at name) s = refl
  expr_same (Array at xs) s = exprs_same xs s
  expr_same (Filled at len value) s = joined (spec.expr_runs len) (spec.expr_runs value) (expr_sites len s) (expr_sites value s) (expr_same len s) (expr_same value s)
  expr_same (Count at root steps) s = steps_same steps s
  expr_same (Lambda at captures params result body) s = ap (λ b. spec.header_runs params result body && b) (block_same body (body_scope (lambda_body s captures params result body)))
  expr_same (Prefix at o x) s = expr_same x s
  expr_same (Chain at first links) s = joined (spec.expr_runs first) (spec.links_run links) (expr_sites first s) (link_sites links s) (expr_same first s) (links_same links s)

  exprs_same : (xs : CoreExprs) (s : Scope) → spec.exprs_run xs ≡ sites_run (exprs_sites xs s)
  exprs_same NoExprs s = refl
  exprs_same (ExprOf x rest) s = joined (spec.expr_runs x) (spec.exprs_run rest) (expr_sites x s) (exprs_sites rest s) (expr_same x s) (exprs_same rest s)

  links_same : (links : CoreLinks) (s : Scope) → spec.links_run links ≡ sites_run (link_sites links s)
  links_same NoLinks s = refl
  links_same (LinkOf o at x rest) s = joined (spec.expr_runs x) (spec.links_run rest) (expr_sites x s) (link_sites rest s) (expr_same x s) (links_same rest s)

  steps_same : (steps : CoreSteps) (s : Scope) → spec.steps_run steps ≡ sites_run (step_sites steps s)
  steps_same NoSteps s = refl
  steps_same (FieldStep name rest) s = steps_same rest s
  steps_same (IndexStep at x rest) s = joined (spec.expr_runs x) (spec.steps_run rest) (expr_sites x s) (step_sites rest s) (expr_same x s) (steps_same rest s)

  call_same : (c : CoreCall) (s : Scope) → spec.call_runs c ≡ sites_run (call_sites c s)
  call_same (CallOf root steps at args) s = joined (spec.steps_run steps) (spec.args_run args) (step_sites steps s) (arg_sites args s) (steps_same steps s) (args_same args s)

  args_same : (args : CoreArgs) (s : Scope) → spec.args_run args ≡ sites_run (arg_sites args s)
  args_same NoArgs s = refl
  args_same (ValueArg x rest) s = joined (spec.expr_runs x) (spec.args_run rest) (expr_sites x s) (arg_sites rest s) (expr_same x s) (args_same rest s)
  args_same (RefArg at root steps rest) s = joined (spec.steps_run steps) (spec.args_run rest) (step_sites steps s) (arg_sites rest s) (steps_same steps s) (args_same rest s)

  pub block_same : (b : CoreBlock) (s : Scope) → spec.block_runs b ≡ sites_run (block_sites b s)
  block_same (BlockOf stmts end) s = stmts_same stmts s

  stmts_same : (stmts : CoreStmts) (s : Scope) → spec.stmts_run stmts ≡ sites_run (stmts_sites stmts s)
  stmts_same NoStmts s = refl
  stmts_same (StmtOf x rest) s = joined (spec.stmt_runs x) (spec.stmts_run rest) (stmt_sites x s) (stmts_sites rest (scope_behind x s)) (stmt_same x s) (stmts_same rest (scope_behind x s))

  branches_same : (branches : CoreBranches) (s : Scope) → spec.branches_run branches ≡ sites_run (branch_sites branches s)
  branches_same NoElse s = refl
  branches_same (Else block) s = block_same block s
  branches_same (BranchOf test body rest) s =
      joined (spec.expr_runs test) (spec.block_runs body && spec.branches_run rest) (expr_sites test s) (block_sites body s ++ branch_sites rest s) (expr_same test s)
      (joined (spec.block_runs body) (spec.branches_run rest) (block_sites body s) (branch_sites rest s) (block_same body s) (branches_same rest s))

  stmt_same : (x : CoreStmt) (s : Scope) → spec.stmt_runs x ≡ sites_run (stmt_sites x s)
  stmt_same (Var at name t) s = refl
  stmt_same (VarWith at name t x) s = ap (λ b. spec.ty_reads t && b) (expr_same x s)
  stmt_same (Let at name t x) s = ap (λ b. spec.ty_reads t && b) (expr_same x s)
  stmt_same (Inout at name t root steps) s = refl
  stmt_same (Assign at root steps x) s = joined (spec.steps_run steps) (spec.expr_runs x) (step_sites steps s) (expr_sites x s) (steps_same steps s) (expr_same x s)
  stmt_same (If at branches) s = branches_same branches s
  stmt_same (While at test body) s = joined (spec.expr_runs test) (spec.block_runs body) (expr_sites test s) (block_sites body s) (expr_same test s) (block_same body s)
  stmt_same (Return at) s = refl
  stmt_same (ReturnWith at x) s = expr_same x s
  stmt_same (Print at x) s = expr_same x s
  stmt_same (Task at name t spawn budget call) s = refl
  stmt_same (AwaitsAlone at name) s = refl
  stmt_same (CallsAlone at call) s = call_same call s
  stmt_same (Bare at block) s = block_same block s
