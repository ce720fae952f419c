-- `Runs` as a walk over the tree tests it, part by part.
use Rattle.std.specs.Prelude.{Bool, true, false, ◌&&◌, List, [], ◌∷◌, Option, Some, None}
use Rattle.hv_tree.specs.declared.types.Conv.{Conv}
use Rattle.hv_tree.specs.declared.types.Conv.TheVariants as conv
use Rattle.hv_tree.specs.Core.{Core, CoreDecl, StructOf, FunOf, CoreField, CoreParam, CoreTy, IntTy, BoolTy, NamedTy, ArrayTy, FunTy, FunToTy, CoreTys, NoTys, TyOf, CoreExpr, Number, Truth, Path, Calls, Awaits, Array, Filled, Count, Lambda, Prefix, Chain, CoreExprs, NoExprs, ExprOf, CoreLinks, NoLinks, LinkOf, CoreSteps, NoSteps, FieldStep, IndexStep, CoreCall, CallOf, CoreArgs, NoArgs, ValueArg, RefArg, CoreBlock, BlockOf, CoreStmts, NoStmts, StmtOf, CoreBranches, NoElse, Else, BranchOf, CoreStmt, Var, VarWith, Let, Inout, Assign, If, While, Return, ReturnWith, Print, Task, AwaitsAlone, CallsAlone, Bare}
use Rattle.hv_law_safe.specs.Runs.{block_ends_in_return}

-- ---- types

abbrev pub is_let : Conv → Bool
is_let conv.Let = true
is_let conv.Inout = false
is_let conv.Sink = false
is_let conv.Set = false

abbrev mutual
  -- a function of the type only reads what it takes
  pub ty_reads : CoreTy → Bool
  ty_reads (IntTy at) = true
  ty_reads (BoolTy at) = true
  ty_reads (NamedTy name) = true
  ty_reads (ArrayTy at element) = ty_reads element
  ty_reads (FunTy at params) = tys_read params
  ty_reads (FunToTy at params result) = tys_read params && ty_reads result

  pub tys_read : CoreTys → Bool
  tys_read NoTys = true
  tys_read (TyOf c t rest) = (is_let c && ty_reads t) && tys_read rest

abbrev pub option_ty_reads : Option CoreTy → Bool
option_ty_reads None = true
option_ty_reads (Some t) = ty_reads t

abbrev pub param_reads : CoreParam → Bool
param_reads p = is_let p.conv && ty_reads p.ty

abbrev pub params_read : List CoreParam → Bool
params_read [] = true
params_read (p ∷ ps) = param_reads p && params_read ps

abbrev pub fields_read : List CoreField → Bool
fields_read [] = true
fields_read (f ∷ fs) = ty_reads f.ty && fields_read fs

-- ---- what stands before a body, and its end

-- where there is a result, the last statement gives one back
abbrev pub returns : Option CoreTy → CoreBlock → Bool
returns None block = true
returns (Some t) block = block_ends_in_return block

abbrev pub header_runs : List CoreParam → Option CoreTy → CoreBlock → Bool
header_runs params result block = params_read params && (option_ty_reads result && returns result block)

-- ---- parts

abbrev mutual
  pub expr_runs : CoreExpr → Bool
  expr_runs (Number at z) = true
  expr_runs (Truth at b) = true
  expr_runs (Path at root steps) = steps_run steps
  expr_runs (Calls at call) = call_runs call
  expr_runs (Awaits at name) = false
  expr_runs (Array at xs) = exprs_run xs
  expr_runs (Filled at len value) = expr_runs len && expr_runs value
  expr_runs (Count at root steps) = steps_run steps
  expr_runs (Lambda at captures params result body) = header_runs params result body && block_runs body
  expr_runs (Prefix at o x) = expr_runs x
  expr_runs (Chain at first links) = expr_runs first && links_run links

  pub exprs_run : CoreExprs → Bool
  exprs_run NoExprs = true
  exprs_run (ExprOf x rest) = expr_runs x && exprs_run rest

  pub links_run : CoreLinks → Bool
  links_run NoLinks = true
  links_run (LinkOf o at x rest) = expr_runs x && links_run rest

  pub steps_run : CoreSteps → Bool
  steps_run NoSteps = true
  steps_run (FieldStep name rest) = steps_run rest
  steps_run (IndexStep at x rest) = expr_runs x && steps_run rest

  pub call_runs : CoreCall → Bool
  call_runs (CallOf root steps at args) = steps_run steps && args_run args

  pub args_run : CoreArgs → Bool
  args_run NoArgs = true
  args_run (ValueArg x rest) = expr_runs x && args_run rest
  args_run (RefArg at root steps rest) = steps_run steps && args_run rest

  pub block_runs : CoreBlock → Bool
  block_runs (BlockOf stmts end) = stmts_run stmts

  pub stmts_run : CoreStmts → Bool
  stmts_run NoStmts = true
  stmts_run (StmtOf x rest) = stmt_runs x && stmts_run rest

  pub branches_run : CoreBranches → Bool
  branches_run NoElse = true
  branches_run (Else block) = block_runs block
  branches_run (BranchOf test body rest) = expr_runs test && (block_runs body && branches_run rest)

  pub stmt_runs : CoreStmt → Bool
  stmt_runs (Var at name t) = false
  stmt_runs (VarWith at name t x) = ty_reads t && expr_runs x
  stmt_runs (Let at name t x) = ty_reads t && expr_runs x
  stmt_runs (Inout at name t root steps) = false
  stmt_runs (Assign at root steps x) = steps_run steps && expr_runs x
  stmt_runs (If at branches) = branches_run branches
  stmt_runs (While at test body) = expr_runs test && block_runs body
  stmt_runs (Return at) = true
  stmt_runs (ReturnWith at x) = expr_runs x
  stmt_runs (Print at x) = expr_runs x
  stmt_runs (Task at name t spawn budget call) = false
  stmt_runs (AwaitsAlone at name) = false
  stmt_runs (CallsAlone at call) = call_runs call
  stmt_runs (Bare at block) = block_runs block

-- ---- programs

abbrev pub body_runs : List CoreParam → Option CoreTy → CoreBlock → Bool
body_runs params result block = header_runs params result block && block_runs block

abbrev pub decl_runs : CoreDecl → Bool
decl_runs (StructOf s) = fields_read s.fields
decl_runs (FunOf f) = body_runs f.params f.result f.body

abbrev pub decls_run : List CoreDecl → Bool
decls_run [] = true
decls_run (d ∷ ds) = decl_runs d && decls_run ds

abbrev pub tree_runs : Core → Bool
tree_runs tree = decls_run tree.decls
