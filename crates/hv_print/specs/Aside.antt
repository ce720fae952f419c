-- A program with all its places set to 0, on its plain form. Two programs are the same, places aside, where these are equal.
use Rattle.std.specs.Prelude.{map, Option, Some, None}
use Rattle.hv_tree.specs.declared.place.Place.{Place}
use Rattle.hv_tree.specs.declared.types.Name.{Name}
use Rattle.hv_tree.specs.declared.ast.Tree.{Tree}
use Rattle.hv_tree.specs.Core.{CoreTy, IntTy, BoolTy, NamedTy, ArrayTy, FunTy, FunToTy, CoreTys, NoTys, TyOf, CoreParam, CoreExpr, Number, Truth, Path, Calls, Awaits, Array, Filled, Count, Lambda, Prefix, Chain, CoreExprs, NoExprs, ExprOf, CoreLinks, NoLinks, LinkOf, CoreSteps, NoSteps, FieldStep, IndexStep, CoreCall, CallOf, CoreArgs, NoArgs, ValueArg, RefArg, CoreBlock, BlockOf, CoreStmts, NoStmts, StmtOf, CoreBranches, NoElse, Else, BranchOf, CoreStmt, Var, VarWith, Let, Inout, Assign, If, While, Return, ReturnWith, Print, Task, AwaitsAlone, CallsAlone, Bare, CoreField, CoreDecl, StructOf, FunOf, Core, core_tree}

abbrev pub nowhere : Place
nowhere = record { start = 0 }

abbrev pub name_aside : Name → Name
name_aside n = record { text = n.text; place = nowhere }

-- ---- types

abbrev mutual
  pub ty_aside : CoreTy → CoreTy
  ty_aside (IntTy at) = IntTy nowhere
  ty_aside (BoolTy at) = BoolTy nowhere
  ty_aside (NamedTy name) = NamedTy (name_aside name)
  ty_aside (ArrayTy at t) = ArrayTy nowhere (ty_aside t)
  ty_aside (FunTy at params) = FunTy nowhere (tys_aside params)
  ty_aside (FunToTy at params t) = FunToTy nowhere (tys_aside params) (ty_aside t)

  pub tys_aside : CoreTys → CoreTys
  tys_aside NoTys = NoTys
  tys_aside (TyOf c t more) = TyOf c (ty_aside t) (tys_aside more)

abbrev pub result_aside : Option CoreTy → Option CoreTy
result_aside None = None
result_aside (Some t) = Some (ty_aside t)

abbrev pub param_aside : CoreParam → CoreParam
param_aside p = record { name = name_aside p.name; conv = p.conv; ty = ty_aside p.ty }

-- ---- expressions and statements

abbrev mutual
  pub expr_aside : CoreExpr → CoreExpr
  expr_aside (Number at z) = Number nowhere z
  expr_aside (Truth at b) = Truth nowhere b
  expr_aside (Path at root steps) = Path nowhere (name_aside root) (steps_aside steps)
  expr_aside (Calls at c) = Calls nowhere (call_aside c)
  expr_aside (Awaits at name) = Awaits nowhere (name_aside name)
  expr_aside (Array at xs) = Array nowhere (exprs_aside xs)
  expr_aside (Filled at len value) = Filled nowhere (expr_aside len) (expr_aside value)
  expr_aside (Count at root steps) = Count nowhere (name_aside root) (steps_aside steps)
  expr_aside (Lambda at captures params result body) = Lambda nowhere (map name_aside captures) (map param_aside params) (result_aside result) (block_aside body)
  expr_aside (Prefix at o x) = Prefix nowhere o (expr_aside x)
  expr_aside (Chain at first links) = Chain nowhere (expr_aside first) (links_aside links)

  pub exprs_aside : CoreExprs → CoreExprs
  exprs_aside NoExprs = NoExprs
  exprs_aside (ExprOf x more) = ExprOf (expr_aside x) (exprs_aside more)

  pub links_aside : CoreLinks → CoreLinks
  links_aside NoLinks = NoLinks
  links_aside (LinkOf o at x more) = LinkOf o nowhere (expr_aside x) (links_aside more)

  pub steps_aside : CoreSteps → CoreSteps
  steps_aside NoSteps = NoSteps
  steps_aside (FieldStep name more) = FieldStep (name_aside name) (steps_aside more)
  steps_aside (IndexStep at x more) = IndexStep nowhere (expr_aside x) (steps_aside more)

  pub call_aside : CoreCall → CoreCall
  call_aside (CallOf root steps paren args) = CallOf (name_aside root) (steps_aside steps) nowhere (args_aside args)

  pub args_aside : CoreArgs → CoreArgs
  args_aside NoArgs = NoArgs
  args_aside (ValueArg x more) = ValueArg (expr_aside x) (args_aside more)
  args_aside (RefArg at root steps more) = RefArg nowhere (name_aside root) (steps_aside steps) (args_aside more)

  pub block_aside : CoreBlock → CoreBlock
  block_aside (BlockOf stmts end) = BlockOf (stmts_aside stmts) nowhere

  pub stmts_aside : CoreStmts → CoreStmts
  stmts_aside NoStmts = NoStmts
  stmts_aside (StmtOf x more) = StmtOf (stmt_aside x) (stmts_aside more)

  pub branches_aside : CoreBranches → CoreBranches
  branches_aside NoElse = NoElse
  branches_aside (Else body) = Else (block_aside body)
  branches_aside (BranchOf test body more) = BranchOf (expr_aside test) (block_aside body) (branches_aside more)

  pub stmt_aside : CoreStmt → CoreStmt
  stmt_aside (Var at name t) = Var nowhere (name_aside name) (ty_aside t)
  stmt_aside (VarWith at name t x) = VarWith nowhere (name_aside name) (ty_aside t) (expr_aside x)
  stmt_aside (Let at name t x) = Let nowhere (name_aside name) (ty_aside t) (expr_aside x)
  stmt_aside (Inout at name t root steps) = Inout nowhere (name_aside name) (ty_aside t) (name_aside root) (steps_aside steps)
  stmt_aside (Assign at root steps x) = Assign nowhere (name_aside root) (steps_aside steps) (expr_aside x)
  stmt_aside (If at branches) = If nowhere (branches_aside branches)
  stmt_aside (While at test body) = While nowhere (expr_aside test) (block_aside body)
  stmt_aside (Return at) = Return nowhere
  stmt_aside (ReturnWith at x) = ReturnWith nowhere (expr_aside x)
  stmt_aside (Print at x) = Print nowhere (expr_aside x)
  stmt_aside (Task at handle t spawn budget c) = Task nowhere (name_aside handle) (result_aside t) nowhere (expr_aside budget) (call_aside c)
  stmt_aside (AwaitsAlone at name) = AwaitsAlone nowhere (name_aside name)
  stmt_aside (CallsAlone at c) = CallsAlone nowhere (call_aside c)
  stmt_aside (Bare at body) = Bare nowhere (block_aside body)

-- ---- declarations

abbrev pub field_aside : CoreField → CoreField
field_aside f = record { name = name_aside f.name; ty = ty_aside f.ty }

abbrev pub decl_aside : CoreDecl → CoreDecl
decl_aside (StructOf s) = StructOf (record { name = name_aside s.name; fields = map field_aside s.fields })
decl_aside (FunOf f) = FunOf (record { name = name_aside f.name; params = map param_aside f.params; result = result_aside f.result; body = block_aside f.body })

-- a program with all its places set to 0
abbrev pub Aside : Tree → Core
Aside tree = record { decls = map decl_aside (core_tree tree).decls }
