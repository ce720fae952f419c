-- Where each part of a program stands: the visible locals, and the body around it.
use Rattle.std.specs.Prelude.{List, [], ◌∷◌, ◌++◌, map, Option}
use Rattle.hv_tree.specs.declared.types.Name.{Name}
use Rattle.hv_tree.specs.Core.{Core, CoreDecl, StructOf, FunOf, CoreParam, CoreTy, CoreExpr, Number, Truth, Path, Calls, Awaits, Array, Filled, Count, Lambda, Prefix, Chain, CoreExprs, NoExprs, ExprOf, CoreLinks, NoLinks, LinkOf, CoreSteps, NoSteps, FieldStep, IndexStep, CoreCall, CallOf, CoreArgs, NoArgs, ValueArg, RefArg, CoreBlock, BlockOf, CoreStmts, NoStmts, StmtOf, CoreBranches, NoElse, Else, BranchOf, CoreStmt, Var, VarWith, Let, Inout, Assign, If, While, Return, ReturnWith, Print, Task, AwaitsAlone, CallsAlone, Bare}
use Rattle.hv_decls.specs.Locals.{Captured, Local, binds, listed, CoreBody, fun_body, entry_locals, local_in, value_of}

-- ---- parts that rules speak of

-- a part of a body
pub data Part : Type 0 where
  -- an expression, wherever it stands
  ExprPart : CoreExpr → Part
  -- a call, wherever it stands
  CallPart : CoreCall → Part
  -- a place: its root and its steps
  PlacePart : Name → CoreSteps → Part
  StmtPart : CoreStmt → Part
  -- a test of an `if`
  TestPart : CoreExpr → Part

-- what is around a part
pub record Scope : Type 0 where
  pub visible : List Local
  -- the result of the body
  pub result : Option CoreTy

-- a part where it stands
pub record Site : Type 0 where
  pub scope : Scope
  pub part : Part

-- the part in this scope
abbrev pub site : Scope → Part → Site
site scope part = record { scope = scope; part = part }

-- ---- scopes

-- a local is visible from the end of its declaration to the end of its block
abbrev pub scope_behind : CoreStmt → Scope → Scope
scope_behind x s = record { visible = listed (binds x) ++ s.visible; result = s.result }

-- a capture has the type of the local that it stands for
abbrev pub capture_local : List Local → Name → Local
capture_local around name = record { name = name; kind = Captured; ty = value_of (local_in around name.text) }

-- the body of a lambda, in which its captures and parameters are visible and nothing else that is local
abbrev pub lambda_body : Scope → List Name → List CoreParam → Option CoreTy → CoreBlock → CoreBody
lambda_body s captures params result block = record { captures = map (capture_local s.visible) captures; params = params; result = result; block = block }

-- what a body sees at its beginning
abbrev pub body_scope : CoreBody → Scope
body_scope body = record { visible = entry_locals body; result = body.result }

-- ---- all sites, in the order of the tree

abbrev mutual
  pub expr_sites : CoreExpr → Scope → List Site
  expr_sites (Number at z) s = site s (ExprPart (Number at z)) ∷ []
  expr_sites (Truth at b) s = site s (ExprPart (Truth at b)) ∷ []
  expr_sites (Path at root steps) s = site s (ExprPart (Path at root steps)) ∷ (site s (PlacePart root steps) ∷ step_sites steps s)
  expr_sites (Calls at call) s = site s (ExprPart (Calls at call)) ∷ call_sites call s
  expr_sites (Awaits at name) s = site s (ExprPart (Awaits at name)) ∷ []
  expr_sites (Array at xs) s = site s (ExprPart (Array at xs)) ∷ exprs_sites xs s
  expr_sites (Filled at len value) s = site s (ExprPart (Filled at len value)) ∷ (expr_sites len s ++ expr_sites value s)
  expr_sites (Count at root steps) s = site s (ExprPart (Count at root steps)) ∷ (site s (PlacePart root steps) ∷ step_sites steps s)
  expr_sites (Lambda at captures params result body) s =
      site s (ExprPart (Lambda at captures params result body)) ∷ block_sites body (body_scope (lambda_body s captures params result body))
  expr_sites (Prefix at o x) s = site s (ExprPart (Prefix at o x)) ∷ expr_sites x s
  expr_sites (Chain at first links) s = site s (ExprPart (Chain at first links)) ∷ (expr_sites first s ++ link_sites links s)

  -- those of a list of expressions
  pub exprs_sites : CoreExprs → Scope → List Site
  exprs_sites NoExprs s = []
  exprs_sites (ExprOf x rest) s = expr_sites x s ++ exprs_sites rest s

  -- those of the operands of a chain
  pub link_sites : CoreLinks → Scope → List Site
  link_sites NoLinks s = []
  link_sites (LinkOf o at x rest) s = expr_sites x s ++ link_sites rest s

  -- those of the indices of a place
  pub step_sites : CoreSteps → Scope → List Site
  step_sites NoSteps s = []
  step_sites (FieldStep name rest) s = step_sites rest s
  step_sites (IndexStep at x rest) s = expr_sites x s ++ step_sites rest s

  -- a call: itself, its callee as a place, and its arguments
  pub call_sites : CoreCall → Scope → List Site
  call_sites (CallOf root steps at args) s = site s (CallPart (CallOf root steps at args)) ∷ (site s (PlacePart root steps) ∷ (step_sites steps s ++ arg_sites args s))

  -- those of arguments; one with `&` is a place
  pub arg_sites : CoreArgs → Scope → List Site
  arg_sites NoArgs s = []
  arg_sites (ValueArg x rest) s = expr_sites x s ++ arg_sites rest s
  arg_sites (RefArg at root steps rest) s = site s (PlacePart root steps) ∷ (step_sites steps s ++ arg_sites rest s)

  -- those of a block
  pub block_sites : CoreBlock → Scope → List Site
  block_sites (BlockOf stmts end) s = stmts_sites stmts s

  -- each statement sees what those before it declare
  pub stmts_sites : CoreStmts → Scope → List Site
  stmts_sites NoStmts s = []
  stmts_sites (StmtOf x rest) s = stmt_sites x s ++ stmts_sites rest (scope_behind x s)

  -- those of the tests and blocks of an `if`
  pub branch_sites : CoreBranches → Scope → List Site
  branch_sites NoElse s = []
  branch_sites (Else block) s = block_sites block s
  branch_sites (BranchOf test body rest) s = site s (TestPart test) ∷ (expr_sites test s ++ (block_sites body s ++ branch_sites rest s))

  -- those of a statement
  pub stmt_sites : CoreStmt → Scope → List Site
  stmt_sites (Var at name t) s = site s (StmtPart (Var at name t)) ∷ []
  stmt_sites (VarWith at name t x) s = site s (StmtPart (VarWith at name t x)) ∷ expr_sites x s
  stmt_sites (Let at name t x) s = site s (StmtPart (Let at name t x)) ∷ expr_sites x s
  stmt_sites (Inout at name t root steps) s = site s (StmtPart (Inout at name t root steps)) ∷ (site s (PlacePart root steps) ∷ step_sites steps s)
  stmt_sites (Assign at root steps x) s = site s (StmtPart (Assign at root steps x)) ∷ (site s (PlacePart root steps) ∷ (step_sites steps s ++ expr_sites x s))
  stmt_sites (If at branches) s = site s (StmtPart (If at branches)) ∷ branch_sites branches s
  stmt_sites (While at test body) s = site s (StmtPart (While at test body)) ∷ (site s (TestPart test) ∷ (expr_sites test s ++ block_sites body s))
  stmt_sites (Return at) s = site s (StmtPart (Return at)) ∷ []
  stmt_sites (ReturnWith at x) s = site s (StmtPart (ReturnWith at x)) ∷ expr_sites x s
  stmt_sites (Print at x) s = site s (StmtPart (Print at x)) ∷ expr_sites x s
  stmt_sites (Task at name t spawn budget call) s = site s (StmtPart (Task at name t spawn budget call)) ∷ (expr_sites budget s ++ call_sites call s)
  stmt_sites (AwaitsAlone at name) s = site s (StmtPart (AwaitsAlone at name)) ∷ []
  stmt_sites (CallsAlone at call) s = site s (StmtPart (CallsAlone at call)) ∷ call_sites call s
  stmt_sites (Bare at block) s = site s (StmtPart (Bare at block)) ∷ block_sites block s

-- ---- bodies

-- the sites of a body and of the lambdas in it
abbrev pub sites_of_body : CoreBody → List Site
sites_of_body body = block_sites body.block (body_scope body)

-- the sites of declarations
abbrev pub decl_sites : List CoreDecl → List Site
decl_sites [] = []
decl_sites (StructOf c ∷ rest) = decl_sites rest
decl_sites (FunOf f ∷ rest) = sites_of_body (fun_body f) ++ decl_sites rest

-- all sites of a program
abbrev pub sites_of : Core → List Site
sites_of tree = decl_sites tree.decls

-- the body of an expression that is a lambda
abbrev pub body_by_expr : Scope → CoreExpr → List CoreBody
body_by_expr s (Number at z) = []
body_by_expr s (Truth at b) = []
body_by_expr s (Path at root steps) = []
body_by_expr s (Calls at call) = []
body_by_expr s (Awaits at name) = []
body_by_expr s (Array at xs) = []
body_by_expr s (Filled at len value) = []
body_by_expr s (Count at root steps) = []
body_by_expr s (Lambda at captures params result body) = lambda_body s captures params result body ∷ []
body_by_expr s (Prefix at o x) = []
body_by_expr s (Chain at first links) = []

-- the body of a part that is a lambda
abbrev pub body_by : Scope → Part → List CoreBody
body_by s (ExprPart x) = body_by_expr s x
body_by s (CallPart call) = []
body_by s (PlacePart root steps) = []
body_by s (StmtPart x) = []
body_by s (TestPart x) = []

-- the bodies of the lambdas at these sites
abbrev pub lambdas_at : List Site → List CoreBody
lambdas_at [] = []
lambdas_at (w ∷ rest) = body_by w.scope w.part ++ lambdas_at rest

-- the bodies of declarations
abbrev pub decl_bodies : List CoreDecl → List CoreBody
decl_bodies [] = []
decl_bodies (StructOf c ∷ rest) = decl_bodies rest
decl_bodies (FunOf f ∷ rest) = fun_body f ∷ (lambdas_at (sites_of_body (fun_body f)) ++ decl_bodies rest)

-- all bodies in the order of their opening braces; a body's number is its place in this list
abbrev pub bodies_of : Core → List CoreBody
bodies_of tree = decl_bodies tree.decls
