-- The places of each part of a program are places of the program.
use Rattle.std.proofs.Common.{ℕ, zero, suc, List, [], ◌∷◌, ◌++◌, map, Option, Some, None, IfSome}
use Rattle.std.specs.List.{slice_get}
use Rattle.hv_tree.specs.declared.place.Place.{Place}
use Rattle.hv_tree.specs.declared.types.Name.{Name}
use Rattle.hv_tree.specs.Core.{Core, CoreDecl, StructOf, FunOf, CoreFun, CoreParam, CoreTy, CoreExpr, Number, Truth, Path, Calls, Awaits, Array, Filled, Count, Lambda, Prefix, Chain, CoreExprs, NoExprs, ExprOf, CoreLinks, NoLinks, LinkOf, CoreSteps, NoSteps, FieldStep, IndexStep, CoreCall, CallOf, CoreArgs, NoArgs, ValueArg, RefArg, CoreBlock, BlockOf, CoreStmts, NoStmts, StmtOf, CoreBranches, NoElse, Else, BranchOf, CoreStmt, Var, VarWith, Let, Inout, Assign, If, While, Return, ReturnWith, Print, Task, AwaitsAlone, CallsAlone, Bare}
use Rattle.hv_decls.specs.Locals.{Local, CoreBody, fun_body, locals_of, in_block, in_stmts, in_branches, declared_in, param_local}
use Rattle.hv_decls.specs.Sites.{Part, ExprPart, CallPart, PlacePart, StmtPart, TestPart, Scope, Site, scope_behind, capture_local, lambda_body, body_scope, expr_sites, exprs_sites, link_sites, step_sites, call_sites, arg_sites, block_sites, stmts_sites, branch_sites, stmt_sites, sites_of_body, decl_sites, sites_of, body_by_expr, body_by, lambdas_at, decl_bodies, bodies_of}
use Rattle.hv_law_places.specs.Places.{in_ty, in_result, in_names, in_params, in_expr, in_exprs, in_links, in_steps, in_call, in_args, in_stmts as in_statements, in_block as in_body, in_branches as in_tests, in_stmt, in_decl, in_decls, places_of}
use Rattle.hv_lemmas.proofs.Each.{Each, each_split, each_join}

module _ (P : Place → Type 0) where
  abbrev pub PartTells : Part → Type 0
  PartTells (ExprPart x) = Each P (in_expr x)
  PartTells (CallPart call) = Each P (in_call call)
  PartTells (PlacePart root steps) = P root.place × Each P (in_steps steps)
  PartTells (StmtPart x) = Each P (in_stmt x)
  PartTells (TestPart x) = Each P (in_expr x)

  abbrev pub SiteTells : Site → Type 0
  SiteTells w = PartTells w.part

  abbrev pub LocalTells : Local → Type 0
  LocalTells l = P l.name.place

  -- a body's locals and its block
  abbrev pub BodyTells : CoreBody → Type 0
  BodyTells body = Each LocalTells (locals_of body) × Each P (in_body body.block)

  -- ---- sites

  mutual
    expr_tells : (x : CoreExpr) (s : Scope) → Each P (in_expr x) → Each SiteTells (expr_sites x s)
    expr_tells (Number at z) s h = (h, tt)
    expr_tells (Truth at b) s h = (h, tt)
    expr_tells (Path at root steps) s h = (h, (h.1, steps_tell steps s h.1.1))
    expr_tells (Calls at call) s h = (h, call_tells call s h.1)
    expr_tells (Awaits at name) s h = (h, tt)
    expr_tells (Array at xs) s h = (h, exprs_tell xs s h.1)
    expr_tells (Filled at len value) s h =
        let q = each_split P (in_expr len) (in_expr value) h.1 in (h, each_join SiteTells (expr_sites len s) (expr_sites value s) (expr_tells len s q.0) (expr_tells value s q.1))
    expr_tells (Count at root steps) s h = (h, (h.1, steps_tell steps s h.1.1))
    expr_tells (Lambda at captures params result body) s h =
        let q = each_split P (in_names captures) (in_params params ++ (in_result result ++ in_body body)) h.1 in
        let r = each_split P (in_params params) (in_result result ++ in_body body) q.1 in
        let t = each_split P (in_result result) (in_body body) r.1 in
        (h, block_tells body (body_scope (lambda_body s captures params result body)) t.1)
    expr_tells (Prefix at o x) s h = (h, expr_tells x s h.1)
    expr_tells (Chain at first links) s h =
        let q = each_split P (in_expr first) (in_links links) h.1 in (h, each_join SiteTells (expr_sites first s) (link_sites links s) (expr_tells first s q.0) (links_tell links s q.1))

    exprs_tell : (xs : CoreExprs) (s : Scope) → Each P (in_exprs xs) → Each SiteTells (exprs_sites xs s)
    exprs_tell NoExprs s h = tt
    exprs_tell (ExprOf x rest) s h =
        let q = each_split P (in_expr x) (in_exprs rest) h in each_join SiteTells (expr_sites x s) (exprs_sites rest s) (expr_tells x s q.0) (exprs_tell rest s q.1)

    links_tell : (links : CoreLinks) (s : Scope) → Each P (in_links links) → Each SiteTells (link_sites links s)
    links_tell NoLinks s h = tt
    links_tell (LinkOf o at x rest) s h =
        let q = each_split P (in_expr x) (in_links rest) h.1 in each_join SiteTells (expr_sites x s) (link_sites rest s) (expr_tells x s q.0) (links_tell rest s q.1)

    steps_tell : (steps : CoreSteps) (s : Scope) → Each P (in_steps steps) → Each SiteTells (step_sites steps s)
    steps_tell NoSteps s h = tt
    steps_tell (FieldStep name rest) s h = steps_tell rest s h.1
    steps_tell (IndexStep at x rest) s h =
        let q = each_split P (in_expr x) (in_steps rest) h.1 in each_join SiteTells (expr_sites x s) (step_sites rest s) (expr_tells x s q.0) (steps_tell rest s q.1)

    call_tells : (c : CoreCall) (s : Scope) → Each P (in_call c) → Each SiteTells (call_sites c s)
    call_tells (CallOf root steps at args) s h =
        let q = each_split P (in_steps steps) (at ∷ in_args args) h.1 in
        (h, ((h.0, q.0), each_join SiteTells (step_sites steps s) (arg_sites args s) (steps_tell steps s q.0) (args_tell args s q.1.1)))

    args_tell : (args : CoreArgs) (s : Scope) → Each P (in_args args) → Each SiteTells (arg_sites args s)
    args_tell NoArgs s h = tt
    args_tell (ValueArg x rest) s h =
        let q = each_split P (in_expr x) (in_args rest) h in each_join SiteTells (expr_sites x s) (arg_sites rest s) (expr_tells x s q.0) (args_tell rest s q.1)
    args_tell (RefArg at root steps rest) s h =
        let q = each_split P (in_steps steps) (in_args rest) h.1.1 in
        ((h.1.0, q.0), each_join SiteTells (step_sites steps s) (arg_sites rest s) (steps_tell steps s q.0) (args_tell rest s q.1))

    block_tells : (b : CoreBlock) (s : Scope) → Each P (in_body b) → Each SiteTells (block_sites b s)
    block_tells (BlockOf stmts end) s h = stmts_tell stmts s (each_split P (in_statements stmts) (end ∷ []) h).0

    stmts_tell : (stmts : CoreStmts) (s : Scope) → Each P (in_statements stmts) → Each SiteTells (stmts_sites stmts s)
    stmts_tell NoStmts s h = tt
    stmts_tell (StmtOf x rest) s h =
        let q = each_split P (in_stmt x) (in_statements rest) h in
        each_join SiteTells (stmt_sites x s) (stmts_sites rest (scope_behind x s)) (stmt_tells x s q.0) (stmts_tell rest (scope_behind x s) q.1)

    branches_tell : (branches : CoreBranches) (s : Scope) → Each P (in_tests branches) → Each SiteTells (branch_sites branches s)
    branches_tell NoElse s h = tt
    branches_tell (Else block) s h = block_tells block s h
    branches_tell (BranchOf test body rest) s h =
        let q = each_split P (in_expr test) (in_body body ++ in_tests rest) h in
        let r = each_split P (in_body body) (in_tests rest) q.1 in
        (q.0, each_join SiteTells (expr_sites test s) (block_sites body s ++ branch_sites rest s) (expr_tells test s q.0) (each_join SiteTells (block_sites body s) (branch_sites rest s) (block_tells body s r.0) (branches_tell rest s r.1)))

    stmt_tells : (x : CoreStmt) (s : Scope) → Each P (in_stmt x) → Each SiteTells (stmt_sites x s)
    stmt_tells (Var at name t) s h = (h, tt)
    stmt_tells (VarWith at name t x) s h = (h, expr_tells x s (each_split P (in_ty t) (in_expr x) h.1.1).1)
    stmt_tells (Let at name t x) s h = (h, expr_tells x s (each_split P (in_ty t) (in_expr x) h.1.1).1)
    stmt_tells (Inout at name t root steps) s h =
        let q = each_split P (in_ty t) (root.place ∷ in_steps steps) h.1.1 in (h, (q.1, steps_tell steps s q.1.1))
    stmt_tells (Assign at root steps x) s h =
        let q = each_split P (in_steps steps) (in_expr x) h.1.1 in
        (h, ((h.1.0, q.0), each_join SiteTells (step_sites steps s) (expr_sites x s) (steps_tell steps s q.0) (expr_tells x s q.1)))
    stmt_tells (If at branches) s h = (h, branches_tell branches s h.1)
    stmt_tells (While at test body) s h =
        let q = each_split P (in_expr test) (in_body body) h.1 in
        (h, (q.0, each_join SiteTells (expr_sites test s) (block_sites body s) (expr_tells test s q.0) (block_tells body s q.1)))
    stmt_tells (Return at) s h = (h, tt)
    stmt_tells (ReturnWith at x) s h = (h, expr_tells x s h.1)
    stmt_tells (Print at x) s h = (h, expr_tells x s h.1)
    stmt_tells (Task at name t spawn budget call) s h =
        let q = each_split P (in_result t) (spawn ∷ (in_expr budget ++ in_call call)) h.1.1 in
        let r = each_split P (in_expr budget) (in_call call) q.1.1 in
        (h, each_join SiteTells (expr_sites budget s) (call_sites call s) (expr_tells budget s r.0) (call_tells call s r.1))
    stmt_tells (AwaitsAlone at name) s h = (h, tt)
    stmt_tells (CallsAlone at call) s h = (h, call_tells call s h.1)
    stmt_tells (Bare at block) s h = (h, block_tells block s h.1)

  -- ---- locals

  mutual
    stmt_declares : (x : CoreStmt) → Each P (in_stmt x) → Each LocalTells (declared_in x)
    stmt_declares (Var at name t) h = (h.1.0, tt)
    stmt_declares (VarWith at name t x) h = (h.1.0, tt)
    stmt_declares (Let at name t x) h = (h.1.0, tt)
    stmt_declares (Inout at name t root steps) h = (h.1.0, tt)
    stmt_declares (Assign at root steps x) h = tt
    stmt_declares (If at branches) h = branches_declare branches h.1
    stmt_declares (While at test body) h = block_declares body (each_split P (in_expr test) (in_body body) h.1).1
    stmt_declares (Return at) h = tt
    stmt_declares (ReturnWith at x) h = tt
    stmt_declares (Print at x) h = tt
    stmt_declares (Task at name t spawn budget call) h = (h.1.0, tt)
    stmt_declares (AwaitsAlone at name) h = tt
    stmt_declares (CallsAlone at call) h = tt
    stmt_declares (Bare at block) h = block_declares block h.1

    branches_declare : (branches : CoreBranches) → Each P (in_tests branches) → Each LocalTells (in_branches branches)
    branches_declare NoElse h = tt
    branches_declare (Else block) h = block_declares block h
    branches_declare (BranchOf test body rest) h =
        let q = each_split P (in_expr test) (in_body body ++ in_tests rest) h in
        let r = each_split P (in_body body) (in_tests rest) q.1 in
        each_join LocalTells (in_block body) (in_branches rest) (block_declares body r.0) (branches_declare rest r.1)

    block_declares : (b : CoreBlock) → Each P (in_body b) → Each LocalTells (in_block b)
    block_declares (BlockOf stmts end) h = stmts_declare stmts (each_split P (in_statements stmts) (end ∷ []) h).0

    stmts_declare : (stmts : CoreStmts) → Each P (in_statements stmts) → Each LocalTells (in_stmts stmts)
    stmts_declare NoStmts h = tt
    stmts_declare (StmtOf x rest) h =
        let q = each_split P (in_stmt x) (in_statements rest) h in each_join LocalTells (declared_in x) (in_stmts rest) (stmt_declares x q.0) (stmts_declare rest q.1)

  params_declare : (params : List CoreParam) → Each P (in_params params) → Each LocalTells (map param_local params)
  params_declare [] h = tt
  params_declare (p ∷ params) h = (h.0, params_declare params (each_split P (in_ty p.ty) (in_params params) h.1).1)

  captures_declare : (around : List Local) (captures : List Name) → Each P (in_names captures) → Each LocalTells (map (capture_local around) captures)
  captures_declare around [] h = tt
  captures_declare around (name ∷ captures) h = (h.0, captures_declare around captures h.1)

  -- ---- bodies

  body_tells : (captures : List Local) (params : List CoreParam) (result : Option CoreTy) (block : CoreBlock) → Each LocalTells captures → Each P (in_params params) → Each P (in_body block) →
      BodyTells (record { captures = captures; params = params; result = result; block = block })
  body_tells captures params result block h k b =
      (each_join LocalTells (captures ++ map param_local params) (in_block block) (each_join LocalTells captures (map param_local params) h (params_declare params k)) (block_declares block b), b)

  lambda_tells : (x : CoreExpr) (s : Scope) → Each P (in_expr x) → Each BodyTells (body_by_expr s x)
  lambda_tells (Lambda at captures params result body) s h =
      let q = each_split P (in_names captures) (in_params params ++ (in_result result ++ in_body body)) h.1 in
      let r = each_split P (in_params params) (in_result result ++ in_body body) q.1 in
      let t = each_split P (in_result result) (in_body body) r.1 in
      (body_tells (map (capture_local s.visible) captures) params result body (captures_declare s.visible captures q.0) r.0 t.1, tt)
  lambda_tells (Number at z) s h = tt
  lambda_tells (Truth at b) s h = tt
  lambda_tells (Path at root steps) s h = tt
  lambda_tells (Calls at call) s h = tt
  lambda_tells (Awaits at name) s h = tt
  lambda_tells (Array at xs) s h = tt
  lambda_tells (Filled at len value) s h = tt
  lambda_tells (Count at root steps) s h = tt
  lambda_tells (Prefix at o x) s h = tt
  lambda_tells (Chain at first links) s h = tt

  part_tells : (p : Part) (s : Scope) → PartTells p → Each BodyTells (body_by s p)
  part_tells (ExprPart x) s h = lambda_tells x s h
  part_tells (CallPart call) s h = tt
  part_tells (PlacePart root steps) s h = tt
  part_tells (StmtPart x) s h = tt
  part_tells (TestPart x) s h = tt

  lambdas_tell : (sites : List Site) → Each SiteTells sites → Each BodyTells (lambdas_at sites)
  lambdas_tell [] h = tt
  lambdas_tell (w ∷ rest) h = each_join BodyTells (body_by w.scope w.part) (lambdas_at rest) (part_tells w.part w.scope h.0) (lambdas_tell rest h.1)

  -- ---- programs

  fun_tells : (f : CoreFun) → Each P (in_decl (FunOf f)) → BodyTells (fun_body f)
  fun_tells f h =
      let q = each_split P (in_params f.params) (in_result f.result ++ in_body f.body) h.1 in
      let r = each_split P (in_result f.result) (in_body f.body) q.1 in
      body_tells [] f.params f.result f.body tt q.0 r.1

  pub decl_bodies_tell : (decls : List CoreDecl) → Each P (in_decls decls) → Each BodyTells (decl_bodies decls)
  decl_bodies_tell [] h = tt
  decl_bodies_tell (StructOf s ∷ rest) h = decl_bodies_tell rest (each_split P (in_decl (StructOf s)) (in_decls rest) h).1
  decl_bodies_tell (FunOf f ∷ rest) h =
      let q = each_split P (in_decl (FunOf f)) (in_decls rest) h in
      let b = fun_tells f q.0 in
      let w = block_tells f.body (body_scope (fun_body f)) b.1 in
      (b, each_join BodyTells (lambdas_at (sites_of_body (fun_body f))) (decl_bodies rest) (lambdas_tell (sites_of_body (fun_body f)) w) (decl_bodies_tell rest q.1))

  decl_sites_tell : (decls : List CoreDecl) → Each P (in_decls decls) → Each SiteTells (decl_sites decls)
  decl_sites_tell [] h = tt
  decl_sites_tell (StructOf s ∷ rest) h = decl_sites_tell rest (each_split P (in_decl (StructOf s)) (in_decls rest) h).1
  decl_sites_tell (FunOf f ∷ rest) h =
      let q = each_split P (in_decl (FunOf f)) (in_decls rest) h in
      each_join SiteTells (sites_of_body (fun_body f)) (decl_sites rest) (block_tells f.body (body_scope (fun_body f)) (fun_tells f q.0).1) (decl_sites_tell rest q.1)

  pub bodies_tell : (tree : Core) → Each P (places_of tree) → Each BodyTells (bodies_of tree)
  bodies_tell tree h = decl_bodies_tell tree.decls h

  pub sites_tell : (tree : Core) → Each P (places_of tree) → Each SiteTells (sites_of tree)
  sites_tell tree h = decl_sites_tell tree.decls h
