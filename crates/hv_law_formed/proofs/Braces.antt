-- What the grammar says of a plain tree, part by part, and the ends of the bodies in it.
use Rattle.std.proofs.Common.{◌≡◌, ◌⊎◌, inl, inr, ℕ, List, [], ◌∷◌, ◌++◌, map, append_assoc, refl, sym, ap, ◌∙◌, subst}
use Rattle.hv_tree.specs.declared.ast.Operator.TheVariants as operator
use Rattle.hv_tree.specs.Tokens.{Level}
use Rattle.hv_tree.specs.Core.{CoreDecl, StructOf, FunOf, CoreExpr, Number, Truth, Path, Calls, Awaits, Array, Filled, Count, Lambda, Prefix, Chain, CoreExprs, NoExprs, ExprOf, CoreLinks, NoLinks, LinkOf, CoreSteps, NoSteps, FieldStep, IndexStep, CoreCall, CallOf, CoreArgs, NoArgs, ValueArg, RefArg, CoreBlock, BlockOf, CoreStmts, NoStmts, StmtOf, CoreBranches, NoElse, Else, BranchOf, CoreStmt, Var, VarWith, Let, Inout, Assign, If, While, Return, ReturnWith, Print, Task, AwaitsAlone, CallsAlone, Bare, end_of}
use Rattle.hv_decls.specs.Locals.{CoreBody, fun_body}
use Rattle.hv_decls.specs.Sites.{Scope, scope_behind, lambda_body, body_scope, Site, expr_sites, exprs_sites, link_sites, step_sites, call_sites, arg_sites, block_sites, stmts_sites, branch_sites, stmt_sites, sites_of_body, decl_sites, body_by, lambdas_at, decl_bodies}
use Rattle.hv_lemmas.proofs.Members.{Among}
use Rattle.hv_law_formed.specs.Formed.{AreOfLevel, HasElement, PartIsFormed}

-- ---- what the grammar says, everywhere in a part

abbrev mutual
  pub form_expr : CoreExpr → Type 0
  form_expr (Number at z) = Unit {0}
  form_expr (Truth at b) = Unit {0}
  form_expr (Path at root steps) = form_steps steps
  form_expr (Calls at c) = form_call c
  form_expr (Awaits at name) = Unit {0}
  form_expr (Array at xs) = HasElement xs × form_exprs xs
  form_expr (Filled at len x) = form_expr len × form_expr x
  form_expr (Count at root steps) = form_steps steps
  form_expr (Lambda at captures params result body) = form_block body
  form_expr (Prefix at o x) = ((o ≡ operator.Neg) ⊎ (o ≡ operator.Not)) × form_expr x
  form_expr (Chain at first links) = form_expr first × ((level : Level) × AreOfLevel level links) × form_links links

  pub form_exprs : CoreExprs → Type 0
  form_exprs NoExprs = Unit {0}
  form_exprs (ExprOf x rest) = form_expr x × form_exprs rest

  pub form_links : CoreLinks → Type 0
  form_links NoLinks = Unit {0}
  form_links (LinkOf o at x rest) = form_expr x × form_links rest

  pub form_steps : CoreSteps → Type 0
  form_steps NoSteps = Unit {0}
  form_steps (FieldStep name rest) = form_steps rest
  form_steps (IndexStep at x rest) = form_expr x × form_steps rest

  pub form_call : CoreCall → Type 0
  form_call (CallOf root steps at args) = form_steps steps × form_args args

  pub form_args : CoreArgs → Type 0
  form_args NoArgs = Unit {0}
  form_args (ValueArg x rest) = form_expr x × form_args rest
  form_args (RefArg at root steps rest) = form_steps steps × form_args rest

  pub form_block : CoreBlock → Type 0
  form_block (BlockOf stmts end) = form_stmts stmts

  pub form_stmts : CoreStmts → Type 0
  form_stmts NoStmts = Unit {0}
  form_stmts (StmtOf x rest) = form_stmt x × form_stmts rest

  pub form_branches : CoreBranches → Type 0
  form_branches NoElse = Unit {0}
  form_branches (Else body) = form_block body
  form_branches (BranchOf test body rest) = form_expr test × form_block body × form_branches rest

  pub form_stmt : CoreStmt → Type 0
  form_stmt (Var at name t) = Unit {0}
  form_stmt (VarWith at name t x) = form_expr x
  form_stmt (Let at name t x) = form_expr x
  form_stmt (Inout at name t root steps) = form_steps steps
  form_stmt (Assign at root steps x) = form_steps steps × form_expr x
  form_stmt (If at branches) = form_branches branches
  form_stmt (While at test body) = form_expr test × form_block body
  form_stmt (Return at) = Unit {0}
  form_stmt (ReturnWith at x) = form_expr x
  form_stmt (Print at x) = form_expr x
  form_stmt (Task at name t spawn budget c) = form_expr budget × form_call c
  form_stmt (AwaitsAlone at name) = Unit {0}
  form_stmt (CallsAlone at c) = form_call c
  form_stmt (Bare at body) = form_block body

abbrev pub form_decls : List CoreDecl → Type 0
form_decls [] = Unit {0}
form_decls (StructOf s ∷ rest) = form_decls rest
form_decls (FunOf f ∷ rest) = form_block f.body × form_decls rest

-- ---- the same at each site

abbrev pub AllFormed : List Site → Type 0
AllFormed [] = Unit {0}
AllFormed (w ∷ ws) = PartIsFormed w.part × AllFormed ws

both : (vs ws : List Site) → AllFormed vs → AllFormed ws → AllFormed (vs ++ ws)
both [] ws h k = k
both (v ∷ vs) ws h k = (h.0, both vs ws h.1 k)

pub formed_among : (ws : List Site) → AllFormed ws → (w : Site) → Among ws w → PartIsFormed w.part
formed_among [] h w i = absurd i
formed_among (v ∷ ws) h w (inl e) = subst (λ (u : Site). PartIsFormed u.part) e h.0
formed_among (v ∷ ws) h w (inr i) = formed_among ws h.1 w i

mutual
  at_expr : (x : CoreExpr) (s : Scope) → form_expr x → AllFormed (expr_sites x s)
  at_expr (Number at z) s h = (tt, tt)
  at_expr (Truth at b) s h = (tt, tt)
  at_expr (Path at root steps) s h = (tt, (tt, at_steps steps s h))
  at_expr (Calls at c) s h = (tt, at_call c s h)
  at_expr (Awaits at name) s h = (tt, tt)
  at_expr (Array at xs) s h = (h.0, at_exprs xs s h.1)
  at_expr (Filled at len x) s h = (tt, both (expr_sites len s) (expr_sites x s) (at_expr len s h.0) (at_expr x s h.1))
  at_expr (Count at root steps) s h = (tt, (tt, at_steps steps s h))
  at_expr (Lambda at captures params result body) s h = (tt, at_block body (body_scope (lambda_body s captures params result body)) h)
  at_expr (Prefix at o x) s h = (h.0, at_expr x s h.1)
  at_expr (Chain at first links) s h = (h.1, both (expr_sites first s) (link_sites links s) (at_expr first s h.0) (at_links links s h.2))

  at_exprs : (xs : CoreExprs) (s : Scope) → form_exprs xs → AllFormed (exprs_sites xs s)
  at_exprs NoExprs s h = tt
  at_exprs (ExprOf x rest) s h = both (expr_sites x s) (exprs_sites rest s) (at_expr x s h.0) (at_exprs rest s h.1)

  at_links : (links : CoreLinks) (s : Scope) → form_links links → AllFormed (link_sites links s)
  at_links NoLinks s h = tt
  at_links (LinkOf o at x rest) s h = both (expr_sites x s) (link_sites rest s) (at_expr x s h.0) (at_links rest s h.1)

  at_steps : (steps : CoreSteps) (s : Scope) → form_steps steps → AllFormed (step_sites steps s)
  at_steps NoSteps s h = tt
  at_steps (FieldStep name rest) s h = at_steps rest s h
  at_steps (IndexStep at x rest) s h = both (expr_sites x s) (step_sites rest s) (at_expr x s h.0) (at_steps rest s h.1)

  at_call : (c : CoreCall) (s : Scope) → form_call c → AllFormed (call_sites c s)
  at_call (CallOf root steps at args) s h = (tt, (tt, both (step_sites steps s) (arg_sites args s) (at_steps steps s h.0) (at_args args s h.1)))

  at_args : (args : CoreArgs) (s : Scope) → form_args args → AllFormed (arg_sites args s)
  at_args NoArgs s h = tt
  at_args (ValueArg x rest) s h = both (expr_sites x s) (arg_sites rest s) (at_expr x s h.0) (at_args rest s h.1)
  at_args (RefArg at root steps rest) s h = (tt, both (step_sites steps s) (arg_sites rest s) (at_steps steps s h.0) (at_args rest s h.1))

  at_block : (b : CoreBlock) (s : Scope) → form_block b → AllFormed (block_sites b s)
  at_block (BlockOf stmts end) s h = at_stmts stmts s h

  at_stmts : (xs : CoreStmts) (s : Scope) → form_stmts xs → AllFormed (stmts_sites xs s)
  at_stmts NoStmts s h = tt
  at_stmts (StmtOf x rest) s h = both (stmt_sites x s) (stmts_sites rest (scope_behind x s)) (at_stmt x s h.0) (at_stmts rest (scope_behind x s) h.1)

  at_branches : (bs : CoreBranches) (s : Scope) → form_branches bs → AllFormed (branch_sites bs s)
  at_branches NoElse s h = tt
  at_branches (Else body) s h = at_block body s h
  at_branches (BranchOf test body rest) s h = (tt, both (expr_sites test s) (block_sites body s ++ branch_sites rest s) (at_expr test s h.0) (both (block_sites body s) (branch_sites rest s) (at_block body s h.1) (at_branches rest s h.2)))

  at_stmt : (x : CoreStmt) (s : Scope) → form_stmt x → AllFormed (stmt_sites x s)
  at_stmt (Var at name t) s h = (tt, tt)
  at_stmt (VarWith at name t x) s h = (tt, at_expr x s h)
  at_stmt (Let at name t x) s h = (tt, at_expr x s h)
  at_stmt (Inout at name t root steps) s h = (tt, (tt, at_steps steps s h))
  at_stmt (Assign at root steps x) s h = (tt, (tt, both (step_sites steps s) (expr_sites x s) (at_steps steps s h.0) (at_expr x s h.1)))
  at_stmt (If at branches) s h = (tt, at_branches branches s h)
  at_stmt (While at test body) s h = (tt, (tt, both (expr_sites test s) (block_sites body s) (at_expr test s h.0) (at_block body s h.1)))
  at_stmt (Return at) s h = (tt, tt)
  at_stmt (ReturnWith at x) s h = (tt, at_expr x s h)
  at_stmt (Print at x) s h = (tt, at_expr x s h)
  at_stmt (Task at name t spawn budget c) s h = (tt, both (expr_sites budget s) (call_sites c s) (at_expr budget s h.0) (at_call c s h.1))
  at_stmt (AwaitsAlone at name) s h = (tt, tt)
  at_stmt (CallsAlone at c) s h = (tt, at_call c s h)
  at_stmt (Bare at body) s h = (tt, at_block body s h)

pub at_decls : (decls : List CoreDecl) → form_decls decls → AllFormed (decl_sites decls)
at_decls [] h = tt
at_decls (StructOf s ∷ rest) h = at_decls rest h
at_decls (FunOf f ∷ rest) h = both (sites_of_body (fun_body f)) (decl_sites rest) (at_block f.body (body_scope (fun_body f)) h.0) (at_decls rest h.1)

-- ---- the ends of the bodies of lambdas

abbrev pub end_at : CoreBlock → ℕ
end_at b = (end_of b).start

abbrev mutual
  pub ends_expr : CoreExpr → List ℕ
  ends_expr (Number at z) = []
  ends_expr (Truth at b) = []
  ends_expr (Path at root steps) = ends_steps steps
  ends_expr (Calls at c) = ends_call c
  ends_expr (Awaits at name) = []
  ends_expr (Array at xs) = ends_exprs xs
  ends_expr (Filled at len x) = ends_expr len ++ ends_expr x
  ends_expr (Count at root steps) = ends_steps steps
  ends_expr (Lambda at captures params result body) = end_at body ∷ ends_block body
  ends_expr (Prefix at o x) = ends_expr x
  ends_expr (Chain at first links) = ends_expr first ++ ends_links links

  pub ends_exprs : CoreExprs → List ℕ
  ends_exprs NoExprs = []
  ends_exprs (ExprOf x rest) = ends_expr x ++ ends_exprs rest

  pub ends_links : CoreLinks → List ℕ
  ends_links NoLinks = []
  ends_links (LinkOf o at x rest) = ends_expr x ++ ends_links rest

  pub ends_steps : CoreSteps → List ℕ
  ends_steps NoSteps = []
  ends_steps (FieldStep name rest) = ends_steps rest
  ends_steps (IndexStep at x rest) = ends_expr x ++ ends_steps rest

  pub ends_call : CoreCall → List ℕ
  ends_call (CallOf root steps at args) = ends_steps steps ++ ends_args args

  pub ends_args : CoreArgs → List ℕ
  ends_args NoArgs = []
  ends_args (ValueArg x rest) = ends_expr x ++ ends_args rest
  ends_args (RefArg at root steps rest) = ends_steps steps ++ ends_args rest

  pub ends_block : CoreBlock → List ℕ
  ends_block (BlockOf stmts end) = ends_stmts stmts

  pub ends_stmts : CoreStmts → List ℕ
  ends_stmts NoStmts = []
  ends_stmts (StmtOf x rest) = ends_stmt x ++ ends_stmts rest

  pub ends_branches : CoreBranches → List ℕ
  ends_branches NoElse = []
  ends_branches (Else body) = ends_block body
  ends_branches (BranchOf test body rest) = ends_expr test ++ (ends_block body ++ ends_branches rest)

  pub ends_stmt : CoreStmt → List ℕ
  ends_stmt (Var at name t) = []
  ends_stmt (VarWith at name t x) = ends_expr x
  ends_stmt (Let at name t x) = ends_expr x
  ends_stmt (Inout at name t root steps) = ends_steps steps
  ends_stmt (Assign at root steps x) = ends_steps steps ++ ends_expr x
  ends_stmt (If at branches) = ends_branches branches
  ends_stmt (While at test body) = ends_expr test ++ ends_block body
  ends_stmt (Return at) = []
  ends_stmt (ReturnWith at x) = ends_expr x
  ends_stmt (Print at x) = ends_expr x
  ends_stmt (Task at name t spawn budget c) = ends_expr budget ++ ends_call c
  ends_stmt (AwaitsAlone at name) = []
  ends_stmt (CallsAlone at c) = ends_call c
  ends_stmt (Bare at body) = ends_block body

abbrev pub ends_decls : List CoreDecl → List ℕ
ends_decls [] = []
ends_decls (StructOf s ∷ rest) = ends_decls rest
ends_decls (FunOf f ∷ rest) = (end_at f.body ∷ ends_block f.body) ++ ends_decls rest

-- ---- they are those of the bodies at the sites

abbrev pub body_end : CoreBody → ℕ
body_end body = end_at body.block

map_joined : (bs cs : List CoreBody) → map body_end (bs ++ cs) ≡ map body_end bs ++ map body_end cs
map_joined [] cs = refl
map_joined (b ∷ bs) cs = ap (λ ns. body_end b ∷ ns) (map_joined bs cs)

abbrev ends_at : List Site → List ℕ
ends_at ws = map body_end (lambdas_at ws)

lambdas_joined : (vs ws : List Site) → lambdas_at (vs ++ ws) ≡ lambdas_at vs ++ lambdas_at ws
lambdas_joined [] ws = refl
lambdas_joined (v ∷ vs) ws = ap (λ bs. body_by v.scope v.part ++ bs) (lambdas_joined vs ws) ∙ sym (append_assoc (body_by v.scope v.part) (lambdas_at vs) (lambdas_at ws))

two : (vs ws : List Site) (ns ms : List ℕ) → ends_at vs ≡ ns → ends_at ws ≡ ms → ends_at (vs ++ ws) ≡ ns ++ ms
two vs ws ns ms h k = ap (map body_end) (lambdas_joined vs ws) ∙ (map_joined (lambdas_at vs) (lambdas_at ws) ∙ (ap (λ l. l ++ ends_at ws) h ∙ ap (λ l. ns ++ l) k))

mutual
  of_expr : (x : CoreExpr) (s : Scope) → ends_at (expr_sites x s) ≡ ends_expr x
  of_expr (Number at z) s = refl
  of_expr (Truth at b) s = refl
  of_expr (Path at root steps) s = of_steps steps s
  of_expr (Calls at c) s = of_call c s
  of_expr (Awaits at name) s = refl
  of_expr (Array at xs) s = of_exprs xs s
  of_expr (Filled at len x) s = two (expr_sites len s) (expr_sites x s) (ends_expr len) (ends_expr x) (of_expr len s) (of_expr x s)
  of_expr (Count at root steps) s = of_steps steps s
  of_expr (Lambda at captures params result body) s = ap (λ ns. end_at body ∷ ns) (of_block body (body_scope (lambda_body s captures params result body)))
  of_expr (Prefix at o x) s = of_expr x s
  of_expr (Chain at first links) s = two (expr_sites first s) (link_sites links s) (ends_expr first) (ends_links links) (of_expr first s) (of_links links s)

  of_exprs : (xs : CoreExprs) (s : Scope) → ends_at (exprs_sites xs s) ≡ ends_exprs xs
  of_exprs NoExprs s = refl
  of_exprs (ExprOf x rest) s = two (expr_sites x s) (exprs_sites rest s) (ends_expr x) (ends_exprs rest) (of_expr x s) (of_exprs rest s)

  of_links : (links : CoreLinks) (s : Scope) → ends_at (link_sites links s) ≡ ends_links links
  of_links NoLinks s = refl
  of_links (LinkOf o at x rest) s = two (expr_sites x s) (link_sites rest s) (ends_expr x) (ends_links rest) (of_expr x s) (of_links rest s)

  of_steps : (steps : CoreSteps) (s : Scope) → ends_at (step_sites steps s) ≡ ends_steps steps
  of_steps NoSteps s = refl
  of_steps (FieldStep name rest) s = of_steps rest s
  of_steps (IndexStep at x rest) s = two (expr_sites x s) (step_sites rest s) (ends_expr x) (ends_steps rest) (of_expr x s) (of_steps rest s)

  of_call : (c : CoreCall) (s : Scope) → ends_at (call_sites c s) ≡ ends_call c
  of_call (CallOf root steps at args) s = two (step_sites steps s) (arg_sites args s) (ends_steps steps) (ends_args args) (of_steps steps s) (of_args args s)

  of_args : (args : CoreArgs) (s : Scope) → ends_at (arg_sites args s) ≡ ends_args args
  of_args NoArgs s = refl
  of_args (ValueArg x rest) s = two (expr_sites x s) (arg_sites rest s) (ends_expr x) (ends_args rest) (of_expr x s) (of_args rest s)
  of_args (RefArg at root steps rest) s = two (step_sites steps s) (arg_sites rest s) (ends_steps steps) (ends_args rest) (of_steps steps s) (of_args rest s)

  of_block : (b : CoreBlock) (s : Scope) → ends_at (block_sites b s) ≡ ends_block b
  of_block (BlockOf stmts end) s = of_stmts stmts s

  of_stmts : (xs : CoreStmts) (s : Scope) → ends_at (stmts_sites xs s) ≡ ends_stmts xs
  of_stmts NoStmts s = refl
  of_stmts (StmtOf x rest) s = two (stmt_sites x s) (stmts_sites rest (scope_behind x s)) (ends_stmt x) (ends_stmts rest) (of_stmt x s) (of_stmts rest (scope_behind x s))

  of_branches : (bs : CoreBranches) (s : Scope) → ends_at (branch_sites bs s) ≡ ends_branches bs
  of_branches NoElse s = refl
  of_branches (Else body) s = of_block body s
  of_branches (BranchOf test body rest) s = two (expr_sites test s) (block_sites body s ++ branch_sites rest s) (ends_expr test) (ends_block body ++ ends_branches rest) (of_expr test s) (two (block_sites body s) (branch_sites rest s) (ends_block body) (ends_branches rest) (of_block body s) (of_branches rest s))

  of_stmt : (x : CoreStmt) (s : Scope) → ends_at (stmt_sites x s) ≡ ends_stmt x
  of_stmt (Var at name t) s = refl
  of_stmt (VarWith at name t x) s = of_expr x s
  of_stmt (Let at name t x) s = of_expr x s
  of_stmt (Inout at name t root steps) s = of_steps steps s
  of_stmt (Assign at root steps x) s = two (step_sites steps s) (expr_sites x s) (ends_steps steps) (ends_expr x) (of_steps steps s) (of_expr x s)
  of_stmt (If at branches) s = of_branches branches s
  of_stmt (While at test body) s = two (expr_sites test s) (block_sites body s) (ends_expr test) (ends_block body) (of_expr test s) (of_block body s)
  of_stmt (Return at) s = refl
  of_stmt (ReturnWith at x) s = of_expr x s
  of_stmt (Print at x) s = of_expr x s
  of_stmt (Task at name t spawn budget c) s = two (expr_sites budget s) (call_sites c s) (ends_expr budget) (ends_call c) (of_expr budget s) (of_call c s)
  of_stmt (AwaitsAlone at name) s = refl
  of_stmt (CallsAlone at c) s = of_call c s
  of_stmt (Bare at body) s = of_block body s

pub of_decls : (decls : List CoreDecl) → map body_end (decl_bodies decls) ≡ ends_decls decls
of_decls [] = refl
of_decls (StructOf s ∷ rest) = of_decls rest
of_decls (FunOf f ∷ rest) =
    ap (λ ns. end_at f.body ∷ ns) (map_joined (lambdas_at (sites_of_body (fun_body f))) (decl_bodies rest) ∙ (ap (λ l. l ++ map body_end (decl_bodies rest)) (of_block f.body (body_scope (fun_body f))) ∙ ap (λ l. ends_block f.body ++ l) (of_decls rest)))
