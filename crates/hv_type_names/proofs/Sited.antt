-- What a walk finds is what is found at the sites, part by part.
use Rattle.std.proofs.Common.{◌≡◌, ℕ, List, [], ◌++◌, map, refl, sym, ap, ◌∙◌, append_assoc, append-nil}
use Rattle.hv_tree.specs.declared.types.Name.{Name}
use Rattle.hv_tree.specs.declared.refusal.Refusal.{Refusal}
use Rattle.hv_tree.specs.Core.{CoreExpr, Number, Truth, Path, Calls, Awaits, Array, Filled, Count, Lambda, Prefix, Chain, CoreExprs, NoExprs, ExprOf, CoreLinks, NoLinks, LinkOf, CoreSteps, NoSteps, FieldStep, IndexStep, CoreCall, CallOf, CoreArgs, NoArgs, ValueArg, RefArg, CoreBlock, BlockOf, CoreStmts, NoStmts, StmtOf, CoreBranches, NoElse, Else, BranchOf, CoreStmt, Var, VarWith, Let, Inout, Assign, If, While, Return, ReturnWith, Print, Task, AwaitsAlone, CallsAlone, Bare}
use Rattle.hv_decls.specs.Sites.{Scope, scope_behind, lambda_body, body_scope, expr_sites, exprs_sites, link_sites, step_sites, call_sites, arg_sites, block_sites, stmts_sites, branch_sites, stmt_sites}
use Rattle.hv_type_names.specs.declared.program.Program.{Program}
use Rattle.hv_type_names.specs.Found as spec
use Rattle.hv_type_names.proofs.Walked.{Agree, use_at, captures_at, sites_at, use_same, captures_same, both, joined}
use Rattle.hv_type_names.proofs.Agreeing.{agree_behind, agree_entry}

module _ (p : Program) where
  -- a name, and the sites behind it
  used : (seen : List (List ℕ)) (s : Scope) (name : Name) (a b : List Refusal) → Agree seen s.visible → a ≡ b → spec.use_found p seen name ++ a ≡ use_at p s.visible name ++ b
  used seen s name a b g e = both p (spec.use_found p seen name) a (use_at p s.visible name) b (use_same p seen s.visible name g) e

  alone : (seen : List (List ℕ)) (s : Scope) (name : Name) → Agree seen s.visible → spec.use_found p seen name ≡ use_at p s.visible name ++ []
  alone seen s name g = use_same p seen s.visible name g ∙ sym (append-nil (use_at p s.visible name))

  mutual
    pub expr_same : (x : CoreExpr) (seen : List (List ℕ)) (s : Scope) → Agree seen s.visible → spec.expr_found p seen x ≡ sites_at p (expr_sites x s)
    expr_same (Number at z) seen s g = refl
    expr_same (Truth at b) seen s g = refl
    expr_same (Path at root steps) seen s g = used seen s root (spec.steps_found p seen steps) (sites_at p (step_sites steps s)) g (steps_same steps seen s g)
    expr_same (Calls at call) seen s g = call_same call seen s g
    expr_same (Awaits at name) seen s g = alone seen s name g
    expr_same (Array at xs) seen s g = exprs_same xs seen s g
    expr_same (Filled at len value) seen s g = joined p (spec.expr_found p seen len) (spec.expr_found p seen value) (expr_sites len s) (expr_sites value s) (expr_same len seen s g) (expr_same value seen s g)
    expr_same (Count at root steps) seen s g = used seen s root (spec.steps_found p seen steps) (sites_at p (step_sites steps s)) g (steps_same steps seen s g)
    expr_same (Lambda at captures params result body) seen s g =
        let before = spec.params_found p params in
        let header = before ++ (spec.option_ty_found p result ++ spec.captures_found seen captures) in
        let inside = spec.texts_of captures ++ spec.texts_of (map spec.param_name params) in
        sym (append_assoc header (spec.declared_found p captures params body) (spec.block_found p inside body))
        ∙ both p (header ++ spec.declared_found p captures params body) (spec.block_found p inside body)
        ((before ++ (spec.option_ty_found p result ++ captures_at p s.visible captures)) ++ spec.declared_found p captures params body)
        (sites_at p (block_sites body (body_scope (lambda_body s captures params result body))))
        (ap (λ l. (before ++ (spec.option_ty_found p result ++ l)) ++ spec.declared_found p captures params body) (captures_same p seen s.visible captures g))
        (block_same body inside (body_scope (lambda_body s captures params result body)) (agree_entry s captures params result body))
    expr_same (Prefix at o x) seen s g = expr_same x seen s g
    expr_same (Chain at first links) seen s g = joined p (spec.expr_found p seen first) (spec.links_found p seen links) (expr_sites first s) (link_sites links s) (expr_same first seen s g) (links_same links seen s g)

    exprs_same : (xs : CoreExprs) (seen : List (List ℕ)) (s : Scope) → Agree seen s.visible → spec.exprs_found p seen xs ≡ sites_at p (exprs_sites xs s)
    exprs_same NoExprs seen s g = refl
    exprs_same (ExprOf x rest) seen s g = joined p (spec.expr_found p seen x) (spec.exprs_found p seen rest) (expr_sites x s) (exprs_sites rest s) (expr_same x seen s g) (exprs_same rest seen s g)

    links_same : (links : CoreLinks) (seen : List (List ℕ)) (s : Scope) → Agree seen s.visible → spec.links_found p seen links ≡ sites_at p (link_sites links s)
    links_same NoLinks seen s g = refl
    links_same (LinkOf o at x rest) seen s g = joined p (spec.expr_found p seen x) (spec.links_found p seen rest) (expr_sites x s) (link_sites rest s) (expr_same x seen s g) (links_same rest seen s g)

    steps_same : (steps : CoreSteps) (seen : List (List ℕ)) (s : Scope) → Agree seen s.visible → spec.steps_found p seen steps ≡ sites_at p (step_sites steps s)
    steps_same NoSteps seen s g = refl
    steps_same (FieldStep name rest) seen s g = steps_same rest seen s g
    steps_same (IndexStep at x rest) seen s g = joined p (spec.expr_found p seen x) (spec.steps_found p seen rest) (expr_sites x s) (step_sites rest s) (expr_same x seen s g) (steps_same rest seen s g)

    call_same : (c : CoreCall) (seen : List (List ℕ)) (s : Scope) → Agree seen s.visible → spec.call_found p seen c ≡ sites_at p (call_sites c s)
    call_same (CallOf root steps at args) seen s g =
        used seen s root (spec.steps_found p seen steps ++ spec.args_found p seen args) (sites_at p (step_sites steps s ++ arg_sites args s)) g
        (joined p (spec.steps_found p seen steps) (spec.args_found p seen args) (step_sites steps s) (arg_sites args s) (steps_same steps seen s g) (args_same args seen s g))

    args_same : (args : CoreArgs) (seen : List (List ℕ)) (s : Scope) → Agree seen s.visible → spec.args_found p seen args ≡ sites_at p (arg_sites args s)
    args_same NoArgs seen s g = refl
    args_same (ValueArg x rest) seen s g = joined p (spec.expr_found p seen x) (spec.args_found p seen rest) (expr_sites x s) (arg_sites rest s) (expr_same x seen s g) (args_same rest seen s g)
    args_same (RefArg at root steps rest) seen s g =
        used seen s root (spec.steps_found p seen steps ++ spec.args_found p seen rest) (sites_at p (step_sites steps s ++ arg_sites rest s)) g
        (joined p (spec.steps_found p seen steps) (spec.args_found p seen rest) (step_sites steps s) (arg_sites rest s) (steps_same steps seen s g) (args_same rest seen s g))

    pub block_same : (b : CoreBlock) (seen : List (List ℕ)) (s : Scope) → Agree seen s.visible → spec.block_found p seen b ≡ sites_at p (block_sites b s)
    block_same (BlockOf stmts end) seen s g = stmts_same stmts seen s g

    stmts_same : (stmts : CoreStmts) (seen : List (List ℕ)) (s : Scope) → Agree seen s.visible → spec.stmts_found p seen stmts ≡ sites_at p (stmts_sites stmts s)
    stmts_same NoStmts seen s g = refl
    stmts_same (StmtOf x rest) seen s g =
        joined p (spec.stmt_found p seen x) (spec.stmts_found p (spec.behind seen (spec.bound x)) rest) (stmt_sites x s) (stmts_sites rest (scope_behind x s)) (stmt_same x seen s g)
        (stmts_same rest (spec.behind seen (spec.bound x)) (scope_behind x s) (agree_behind x seen s g))

    branches_same : (branches : CoreBranches) (seen : List (List ℕ)) (s : Scope) → Agree seen s.visible → spec.branches_found p seen branches ≡ sites_at p (branch_sites branches s)
    branches_same NoElse seen s g = refl
    branches_same (Else block) seen s g = block_same block seen s g
    branches_same (BranchOf test body rest) seen s g =
        joined p (spec.expr_found p seen test) (spec.block_found p seen body ++ spec.branches_found p seen rest) (expr_sites test s) (block_sites body s ++ branch_sites rest s) (expr_same test seen s g)
        (joined p (spec.block_found p seen body) (spec.branches_found p seen rest) (block_sites body s) (branch_sites rest s) (block_same body seen s g) (branches_same rest seen s g))

    stmt_same : (x : CoreStmt) (seen : List (List ℕ)) (s : Scope) → Agree seen s.visible → spec.stmt_found p seen x ≡ sites_at p (stmt_sites x s)
    stmt_same (Var at name t) seen s g = sym (append-nil (spec.ty_found p t))
    stmt_same (VarWith at name t x) seen s g = ap (λ l. spec.ty_found p t ++ l) (expr_same x seen s g)
    stmt_same (Let at name t x) seen s g = ap (λ l. spec.ty_found p t ++ l) (expr_same x seen s g)
    stmt_same (Inout at name t root steps) seen s g = ap (λ l. spec.ty_found p t ++ l) (used seen s root (spec.steps_found p seen steps) (sites_at p (step_sites steps s)) g (steps_same steps seen s g))
    stmt_same (Assign at root steps x) seen s g =
        used seen s root (spec.steps_found p seen steps ++ spec.expr_found p seen x) (sites_at p (step_sites steps s ++ expr_sites x s)) g
        (joined p (spec.steps_found p seen steps) (spec.expr_found p seen x) (step_sites steps s) (expr_sites x s) (steps_same steps seen s g) (expr_same x seen s g))
    stmt_same (If at branches) seen s g = branches_same branches seen s g
    stmt_same (While at test body) seen s g = joined p (spec.expr_found p seen test) (spec.block_found p seen body) (expr_sites test s) (block_sites body s) (expr_same test seen s g) (block_same body seen s g)
    stmt_same (Return at) seen s g = refl
    stmt_same (ReturnWith at x) seen s g = expr_same x seen s g
    stmt_same (Print at x) seen s g = expr_same x seen s g
    stmt_same (Task at name t spawn budget call) seen s g =
        ap (λ l. spec.option_ty_found p t ++ l)
        (joined p (spec.expr_found p seen budget) (spec.call_found p seen call) (expr_sites budget s) (call_sites call s) (expr_same budget seen s g) (call_same call seen s g))
    stmt_same (AwaitsAlone at name) seen s g = alone seen s name g
    stmt_same (CallsAlone at call) seen s g = call_same call seen s g
    stmt_same (Bare at block) seen s g = block_same block seen s g
