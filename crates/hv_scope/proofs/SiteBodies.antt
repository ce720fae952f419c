-- The lambdas at the sites of a part are its bodies.
use Rattle.std.proofs.Common.{◌≡◌, List, [], ◌∷◌, ◌++◌, refl, sym, ap, ◌∙◌, append_assoc}
use Rattle.hv_tree.specs.Core.{CoreExpr, Number, Truth, Path, Calls, Awaits, Array, Filled, Count, Lambda, Prefix, Chain, CoreExprs, NoExprs, ExprOf, CoreLinks, NoLinks, LinkOf, CoreSteps, NoSteps, FieldStep, IndexStep, CoreCall, CallOf, CoreArgs, NoArgs, ValueArg, RefArg, CoreBlock, BlockOf, CoreStmts, NoStmts, StmtOf, CoreBranches, NoElse, Else, BranchOf, CoreStmt, Var, VarWith, Let, Inout, Assign, If, While, Return, ReturnWith, Print, Task, AwaitsAlone, CallsAlone, Bare}
use Rattle.hv_decls.specs.Locals.{CoreBody}
use Rattle.hv_decls.specs.Sites.{Scope, Site, lambdas_at, body_by, expr_sites, exprs_sites, link_sites, step_sites, call_sites, arg_sites, block_sites, stmts_sites, branch_sites, stmt_sites, scope_behind, body_scope, lambda_body}
use Rattle.hv_scope.specs.Bodies as bodies

both : (xs ys : List Site) → lambdas_at (xs ++ ys) ≡ lambdas_at xs ++ lambdas_at ys
both [] ys = refl
both (w ∷ xs) ys = ap (λ l. body_by w.scope w.part ++ l) (both xs ys) ∙ sym (append_assoc (body_by w.scope w.part) (lambdas_at xs) (lambdas_at ys))

two : (xs ys : List Site) (a b : List CoreBody) → lambdas_at xs ≡ a → lambdas_at ys ≡ b → lambdas_at (xs ++ ys) ≡ a ++ b
two xs ys a b e f = both xs ys ∙ ap (λ l. l ++ lambdas_at ys) e ∙ ap (λ l. a ++ l) f

mutual
  pub at_expr : (s : Scope) (x : CoreExpr) → lambdas_at (expr_sites x s) ≡ bodies.expr_bodies s.visible x
  at_expr s (Number at z) = refl
  at_expr s (Truth at b) = refl
  at_expr s (Path at root steps) = at_steps s steps
  at_expr s (Calls at call) = at_call s call
  at_expr s (Awaits at name) = refl
  at_expr s (Array at xs) = at_parts s xs
  at_expr s (Filled at len value) = two (expr_sites len s) (expr_sites value s) _ _ (at_expr s len) (at_expr s value)
  at_expr s (Count at root steps) = at_steps s steps
  at_expr s (Lambda at captures params result body) =
      ap (λ l. bodies.lambda_in s.visible captures params result body ∷ l) (at_block (body_scope (lambda_body s captures params result body)) body)
  at_expr s (Prefix at o x) = at_expr s x
  at_expr s (Chain at first links) = two (expr_sites first s) (link_sites links s) _ _ (at_expr s first) (at_links s links)

  pub at_parts : (s : Scope) (x : CoreExprs) → lambdas_at (exprs_sites x s) ≡ bodies.part_bodies s.visible x
  at_parts s NoExprs = refl
  at_parts s (ExprOf x rest) = two (expr_sites x s) (exprs_sites rest s) _ _ (at_expr s x) (at_parts s rest)

  pub at_links : (s : Scope) (x : CoreLinks) → lambdas_at (link_sites x s) ≡ bodies.link_bodies s.visible x
  at_links s NoLinks = refl
  at_links s (LinkOf o at x rest) = two (expr_sites x s) (link_sites rest s) _ _ (at_expr s x) (at_links s rest)

  pub at_steps : (s : Scope) (x : CoreSteps) → lambdas_at (step_sites x s) ≡ bodies.step_bodies s.visible x
  at_steps s NoSteps = refl
  at_steps s (FieldStep name rest) = at_steps s rest
  at_steps s (IndexStep at x rest) = two (expr_sites x s) (step_sites rest s) _ _ (at_expr s x) (at_steps s rest)

  pub at_call : (s : Scope) (x : CoreCall) → lambdas_at (call_sites x s) ≡ bodies.call_bodies s.visible x
  at_call s (CallOf root steps at args) = two (step_sites steps s) (arg_sites args s) _ _ (at_steps s steps) (at_args s args)

  pub at_args : (s : Scope) (x : CoreArgs) → lambdas_at (arg_sites x s) ≡ bodies.arg_bodies s.visible x
  at_args s NoArgs = refl
  at_args s (ValueArg x rest) = two (expr_sites x s) (arg_sites rest s) _ _ (at_expr s x) (at_args s rest)
  at_args s (RefArg at root steps rest) = two (step_sites steps s) (arg_sites rest s) _ _ (at_steps s steps) (at_args s rest)

  pub at_block : (s : Scope) (x : CoreBlock) → lambdas_at (block_sites x s) ≡ bodies.block_bodies s.visible x
  at_block s (BlockOf stmts end) = at_stmts s stmts

  pub at_stmts : (s : Scope) (x : CoreStmts) → lambdas_at (stmts_sites x s) ≡ bodies.stmts_bodies s.visible x
  at_stmts s NoStmts = refl
  at_stmts s (StmtOf x rest) = two (stmt_sites x s) (stmts_sites rest (scope_behind x s)) _ _ (at_stmt s x) (at_stmts (scope_behind x s) rest)

  pub at_branches : (s : Scope) (x : CoreBranches) → lambdas_at (branch_sites x s) ≡ bodies.branch_bodies s.visible x
  at_branches s NoElse = refl
  at_branches s (Else block) = at_block s block
  at_branches s (BranchOf test body rest) =
      two (expr_sites test s) (block_sites body s ++ branch_sites rest s) _ _ (at_expr s test) (two (block_sites body s) (branch_sites rest s) _ _ (at_block s body) (at_branches s rest))

  pub at_stmt : (s : Scope) (x : CoreStmt) → lambdas_at (stmt_sites x s) ≡ bodies.stmt_bodies s.visible x
  at_stmt s (Var at name t) = refl
  at_stmt s (VarWith at name t x) = at_expr s x
  at_stmt s (Let at name t x) = at_expr s x
  at_stmt s (Inout at name t root steps) = at_steps s steps
  at_stmt s (Assign at root steps x) = two (step_sites steps s) (expr_sites x s) _ _ (at_steps s steps) (at_expr s x)
  at_stmt s (If at branches) = at_branches s branches
  at_stmt s (While at test body) = two (expr_sites test s) (block_sites body s) _ _ (at_expr s test) (at_block s body)
  at_stmt s (Return at) = refl
  at_stmt s (ReturnWith at x) = at_expr s x
  at_stmt s (Print at x) = at_expr s x
  at_stmt s (Task at name t spawn budget call) = two (expr_sites budget s) (call_sites call s) _ _ (at_expr s budget) (at_call s call)
  at_stmt s (AwaitsAlone at name) = refl
  at_stmt s (CallsAlone at call) = at_call s call
  at_stmt s (Bare at block) = at_block s block
