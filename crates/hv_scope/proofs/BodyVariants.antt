-- The bodies of the lambdas in each part, by its variant.
use Rattle.std.proofs.Common.{◌≡◌, ℕ, ℤ, Bool, List, [], ◌∷◌, ◌++◌, ◌+◌, ◌<◌, length, drop, get_or, map, Option, Some, None, refl, sym, ap, ◌∙◌, append_assoc, append-nil}
use Rattle.hv_tree.specs.declared.place.Place.{Place}
use Rattle.hv_tree.specs.declared.types.Name.{Name}
use Rattle.hv_tree.specs.declared.types.Ty.{Ty}
use Rattle.hv_tree.specs.declared.ast.Operator.{Operator}
use Rattle.hv_tree.specs.declared.ast.Param.{Param}
use Rattle.hv_tree.specs.declared.ast.Arg.{Arg, out-Arg}
use Rattle.hv_tree.specs.declared.ast.Block.{Block, out-Block}
use Rattle.hv_tree.specs.declared.ast.Branch.{Branch, out-Branch}
use Rattle.hv_tree.specs.declared.ast.Call.{Call, out-Call}
use Rattle.hv_tree.specs.declared.ast.Expr.{Expr, out-Expr}
use Rattle.hv_tree.specs.declared.ast.ExprKind.{ExprKind}
use Rattle.hv_tree.specs.declared.ast.ExprKind.TheVariants as expr
use Rattle.hv_tree.specs.declared.ast.PlaceExpr.{PlaceExpr, out-PlaceExpr}
use Rattle.hv_tree.specs.declared.ast.Step.{Step, out-Step}
use Rattle.hv_tree.specs.declared.ast.Step.TheVariants as step
use Rattle.hv_tree.specs.declared.ast.Stmt.{Stmt, out-Stmt}
use Rattle.hv_tree.specs.declared.ast.StmtKind.{StmtKind}
use Rattle.hv_tree.specs.declared.ast.StmtKind.TheVariants as stmt
use Rattle.hv_tree.specs.declared.ast.Arg.TheVariants as arg
use Rattle.hv_tree.specs.declared.ast.Arg.TheOpen.{Arg-F, Step-F}
use Rattle.hv_tree.specs.Core.{CoreSteps, NoSteps, CoreArgs, NoArgs, core_of, core_step, core_steps, core_place, core_arg, core_args, core_exprs, core_links, core_call, core_param, core_block, core_stmts, core_stmt, core_branches}
use Rattle.hv_tree.proofs.CoreLemmas as lemmas
use Rattle.hv_decls.specs.Locals.{Local, param_local, binds, listed}
use Rattle.hv_decls.specs.Sites.{capture_local}
use Rattle.hv_scope.specs.Bodies as spec
use Rattle.hv_lemmas.proofs.Lists.{first_left}

abbrev StepLayer : Type 0
StepLayer = Step-F Arg ExprKind Step StmtKind Block Branch Call Expr PlaceExpr Stmt

abbrev ArgLayer : Type 0
ArgLayer = Arg-F Arg ExprKind Step StmtKind Block Branch Call Expr PlaceExpr Stmt

module _ (v : List Local) where
  by_place : (p : PlaceExpr) → spec.step_bodies v (core_place p).1 ≡ spec.step_bodies v (core_steps (out-PlaceExpr p).steps)
  by_place p = ap (λ (q : Name × CoreSteps). spec.step_bodies v q.1) (lemmas.opened_place p)

  pub expr_int : (x : Expr) (z : ℤ) → (out-Expr x).kind ≡ expr.Int z → spec.expr_bodies v (core_of x) ≡ []
  expr_int x z h = ap (spec.expr_bodies v) (lemmas.expr_int x z h)

  pub expr_bool : (x : Expr) (b : Bool) → (out-Expr x).kind ≡ expr.Bool b → spec.expr_bodies v (core_of x) ≡ []
  expr_bool x b h = ap (spec.expr_bodies v) (lemmas.expr_bool x b h)

  pub expr_await : (x : Expr) (name : Name) → (out-Expr x).kind ≡ expr.Await name → spec.expr_bodies v (core_of x) ≡ []
  expr_await x name h = ap (spec.expr_bodies v) (lemmas.expr_await x name h)

  pub expr_path : (x : Expr) (p : PlaceExpr) → (out-Expr x).kind ≡ expr.Path p → spec.expr_bodies v (core_of x) ≡ spec.step_bodies v (core_steps (out-PlaceExpr p).steps)
  expr_path x p h = ap (spec.expr_bodies v) (lemmas.expr_path x p h) ∙ by_place p

  pub expr_call : (x : Expr) (c : Call) → (out-Expr x).kind ≡ expr.Call c → spec.expr_bodies v (core_of x) ≡ spec.call_bodies v (core_call c)
  expr_call x c h = ap (spec.expr_bodies v) (lemmas.expr_call x c h)

  pub expr_array_lit : (x : Expr) (xs : List Expr) → (out-Expr x).kind ≡ expr.ArrayLit xs → spec.expr_bodies v (core_of x) ≡ spec.part_bodies v (core_exprs xs)
  expr_array_lit x xs h = ap (spec.expr_bodies v) (lemmas.expr_array_lit x xs h)

  pub expr_filled : (x len value : Expr) → (out-Expr x).kind ≡ expr.Filled len value → spec.expr_bodies v (core_of x) ≡ spec.expr_bodies v (core_of len) ++ spec.expr_bodies v (core_of value)
  expr_filled x len value h = ap (spec.expr_bodies v) (lemmas.expr_filled x len value h)

  pub expr_count : (x : Expr) (p : PlaceExpr) → (out-Expr x).kind ≡ expr.Count p → spec.expr_bodies v (core_of x) ≡ spec.step_bodies v (core_steps (out-PlaceExpr p).steps)
  expr_count x p h = ap (spec.expr_bodies v) (lemmas.expr_count x p h) ∙ by_place p

  pub expr_lambda : (x : Expr) (captures : List Name) (params : List Param) (result : Option Ty) (body : Block) → (out-Expr x).kind ≡ expr.Lambda captures params result body →
      spec.expr_bodies v (core_of x) ≡ spec.body_with (map (capture_local v) captures) params result body ∷ spec.block_bodies (map (capture_local v) captures ++ map param_local (map core_param params)) (core_block body)
  expr_lambda x captures params result body h = ap (spec.expr_bodies v) (lemmas.expr_lambda x captures params result body h)

  pub expr_prefix : (x : Expr) (o : Operator) (operand : Expr) → (out-Expr x).kind ≡ expr.Prefix o operand → spec.expr_bodies v (core_of x) ≡ spec.expr_bodies v (core_of operand)
  expr_prefix x o operand h = ap (spec.expr_bodies v) (lemmas.expr_prefix x o operand h)

  pub expr_chain : (x first : Expr) (links : List (Operator × Place × Expr)) → (out-Expr x).kind ≡ expr.Chain first links →
      spec.expr_bodies v (core_of x) ≡ spec.expr_bodies v (core_of first) ++ spec.link_bodies v (core_links links)
  expr_chain x first links h = ap (spec.expr_bodies v) (lemmas.expr_chain x first links h)

  -- ---- steps, calls and arguments

  pub step_field : (s : Step) (name : Name) → s ≡ step.Field name → spec.step_bodies v (core_step s NoSteps) ≡ []
  step_field s name h = ap (λ u. spec.step_bodies v (core_step u NoSteps)) h ∙ ap (spec.step_bodies v) (lemmas.step_field NoSteps name)

  pub step_index : (s : Step) (at : Place) (x : Expr) → s ≡ step.Index at x → spec.step_bodies v (core_step s NoSteps) ≡ spec.expr_bodies v (core_of x)
  step_index s at x h = ap (λ u. spec.step_bodies v (core_step u NoSteps)) h ∙ ap (spec.step_bodies v) (lemmas.step_index NoSteps at x) ∙ append-nil (spec.expr_bodies v (core_of x))

  step_by : (s : Step) (rest : CoreSteps) (u : StepLayer) → out-Step s ≡ u → spec.step_bodies v (core_step s rest) ≡ spec.step_bodies v (core_step s NoSteps) ++ spec.step_bodies v rest
  step_by s rest (Step-F.Field name) e = ap (spec.step_bodies v) (lemmas.by_field s rest name e) ∙ sym (ap (λ c. spec.step_bodies v c ++ spec.step_bodies v rest) (lemmas.by_field s NoSteps name e))
  step_by s rest (Step-F.Index at x) e =
      ap (spec.step_bodies v) (lemmas.by_index s rest at x e)
      ∙ ap (λ l. l ++ spec.step_bodies v rest) (sym (append-nil (spec.expr_bodies v (core_of x))))
      ∙ sym (ap (λ c. spec.step_bodies v c ++ spec.step_bodies v rest) (lemmas.by_index s NoSteps at x e))

  pub steps_next : (steps : List Step) (i : ℕ) (s : Step) → i < length steps → s ≡ get_or steps i s →
      spec.step_bodies v (core_steps (drop i steps)) ≡ spec.step_bodies v (core_step s NoSteps) ++ spec.step_bodies v (core_steps (drop (i + 1) steps))
  steps_next steps i s within is = ap (λ w. spec.step_bodies v (core_steps w)) (first_left steps i s within is) ∙ step_by s (core_steps (drop (i + 1) steps)) (out-Step s) refl

  pub call_opened : (c : Call) → spec.call_bodies v (core_call c) ≡ spec.step_bodies v (core_steps (out-PlaceExpr (out-Call c).callee).steps) ++ spec.arg_bodies v (core_args (out-Call c).args)
  call_opened c = ap (spec.call_bodies v) (lemmas.opened_call c) ∙ ap (λ l. l ++ spec.arg_bodies v (core_args (out-Call c).args)) (by_place (out-Call c).callee)

  pub arg_value : (a : Arg) (x : Expr) → a ≡ arg.Value x → spec.arg_bodies v (core_arg a NoArgs) ≡ spec.expr_bodies v (core_of x)
  arg_value a x h = ap (λ u. spec.arg_bodies v (core_arg u NoArgs)) h ∙ ap (spec.arg_bodies v) (lemmas.arg_value NoArgs x) ∙ append-nil (spec.expr_bodies v (core_of x))

  pub arg_ref : (a : Arg) (at : Place) (p : PlaceExpr) → a ≡ arg.Ref at p → spec.arg_bodies v (core_arg a NoArgs) ≡ spec.step_bodies v (core_steps (out-PlaceExpr p).steps)
  arg_ref a at p h = ap (λ u. spec.arg_bodies v (core_arg u NoArgs)) h ∙ ap (spec.arg_bodies v) (lemmas.arg_ref NoArgs at p) ∙ append-nil (spec.step_bodies v (core_place p).1) ∙ by_place p

  arg_by : (a : Arg) (rest : CoreArgs) (u : ArgLayer) → out-Arg a ≡ u → spec.arg_bodies v (core_arg a rest) ≡ spec.arg_bodies v (core_arg a NoArgs) ++ spec.arg_bodies v rest
  arg_by a rest (Arg-F.Value x) e =
      ap (spec.arg_bodies v) (lemmas.by_value a rest x e)
      ∙ ap (λ l. l ++ spec.arg_bodies v rest) (sym (append-nil (spec.expr_bodies v (core_of x))))
      ∙ sym (ap (λ c. spec.arg_bodies v c ++ spec.arg_bodies v rest) (lemmas.by_value a NoArgs x e))
  arg_by a rest (Arg-F.Ref at p) e =
      ap (spec.arg_bodies v) (lemmas.by_ref a rest at p e)
      ∙ ap (λ l. l ++ spec.arg_bodies v rest) (sym (append-nil (spec.step_bodies v (core_place p).1)))
      ∙ sym (ap (λ c. spec.arg_bodies v c ++ spec.arg_bodies v rest) (lemmas.by_ref a NoArgs at p e))

  pub args_next : (args : List Arg) (i : ℕ) (a : Arg) → i < length args → a ≡ get_or args i a →
      spec.arg_bodies v (core_args (drop i args)) ≡ spec.arg_bodies v (core_arg a NoArgs) ++ spec.arg_bodies v (core_args (drop (i + 1) args))
  args_next args i a within is = ap (λ w. spec.arg_bodies v (core_args w)) (first_left args i a within is) ∙ arg_by a (core_args (drop (i + 1) args)) (out-Arg a) refl

  -- ---- statements

  pub block_opened : (b : Block) → spec.block_bodies v (core_block b) ≡ spec.stmts_bodies v (core_stmts (out-Block b).stmts)
  block_opened b = ap (spec.block_bodies v) (lemmas.opened_block b)

  pub stmt_var : (s : Stmt) (name : Name) (t : Ty) (value : Option Expr) → (out-Stmt s).kind ≡ stmt.Var name t value → spec.stmt_bodies v (core_stmt s) ≡ spec.value_bodies v value
  stmt_var s name t None h = ap (spec.stmt_bodies v) (lemmas.stmt_var s name t h)
  stmt_var s name t (Some x) h = ap (spec.stmt_bodies v) (lemmas.stmt_var_with s name t x h)

  pub stmt_let : (s : Stmt) (name : Name) (t : Ty) (x : Expr) → (out-Stmt s).kind ≡ stmt.Let name t x → spec.stmt_bodies v (core_stmt s) ≡ spec.expr_bodies v (core_of x)
  stmt_let s name t x h = ap (spec.stmt_bodies v) (lemmas.stmt_let s name t x h)

  pub stmt_inout : (s : Stmt) (name : Name) (t : Ty) (p : PlaceExpr) → (out-Stmt s).kind ≡ stmt.Inout name t p → spec.stmt_bodies v (core_stmt s) ≡ spec.step_bodies v (core_steps (out-PlaceExpr p).steps)
  stmt_inout s name t p h = ap (spec.stmt_bodies v) (lemmas.stmt_inout s name t p h) ∙ by_place p

  pub stmt_assign : (s : Stmt) (p : PlaceExpr) (x : Expr) → (out-Stmt s).kind ≡ stmt.Assign p x → spec.stmt_bodies v (core_stmt s) ≡ spec.step_bodies v (core_steps (out-PlaceExpr p).steps) ++ spec.expr_bodies v (core_of x)
  stmt_assign s p x h = ap (spec.stmt_bodies v) (lemmas.stmt_assign s p x h) ∙ ap (λ l. l ++ spec.expr_bodies v (core_of x)) (by_place p)

  else_same : (otherwise : Option Block) → spec.branch_bodies v (core_branches [] otherwise) ≡ spec.else_bodies v otherwise
  else_same None = refl
  else_same (Some b) = refl

  branches_same : (otherwise : Option Block) (branches : List Branch) → spec.branch_bodies v (core_branches branches otherwise) ≡ spec.tests_bodies v branches ++ spec.else_bodies v otherwise
  branches_same otherwise [] = else_same otherwise
  branches_same otherwise (b ∷ rest) =
      ap (spec.branch_bodies v) (lemmas.opened_branch b (core_branches rest otherwise))
      ∙ ap (λ l. spec.expr_bodies v (core_of (out-Branch b).test) ++ (spec.block_bodies v (core_block (out-Branch b).body) ++ l)) (branches_same otherwise rest)
      ∙ sym (append_assoc (spec.expr_bodies v (core_of (out-Branch b).test) ++ spec.block_bodies v (core_block (out-Branch b).body)) (spec.tests_bodies v rest) (spec.else_bodies v otherwise)
      ∙ append_assoc (spec.expr_bodies v (core_of (out-Branch b).test)) (spec.block_bodies v (core_block (out-Branch b).body)) (spec.tests_bodies v rest ++ spec.else_bodies v otherwise))

  pub stmt_if : (s : Stmt) (branches : List Branch) (otherwise : Option Block) → (out-Stmt s).kind ≡ stmt.If branches otherwise → spec.stmt_bodies v (core_stmt s) ≡ spec.tests_bodies v branches ++ spec.else_bodies v otherwise
  stmt_if s branches otherwise h = ap (spec.stmt_bodies v) (lemmas.stmt_if s branches otherwise h) ∙ branches_same otherwise branches

  pub stmt_while : (s : Stmt) (test : Expr) (body : Block) → (out-Stmt s).kind ≡ stmt.While test body → spec.stmt_bodies v (core_stmt s) ≡ spec.expr_bodies v (core_of test) ++ spec.block_bodies v (core_block body)
  stmt_while s test body h = ap (spec.stmt_bodies v) (lemmas.stmt_while s test body h)

  pub stmt_return : (s : Stmt) (value : Option Expr) → (out-Stmt s).kind ≡ stmt.Return value → spec.stmt_bodies v (core_stmt s) ≡ spec.value_bodies v value
  stmt_return s None h = ap (spec.stmt_bodies v) (lemmas.stmt_return s h)
  stmt_return s (Some x) h = ap (spec.stmt_bodies v) (lemmas.stmt_return_with s x h)

  pub stmt_print : (s : Stmt) (x : Expr) → (out-Stmt s).kind ≡ stmt.Print x → spec.stmt_bodies v (core_stmt s) ≡ spec.expr_bodies v (core_of x)
  stmt_print s x h = ap (spec.stmt_bodies v) (lemmas.stmt_print s x h)

  pub stmt_task : (s : Stmt) (handle : Name) (t : Option Ty) (spawn : Place) (budget : Expr) (c : Call) → (out-Stmt s).kind ≡ stmt.Task handle t spawn budget c →
      spec.stmt_bodies v (core_stmt s) ≡ spec.expr_bodies v (core_of budget) ++ spec.call_bodies v (core_call c)
  stmt_task s handle t spawn budget c h = ap (spec.stmt_bodies v) (lemmas.stmt_task s handle t spawn budget c h)

  pub stmt_await : (s : Stmt) (name : Name) → (out-Stmt s).kind ≡ stmt.Await name → spec.stmt_bodies v (core_stmt s) ≡ []
  stmt_await s name h = ap (spec.stmt_bodies v) (lemmas.stmt_await s name h)

  pub stmt_call : (s : Stmt) (c : Call) → (out-Stmt s).kind ≡ stmt.Call c → spec.stmt_bodies v (core_stmt s) ≡ spec.call_bodies v (core_call c)
  stmt_call s c h = ap (spec.stmt_bodies v) (lemmas.stmt_call s c h)

  pub stmt_block : (s : Stmt) (b : Block) → (out-Stmt s).kind ≡ stmt.Block b → spec.stmt_bodies v (core_stmt s) ≡ spec.block_bodies v (core_block b)
  stmt_block s b h = ap (spec.stmt_bodies v) (lemmas.stmt_block s b h)

  pub stmts_next : (stmts : List Stmt) (i : ℕ) (s : Stmt) → i < length stmts → s ≡ get_or stmts i s →
      spec.stmts_bodies v (core_stmts (drop i stmts)) ≡ spec.stmt_bodies v (core_stmt s) ++ spec.stmts_bodies (listed (binds (core_stmt s)) ++ v) (core_stmts (drop (i + 1) stmts))
  stmts_next stmts i s within is = ap (λ w. spec.stmts_bodies v (core_stmts w)) (first_left stmts i s within is)
