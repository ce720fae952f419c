-- The plan of each statement, by its variant, and how many locals it declares.
use Rattle.std.proofs.Common.{◌≡◌, ℕ, List, ◌∷◌, ◌++◌, ◌+◌, length, Option, Some, None, refl, ap, ◌∙◌, append_assoc}
use Rattle.hv_tree.specs.declared.place.Place.{Place}
use Rattle.hv_tree.specs.declared.types.Name.{Name}
use Rattle.hv_tree.specs.declared.types.Ty.{Ty}
use Rattle.hv_tree.specs.declared.ast.Block.{Block}
use Rattle.hv_tree.specs.declared.ast.Branch.{Branch}
use Rattle.hv_tree.specs.declared.ast.Call.{Call}
use Rattle.hv_tree.specs.declared.ast.Expr.{Expr}
use Rattle.hv_tree.specs.declared.ast.PlaceExpr.{PlaceExpr}
use Rattle.hv_tree.specs.declared.ast.Stmt.{Stmt, out-Stmt}
use Rattle.hv_tree.specs.declared.ast.StmtKind.TheVariants as stmt
use Rattle.hv_tree.specs.Core.{Core, CoreExpr, Number, Truth, Path, Calls, Awaits, Array, Filled, Count, Lambda, Prefix, Chain, CoreSteps, CoreStmt, core_of, core_place}
use Rattle.hv_tree.proofs.CoreLemmas as lemmas
use Rattle.hv_rules.specs.declared.event.FlowEvent.{FlowEvent}
use Rattle.hv_rules.specs.declared.event.FlowEvent.TheVariants as event
use Rattle.hv_decls.specs.declared.path.StaticPath.{StaticPath}
use Rattle.hv_decls.specs.Locals.{Local, number_in, declared_in}
use Rattle.hv_rules.specs.Events as events
use Rattle.hv_flow_plan.specs.declared.plan.FlowOp.{FlowOp}
use Rattle.hv_flow_plan.specs.declared.plan.FlowOp.TheVariants as op
use Rattle.hv_flow_plan.specs.declared.doing.Doing.TheVariants as doing
use Rattle.hv_flow_plan.specs.declared.doing.Way.TheVariants as way
use Rattle.hv_flow_plan.specs.Spelling.{plan_of}
use Rattle.hv_flow_plan.specs.Plans as exprs
use Rattle.hv_flow_plan.specs.StmtPlans as plans
use Rattle.hv_flow_plan.proofs.ExprPlans.{by_place}
use Rattle.hv_flow_plan.proofs.StmtLemmas.{tests_plan, tests_counted}

abbrev counted : CoreStmt → ℕ
counted x = length (declared_in x)

module _ (tree : Core) (locals : List Local) where
  -- what a declaration does with a place is shown as what a call does
  root_same : (n : ℕ) (e : StaticPath → FlowEvent) (o : Option ℕ) (root : Name) (steps : CoreSteps) →
      plan_of (events.on_root tree locals (λ p at. events.declaring n (e p) at) o root steps) ≡ plan_of (events.on_root tree locals (λ p at. events.mark (e p) at) o root steps)
  root_same n e None root steps = refl
  root_same n e (Some k) root steps = refl

  read_same : (n : ℕ) (x : CoreExpr) →
      plan_of (events.expr_events tree locals (λ p root. events.declaring n (event.OpenRead p) root) x) ≡ plan_of (events.expr_events tree locals (exprs.doing_by doing.Read) x)
  read_same n (Number at z) = refl
  read_same n (Truth at b) = refl
  read_same n (Path at root steps) = ap (λ o. op.Then ∷ (plan_of (events.index_events tree locals steps) ++ o)) (root_same n event.OpenRead (number_in locals root.text) root steps)
  read_same n (Calls at call) = refl
  read_same n (Awaits at name) = refl
  read_same n (Array at xs) = refl
  read_same n (Filled at len value) = refl
  read_same n (Count at root steps) = refl
  read_same n (Lambda at captures params result body) = refl
  read_same n (Prefix at o x) = refl
  read_same n (Chain at first links) = refl

  write_same : (n : ℕ) (q : Name × CoreSteps) →
      plan_of (events.place_events tree locals (λ p root. events.declaring n (event.OpenWrite p) root) q.0 q.1) ≡ plan_of (events.place_events tree locals (exprs.doing_by doing.Write) q.0 q.1)
  write_same n q = ap (λ o. op.Then ∷ (plan_of (events.index_events tree locals q.1) ++ o)) (root_same n event.OpenWrite (number_in locals q.0.text) q.0 q.1)

  abbrev planned : ℕ → CoreStmt → List FlowOp
  planned n x = plan_of (events.stmt_events tree locals (plans.around n) x)

  -- ---- plans

  pub stmt_var : (n : ℕ) (s : Stmt) (name : Name) (t : Ty) (value : Option Expr) → (out-Stmt s).kind ≡ stmt.Var name t value → plans.plan_stmt tree locals n s ≡ plans.plan_var tree locals n name value
  stmt_var n s name t None h = ap (planned n) (lemmas.stmt_var s name t h)
  stmt_var n s name t (Some x) h = ap (planned n) (lemmas.stmt_var_with s name t x h)

  pub stmt_let : (n : ℕ) (s : Stmt) (name : Name) (t : Ty) (x : Expr) → (out-Stmt s).kind ≡ stmt.Let name t x → plans.plan_stmt tree locals n s ≡ plans.plan_let tree locals n name x
  stmt_let n s name t x h = ap (planned n) (lemmas.stmt_let s name t x h) ∙ ap (λ o. op.Then ∷ (o ++ plans.declared_plan n name)) (read_same n (core_of x))

  pub stmt_inout : (n : ℕ) (s : Stmt) (name : Name) (t : Ty) (p : PlaceExpr) → (out-Stmt s).kind ≡ stmt.Inout name t p → plans.plan_stmt tree locals n s ≡ plans.plan_inout tree locals n name p
  stmt_inout n s name t p h =
      ap (planned n) (lemmas.stmt_inout s name t p h) ∙ ap (λ o. op.Then ∷ (o ++ plans.declared_plan n name)) (write_same n (core_place p) ∙ by_place tree locals doing.Write p)

  pub stmt_assign : (n : ℕ) (s : Stmt) (p : PlaceExpr) (x : Expr) → (out-Stmt s).kind ≡ stmt.Assign p x → plans.plan_stmt tree locals n s ≡ plans.plan_assign tree locals p x
  stmt_assign n s p x h = ap (planned n) (lemmas.stmt_assign s p x h) ∙ ap (λ o. op.Then ∷ (exprs.plan_expr tree locals doing.Use x ++ o)) (by_place tree locals doing.Init p)

  pub stmt_if : (n : ℕ) (s : Stmt) (branches : List Branch) (otherwise : Option Block) → (out-Stmt s).kind ≡ stmt.If branches otherwise →
      plans.plan_stmt tree locals n s ≡ plans.plan_tests tree locals n branches ++ plans.plan_else tree locals (n + plans.tests_locals branches) otherwise
  stmt_if n s branches otherwise h = ap (planned n) (lemmas.stmt_if s branches otherwise h) ∙ tests_plan tree locals n otherwise branches

  pub stmt_while : (n : ℕ) (s : Stmt) (test : Expr) (body : Block) → (out-Stmt s).kind ≡ stmt.While test body → plans.plan_stmt tree locals n s ≡ plans.plan_while tree locals n test body
  stmt_while n s test body h =
      ap (planned n) (lemmas.stmt_while s test body h)
      ∙ ap (λ o. op.Then ∷ (op.Loop ∷ (op.Then ∷ o))) (append_assoc (exprs.plan_expr tree locals doing.Use test) (plans.plan_block tree locals n body) (exprs.plan_expr tree locals doing.Use test))

  pub stmt_return : (n : ℕ) (s : Stmt) (value : Option Expr) → (out-Stmt s).kind ≡ stmt.Return value → plans.plan_stmt tree locals n s ≡ plans.plan_return tree locals (out-Stmt s).place value
  stmt_return n s None h = ap (planned n) (lemmas.stmt_return s h)
  stmt_return n s (Some x) h = ap (planned n) (lemmas.stmt_return_with s x h)

  pub stmt_print : (n : ℕ) (s : Stmt) (x : Expr) → (out-Stmt s).kind ≡ stmt.Print x → plans.plan_stmt tree locals n s ≡ exprs.plan_expr tree locals doing.Use x
  stmt_print n s x h = ap (planned n) (lemmas.stmt_print s x h)

  pub stmt_task : (n : ℕ) (s : Stmt) (handle : Name) (t : Option Ty) (spawn : Place) (budget : Expr) (c : Call) → (out-Stmt s).kind ≡ stmt.Task handle t spawn budget c →
      plans.plan_stmt tree locals n s ≡ plans.plan_task tree locals n spawn budget c
  stmt_task n s handle t spawn budget c h = ap (planned n) (lemmas.stmt_task s handle t spawn budget c h)

  pub stmt_await : (n : ℕ) (s : Stmt) (name : Name) → (out-Stmt s).kind ≡ stmt.Await name → plans.plan_stmt tree locals n s ≡ exprs.plan_handle tree locals event.Await name (out-Stmt s).place
  stmt_await n s name h = ap (planned n) (lemmas.stmt_await s name h)

  pub stmt_call : (n : ℕ) (s : Stmt) (c : Call) → (out-Stmt s).kind ≡ stmt.Call c → plans.plan_stmt tree locals n s ≡ exprs.plan_call tree locals way.Calling c
  stmt_call n s c h = ap (planned n) (lemmas.stmt_call s c h)

  pub stmt_block : (n : ℕ) (s : Stmt) (b : Block) → (out-Stmt s).kind ≡ stmt.Block b → plans.plan_stmt tree locals n s ≡ plans.plan_block tree locals n b
  stmt_block n s b h = ap (planned n) (lemmas.stmt_block s b h)

-- ---- how many locals

pub count_var : (s : Stmt) (name : Name) (t : Ty) (value : Option Expr) → (out-Stmt s).kind ≡ stmt.Var name t value → plans.stmt_locals s ≡ 1
count_var s name t None h = ap counted (lemmas.stmt_var s name t h)
count_var s name t (Some x) h = ap counted (lemmas.stmt_var_with s name t x h)

pub count_let : (s : Stmt) (name : Name) (t : Ty) (x : Expr) → (out-Stmt s).kind ≡ stmt.Let name t x → plans.stmt_locals s ≡ 1
count_let s name t x h = ap counted (lemmas.stmt_let s name t x h)

pub count_inout : (s : Stmt) (name : Name) (t : Ty) (p : PlaceExpr) → (out-Stmt s).kind ≡ stmt.Inout name t p → plans.stmt_locals s ≡ 1
count_inout s name t p h = ap counted (lemmas.stmt_inout s name t p h)

pub count_assign : (s : Stmt) (p : PlaceExpr) (x : Expr) → (out-Stmt s).kind ≡ stmt.Assign p x → plans.stmt_locals s ≡ 0
count_assign s p x h = ap counted (lemmas.stmt_assign s p x h)

pub count_if : (s : Stmt) (branches : List Branch) (otherwise : Option Block) → (out-Stmt s).kind ≡ stmt.If branches otherwise → plans.stmt_locals s ≡ plans.tests_locals branches + plans.else_locals otherwise
count_if s branches otherwise h = ap counted (lemmas.stmt_if s branches otherwise h) ∙ tests_counted otherwise branches

pub count_while : (s : Stmt) (test : Expr) (body : Block) → (out-Stmt s).kind ≡ stmt.While test body → plans.stmt_locals s ≡ plans.block_locals body
count_while s test body h = ap counted (lemmas.stmt_while s test body h)

pub count_return : (s : Stmt) (value : Option Expr) → (out-Stmt s).kind ≡ stmt.Return value → plans.stmt_locals s ≡ 0
count_return s None h = ap counted (lemmas.stmt_return s h)
count_return s (Some x) h = ap counted (lemmas.stmt_return_with s x h)

pub count_print : (s : Stmt) (x : Expr) → (out-Stmt s).kind ≡ stmt.Print x → plans.stmt_locals s ≡ 0
count_print s x h = ap counted (lemmas.stmt_print s x h)

pub count_task : (s : Stmt) (handle : Name) (t : Option Ty) (spawn : Place) (budget : Expr) (c : Call) → (out-Stmt s).kind ≡ stmt.Task handle t spawn budget c → plans.stmt_locals s ≡ 1
count_task s handle t spawn budget c h = ap counted (lemmas.stmt_task s handle t spawn budget c h)

pub count_await : (s : Stmt) (name : Name) → (out-Stmt s).kind ≡ stmt.Await name → plans.stmt_locals s ≡ 0
count_await s name h = ap counted (lemmas.stmt_await s name h)

pub count_call : (s : Stmt) (c : Call) → (out-Stmt s).kind ≡ stmt.Call c → plans.stmt_locals s ≡ 0
count_call s c h = ap counted (lemmas.stmt_call s c h)

pub count_block : (s : Stmt) (b : Block) → (out-Stmt s).kind ≡ stmt.Block b → plans.stmt_locals s ≡ plans.block_locals b
count_block s b h = ap counted (lemmas.stmt_block s b h)
