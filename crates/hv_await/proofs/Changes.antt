-- The tasks that would change what their caller has, in each statement by its variant.
use Rattle.std.proofs.Common.{◌≡◌, ℕ, ◌+◌, ◌<◌, true, false, List, [], ◌∷◌, ◌++◌, length, drop, get_or, Option, Some, None, refl, sym, ap, ◌∙◌, append_assoc}
use Rattle.hv_tree.specs.declared.place.Place.{Place}
use Rattle.hv_tree.specs.declared.refusal.Rule.TheVariants as rule
use Rattle.hv_tree.specs.declared.refusal.Refusal.{Refusal}
use Rattle.hv_tree.specs.declared.types.Name.{Name}
use Rattle.hv_tree.specs.declared.types.Ty.{Ty}
use Rattle.hv_tree.specs.declared.ast.Block.{Block, out-Block}
use Rattle.hv_tree.specs.declared.ast.Branch.{Branch, out-Branch}
use Rattle.hv_tree.specs.declared.ast.Call.{Call, out-Call}
use Rattle.hv_tree.specs.declared.ast.Expr.{Expr}
use Rattle.hv_tree.specs.declared.ast.PlaceExpr.{PlaceExpr, out-PlaceExpr}
use Rattle.hv_tree.specs.declared.ast.Stmt.{Stmt, out-Stmt}
use Rattle.hv_tree.specs.declared.ast.StmtKind.TheVariants as stmt
use Rattle.hv_tree.specs.Core.{Core, CoreSteps, core_steps, core_stmt, core_branches}
use Rattle.hv_tree.proofs.CoreLemmas as lemmas
use Rattle.hv_decls.specs.Locals.{Local, binds, listed}
use Rattle.hv_lemmas.proofs.Lists.{first_left}
use Rattle.hv_await.specs.Acts.{refusal}
use Rattle.hv_await.specs.Changing as spec

module _ (tree : Core) (v : List Local) where
  abbrev by_place : Name × CoreSteps → List Refusal
  by_place q = spec.if_so (spec.takes_change tree v q.0 q.1) (refusal rule.S3 q.0.place)

  pub call_opened : (c : Call) →
      spec.changes_in_call tree v c
      ≡ spec.if_so (spec.takes_change tree v (out-PlaceExpr (out-Call c).callee).root (core_steps (out-PlaceExpr (out-Call c).callee).steps)) (refusal rule.S3 (out-PlaceExpr (out-Call c).callee).root.place)
  call_opened c = ap (spec.call_changes tree v) (lemmas.opened_call c) ∙ ap by_place (lemmas.opened_place (out-Call c).callee)

  pub call_changing : (c : Call) → spec.takes_change tree v (out-PlaceExpr (out-Call c).callee).root (core_steps (out-PlaceExpr (out-Call c).callee).steps) ≡ true →
      spec.changes_in_call tree v c ≡ refusal rule.S3 (out-PlaceExpr (out-Call c).callee).root.place ∷ []
  call_changing c e = call_opened c ∙ ap (λ b. spec.if_so b (refusal rule.S3 (out-PlaceExpr (out-Call c).callee).root.place)) e

  pub call_unchanging : (c : Call) → spec.takes_change tree v (out-PlaceExpr (out-Call c).callee).root (core_steps (out-PlaceExpr (out-Call c).callee).steps) ≡ false → spec.changes_in_call tree v c ≡ []
  call_unchanging c e = call_opened c ∙ ap (λ b. spec.if_so b (refusal rule.S3 (out-PlaceExpr (out-Call c).callee).root.place)) e

  pub block_opened : (b : Block) → spec.changes_in_block tree v b ≡ spec.changes_in_stmts tree v (out-Block b).stmts
  block_opened b = ap (spec.block_changes tree v) (lemmas.opened_block b)

  else_same : (otherwise : Option Block) → spec.branch_changes tree v (core_branches [] otherwise) ≡ spec.changes_in_else tree v otherwise
  else_same None = refl
  else_same (Some b) = refl

  branches_same : (otherwise : Option Block) (branches : List Branch) → spec.branch_changes tree v (core_branches branches otherwise) ≡ spec.changes_in_tests tree v branches ++ spec.changes_in_else tree v otherwise
  branches_same otherwise [] = else_same otherwise
  branches_same otherwise (b ∷ rest) =
      ap (spec.branch_changes tree v) (lemmas.opened_branch b (core_branches rest otherwise))
      ∙ ap (λ l. spec.changes_in_block tree v (out-Branch b).body ++ l) (branches_same otherwise rest)
      ∙ sym (append_assoc (spec.changes_in_block tree v (out-Branch b).body) (spec.changes_in_tests tree v rest) (spec.changes_in_else tree v otherwise))

  pub changes_var : (s : Stmt) (name : Name) (t : Ty) (value : Option Expr) → (out-Stmt s).kind ≡ stmt.Var name t value → spec.changes_in_stmt tree v s ≡ []
  changes_var s name t None h = ap (spec.stmt_changes tree v) (lemmas.stmt_var s name t h)
  changes_var s name t (Some x) h = ap (spec.stmt_changes tree v) (lemmas.stmt_var_with s name t x h)

  pub changes_let : (s : Stmt) (name : Name) (t : Ty) (x : Expr) → (out-Stmt s).kind ≡ stmt.Let name t x → spec.changes_in_stmt tree v s ≡ []
  changes_let s name t x h = ap (spec.stmt_changes tree v) (lemmas.stmt_let s name t x h)

  pub changes_inout : (s : Stmt) (name : Name) (t : Ty) (p : PlaceExpr) → (out-Stmt s).kind ≡ stmt.Inout name t p → spec.changes_in_stmt tree v s ≡ []
  changes_inout s name t p h = ap (spec.stmt_changes tree v) (lemmas.stmt_inout s name t p h)

  pub changes_assign : (s : Stmt) (p : PlaceExpr) (x : Expr) → (out-Stmt s).kind ≡ stmt.Assign p x → spec.changes_in_stmt tree v s ≡ []
  changes_assign s p x h = ap (spec.stmt_changes tree v) (lemmas.stmt_assign s p x h)

  pub changes_if : (s : Stmt) (branches : List Branch) (otherwise : Option Block) → (out-Stmt s).kind ≡ stmt.If branches otherwise → spec.changes_in_stmt tree v s ≡ spec.changes_in_tests tree v branches ++ spec.changes_in_else tree v otherwise
  changes_if s branches otherwise h = ap (spec.stmt_changes tree v) (lemmas.stmt_if s branches otherwise h) ∙ branches_same otherwise branches

  pub changes_while : (s : Stmt) (test : Expr) (body : Block) → (out-Stmt s).kind ≡ stmt.While test body → spec.changes_in_stmt tree v s ≡ spec.changes_in_block tree v body
  changes_while s test body h = ap (spec.stmt_changes tree v) (lemmas.stmt_while s test body h)

  pub changes_return : (s : Stmt) (value : Option Expr) → (out-Stmt s).kind ≡ stmt.Return value → spec.changes_in_stmt tree v s ≡ []
  changes_return s None h = ap (spec.stmt_changes tree v) (lemmas.stmt_return s h)
  changes_return s (Some x) h = ap (spec.stmt_changes tree v) (lemmas.stmt_return_with s x h)

  pub changes_print : (s : Stmt) (x : Expr) → (out-Stmt s).kind ≡ stmt.Print x → spec.changes_in_stmt tree v s ≡ []
  changes_print s x h = ap (spec.stmt_changes tree v) (lemmas.stmt_print s x h)

  pub changes_task : (s : Stmt) (handle : Name) (t : Option Ty) (spawn : Place) (budget : Expr) (c : Call) → (out-Stmt s).kind ≡ stmt.Task handle t spawn budget c → spec.changes_in_stmt tree v s ≡ spec.changes_in_call tree v c
  changes_task s handle t spawn budget c h = ap (spec.stmt_changes tree v) (lemmas.stmt_task s handle t spawn budget c h)

  pub changes_await : (s : Stmt) (name : Name) → (out-Stmt s).kind ≡ stmt.Await name → spec.changes_in_stmt tree v s ≡ []
  changes_await s name h = ap (spec.stmt_changes tree v) (lemmas.stmt_await s name h)

  pub changes_call : (s : Stmt) (c : Call) → (out-Stmt s).kind ≡ stmt.Call c → spec.changes_in_stmt tree v s ≡ []
  changes_call s c h = ap (spec.stmt_changes tree v) (lemmas.stmt_call s c h)

  pub changes_block : (s : Stmt) (b : Block) → (out-Stmt s).kind ≡ stmt.Block b → spec.changes_in_stmt tree v s ≡ spec.changes_in_block tree v b
  changes_block s b h = ap (spec.stmt_changes tree v) (lemmas.stmt_block s b h)

  pub stmts_next : (stmts : List Stmt) (i : ℕ) (s : Stmt) → i < length stmts → s ≡ get_or stmts i s →
      spec.changes_in_stmts tree v (drop i stmts) ≡ spec.changes_in_stmt tree v s ++ spec.changes_in_stmts tree (listed (binds (core_stmt s)) ++ v) (drop (i + 1) stmts)
  stmts_next stmts i s within is = ap (λ w. spec.changes_in_stmts tree v w) (first_left stmts i s within is)
