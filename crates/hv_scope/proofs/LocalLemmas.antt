-- The locals that each statement declares, by its variant.
use Rattle.std.proofs.Common.{◌≡◌, List, [], ◌∷◌, ◌++◌, Option, Some, None, refl, sym, ap, ◌∙◌, append_assoc}
use Rattle.hv_tree.specs.declared.place.Place.{Place}
use Rattle.hv_tree.specs.declared.types.Name.{Name}
use Rattle.hv_tree.specs.declared.types.Ty.{Ty}
use Rattle.hv_tree.specs.declared.ast.Block.{Block, out-Block}
use Rattle.hv_tree.specs.declared.ast.Branch.{Branch, out-Branch}
use Rattle.hv_tree.specs.declared.ast.Call.{Call}
use Rattle.hv_tree.specs.declared.ast.Expr.{Expr}
use Rattle.hv_tree.specs.declared.ast.PlaceExpr.{PlaceExpr}
use Rattle.hv_tree.specs.declared.ast.Stmt.{Stmt, out-Stmt}
use Rattle.hv_tree.specs.declared.ast.StmtKind.TheVariants as stmt
use Rattle.hv_tree.specs.Core.{core_ty, core_option_ty, core_stmt, core_stmts, core_block, core_branches}
use Rattle.hv_tree.proofs.CoreLemmas as lemmas
use Rattle.hv_decls.specs.Types.{option_meant}
use Rattle.hv_decls.specs.Locals.{VarBound, LetBound, InoutBound, Handle, local, declared_in, in_block, in_branches, in_stmts}
use Rattle.hv_scope.specs.Known.{typed}
use Rattle.hv_scope.specs.Blocks.{tests_declare, else_declares}

meant_same : (t : Option Ty) → option_meant (core_option_ty t) ≡ typed t
meant_same None = refl
meant_same (Some t) = refl

pub declares_var : (s : Stmt) (name : Name) (t : Ty) (value : Option Expr) → (out-Stmt s).kind ≡ stmt.Var name t value → declared_in (core_stmt s) ≡ local VarBound name (core_ty t) ∷ []
declares_var s name t None h = ap declared_in (lemmas.stmt_var s name t h)
declares_var s name t (Some x) h = ap declared_in (lemmas.stmt_var_with s name t x h)

pub declares_let : (s : Stmt) (name : Name) (t : Ty) (x : Expr) → (out-Stmt s).kind ≡ stmt.Let name t x → declared_in (core_stmt s) ≡ local LetBound name (core_ty t) ∷ []
declares_let s name t x h = ap declared_in (lemmas.stmt_let s name t x h)

pub declares_inout : (s : Stmt) (name : Name) (t : Ty) (p : PlaceExpr) → (out-Stmt s).kind ≡ stmt.Inout name t p → declared_in (core_stmt s) ≡ local InoutBound name (core_ty t) ∷ []
declares_inout s name t p h = ap declared_in (lemmas.stmt_inout s name t p h)

pub declares_assign : (s : Stmt) (p : PlaceExpr) (x : Expr) → (out-Stmt s).kind ≡ stmt.Assign p x → declared_in (core_stmt s) ≡ []
declares_assign s p x h = ap declared_in (lemmas.stmt_assign s p x h)

-- the blocks of an `if`
else_same : (otherwise : Option Block) → in_branches (core_branches [] otherwise) ≡ else_declares otherwise
else_same None = refl
else_same (Some b) = refl

branches_same : (otherwise : Option Block) (branches : List Branch) → in_branches (core_branches branches otherwise) ≡ tests_declare branches ++ else_declares otherwise
branches_same otherwise [] = else_same otherwise
branches_same otherwise (b ∷ rest) =
    ap in_branches (lemmas.opened_branch b (core_branches rest otherwise))
    ∙ ap (λ l. in_block (core_block (out-Branch b).body) ++ l) (branches_same otherwise rest)
    ∙ sym (append_assoc (in_block (core_block (out-Branch b).body)) (tests_declare rest) (else_declares otherwise))

pub declares_if : (s : Stmt) (branches : List Branch) (otherwise : Option Block) → (out-Stmt s).kind ≡ stmt.If branches otherwise → declared_in (core_stmt s) ≡ tests_declare branches ++ else_declares otherwise
declares_if s branches otherwise h = ap declared_in (lemmas.stmt_if s branches otherwise h) ∙ branches_same otherwise branches

pub declares_while : (s : Stmt) (test : Expr) (body : Block) → (out-Stmt s).kind ≡ stmt.While test body → declared_in (core_stmt s) ≡ in_block (core_block body)
declares_while s test body h = ap declared_in (lemmas.stmt_while s test body h)

pub declares_return : (s : Stmt) (value : Option Expr) → (out-Stmt s).kind ≡ stmt.Return value → declared_in (core_stmt s) ≡ []
declares_return s None h = ap declared_in (lemmas.stmt_return s h)
declares_return s (Some x) h = ap declared_in (lemmas.stmt_return_with s x h)

pub declares_print : (s : Stmt) (x : Expr) → (out-Stmt s).kind ≡ stmt.Print x → declared_in (core_stmt s) ≡ []
declares_print s x h = ap declared_in (lemmas.stmt_print s x h)

pub declares_task : (s : Stmt) (name : Name) (t : Option Ty) (spawn : Place) (budget : Expr) (c : Call) → (out-Stmt s).kind ≡ stmt.Task name t spawn budget c →
    declared_in (core_stmt s) ≡ record { name = name; kind = Handle; ty = typed t } ∷ []
declares_task s name t spawn budget c h =
    ap declared_in (lemmas.stmt_task s name t spawn budget c h) ∙ ap (λ u. record { name = name; kind = Handle; ty = u } ∷ []) (meant_same t)

pub declares_await : (s : Stmt) (name : Name) → (out-Stmt s).kind ≡ stmt.Await name → declared_in (core_stmt s) ≡ []
declares_await s name h = ap declared_in (lemmas.stmt_await s name h)

pub declares_call : (s : Stmt) (c : Call) → (out-Stmt s).kind ≡ stmt.Call c → declared_in (core_stmt s) ≡ []
declares_call s c h = ap declared_in (lemmas.stmt_call s c h)

pub declares_block : (s : Stmt) (b : Block) → (out-Stmt s).kind ≡ stmt.Block b → declared_in (core_stmt s) ≡ in_block (core_block b)
declares_block s b h = ap declared_in (lemmas.stmt_block s b h)

pub block_declares : (b : Block) → in_block (core_block b) ≡ in_stmts (core_stmts (out-Block b).stmts)
block_declares b = ap in_block (lemmas.opened_block b)
