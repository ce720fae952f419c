-- The local that each statement binds, by its variant.
use Rattle.std.proofs.Common.{◌≡◌, List, [], ◌∷◌, Option, Some, None, refl, ap, ◌∙◌}
use Rattle.hv_tree.specs.declared.place.Place.{Place}
use Rattle.hv_tree.specs.declared.types.Name.{Name}
use Rattle.hv_tree.specs.declared.types.Ty.{Ty}
use Rattle.hv_tree.specs.declared.ast.Block.{Block}
use Rattle.hv_tree.specs.declared.ast.Branch.{Branch}
use Rattle.hv_tree.specs.declared.ast.Call.{Call}
use Rattle.hv_tree.specs.declared.ast.Expr.{Expr}
use Rattle.hv_tree.specs.declared.ast.PlaceExpr.{PlaceExpr}
use Rattle.hv_tree.specs.declared.ast.Stmt.{Stmt, out-Stmt}
use Rattle.hv_tree.specs.declared.ast.StmtKind.TheVariants as stmt
use Rattle.hv_tree.specs.Core.{CoreStmt, core_ty, core_option_ty, core_stmt}
use Rattle.hv_tree.proofs.CoreLemmas as lemmas
use Rattle.hv_decls.specs.Types.{option_meant}
use Rattle.hv_decls.specs.Locals.{VarBound, LetBound, InoutBound, Handle, Local, local, binds, listed}
use Rattle.hv_scope.specs.Known.{typed}

meant_same : (t : Option Ty) → option_meant (core_option_ty t) ≡ typed t
meant_same None = refl
meant_same (Some t) = refl

abbrev bound : CoreStmt → List Local
bound x = listed (binds x)

pub binds_var : (s : Stmt) (name : Name) (t : Ty) (value : Option Expr) → (out-Stmt s).kind ≡ stmt.Var name t value → bound (core_stmt s) ≡ local VarBound name (core_ty t) ∷ []
binds_var s name t None h = ap bound (lemmas.stmt_var s name t h)
binds_var s name t (Some x) h = ap bound (lemmas.stmt_var_with s name t x h)

pub binds_let : (s : Stmt) (name : Name) (t : Ty) (x : Expr) → (out-Stmt s).kind ≡ stmt.Let name t x → bound (core_stmt s) ≡ local LetBound name (core_ty t) ∷ []
binds_let s name t x h = ap bound (lemmas.stmt_let s name t x h)

pub binds_inout : (s : Stmt) (name : Name) (t : Ty) (p : PlaceExpr) → (out-Stmt s).kind ≡ stmt.Inout name t p → bound (core_stmt s) ≡ local InoutBound name (core_ty t) ∷ []
binds_inout s name t p h = ap bound (lemmas.stmt_inout s name t p h)

pub binds_task : (s : Stmt) (name : Name) (t : Option Ty) (spawn : Place) (budget : Expr) (c : Call) → (out-Stmt s).kind ≡ stmt.Task name t spawn budget c →
    bound (core_stmt s) ≡ record { name = name; kind = Handle; ty = typed t } ∷ []
binds_task s name t spawn budget c h = ap bound (lemmas.stmt_task s name t spawn budget c h) ∙ ap (λ u. record { name = name; kind = Handle; ty = u } ∷ []) (meant_same t)

pub binds_assign : (s : Stmt) (p : PlaceExpr) (x : Expr) → (out-Stmt s).kind ≡ stmt.Assign p x → bound (core_stmt s) ≡ []
binds_assign s p x h = ap bound (lemmas.stmt_assign s p x h)

pub binds_if : (s : Stmt) (branches : List Branch) (otherwise : Option Block) → (out-Stmt s).kind ≡ stmt.If branches otherwise → bound (core_stmt s) ≡ []
binds_if s branches otherwise h = ap bound (lemmas.stmt_if s branches otherwise h)

pub binds_while : (s : Stmt) (test : Expr) (body : Block) → (out-Stmt s).kind ≡ stmt.While test body → bound (core_stmt s) ≡ []
binds_while s test body h = ap bound (lemmas.stmt_while s test body h)

pub binds_return : (s : Stmt) (value : Option Expr) → (out-Stmt s).kind ≡ stmt.Return value → bound (core_stmt s) ≡ []
binds_return s None h = ap bound (lemmas.stmt_return s h)
binds_return s (Some x) h = ap bound (lemmas.stmt_return_with s x h)

pub binds_print : (s : Stmt) (x : Expr) → (out-Stmt s).kind ≡ stmt.Print x → bound (core_stmt s) ≡ []
binds_print s x h = ap bound (lemmas.stmt_print s x h)

pub binds_await : (s : Stmt) (name : Name) → (out-Stmt s).kind ≡ stmt.Await name → bound (core_stmt s) ≡ []
binds_await s name h = ap bound (lemmas.stmt_await s name h)

pub binds_call : (s : Stmt) (c : Call) → (out-Stmt s).kind ≡ stmt.Call c → bound (core_stmt s) ≡ []
binds_call s c h = ap bound (lemmas.stmt_call s c h)

pub binds_block : (s : Stmt) (b : Block) → (out-Stmt s).kind ≡ stmt.Block b → bound (core_stmt s) ≡ []
binds_block s b h = ap bound (lemmas.stmt_block s b h)
