-- What each statement declares and ends, by its variant.
use Rattle.std.proofs.Common.{◌≡◌, ℕ, ◌+◌, List, [], ◌∷◌, ◌++◌, length, drop, get_or, ◌<◌, Option, Some, None, refl, sym, ap, ◌∙◌, arith, length-append, append_assoc}
use Rattle.hv_tree.specs.declared.place.Place.{Place}
use Rattle.hv_tree.specs.declared.types.Name.{Name}
use Rattle.hv_tree.specs.declared.types.Ty.{Ty}
use Rattle.hv_tree.specs.declared.ast.Block.{Block, out-Block}
use Rattle.hv_tree.specs.declared.ast.Branch.{Branch, out-Branch}
use Rattle.hv_tree.specs.declared.ast.Call.{Call}
use Rattle.hv_tree.specs.declared.ast.Expr.{Expr}
use Rattle.hv_tree.specs.declared.ast.PlaceExpr.{PlaceExpr}
use Rattle.hv_tree.specs.declared.ast.Stmt.{Stmt, out-Stmt}
use Rattle.hv_tree.specs.declared.ast.StmtKind.TheVariants as stmt
use Rattle.hv_tree.specs.Core.{CoreStmt, CoreBranches, core_stmt, core_stmts, core_block, core_branches}
use Rattle.hv_tree.proofs.CoreLemmas as lemmas
use Rattle.hv_decls.specs.Locals.{binds, declared_in, in_block, in_stmts}
use Rattle.hv_rules.specs.Events.{Belongs, if_kind, is_written_back, is_handle}
use Rattle.hv_scope.specs.Blocks.{tests_declare, else_declares}
use Rattle.hv_scope.proofs.LocalLemmas as locals
use Rattle.hv_lemmas.proofs.Lists.{first_left}
use Rattle.hv_flow_ends.specs.declared.walk.Opened.{Opened}
use Rattle.hv_flow_ends.specs.Walked as spec

-- ---- how many locals

tests_same : (branches : List Branch) → length (tests_declare branches) ≡ spec.tests_locals branches
tests_same [] = refl
tests_same (b ∷ rest) = length-append (in_block (core_block (out-Branch b).body)) (tests_declare rest) ∙ ap (λ k. spec.block_locals (out-Branch b).body + k) (tests_same rest)

else_same : (otherwise : Option Block) → length (else_declares otherwise) ≡ spec.else_locals otherwise
else_same None = refl
else_same (Some b) = refl

if_same : (branches : List Branch) (otherwise : Option Block) → length (tests_declare branches ++ else_declares otherwise) ≡ spec.tests_locals branches + spec.else_locals otherwise
if_same branches otherwise =
    length-append (tests_declare branches) (else_declares otherwise) ∙ ap (λ k. k + length (else_declares otherwise)) (tests_same branches) ∙ ap (λ k. spec.tests_locals branches + k) (else_same otherwise)

pub block_counted : (b : Block) → spec.block_locals b ≡ spec.stmts_locals (out-Block b).stmts
block_counted b = ap length (locals.block_declares b)

pub stmts_counted : (stmts : List Stmt) (i : ℕ) (s : Stmt) → i < length stmts → s ≡ get_or stmts i s → spec.stmts_locals (drop i stmts) ≡ spec.stmt_locals s + spec.stmts_locals (drop (i + 1) stmts)
stmts_counted stmts i s within is = ap spec.stmts_locals (first_left stmts i s within is) ∙ length-append (declared_in (core_stmt s)) (in_stmts (core_stmts (drop (i + 1) stmts)))

pub tests_counted : (branches : List Branch) (i : ℕ) (b : Branch) → i < length branches → b ≡ get_or branches i b →
    spec.tests_locals (drop i branches) ≡ spec.block_locals (out-Branch b).body + spec.tests_locals (drop (i + 1) branches)
tests_counted branches i b within is = ap spec.tests_locals (first_left branches i b within is)

pub count_var : (s : Stmt) (name : Name) (t : Ty) (value : Option Expr) → (out-Stmt s).kind ≡ stmt.Var name t value → spec.stmt_locals s ≡ 1
count_var s name t value h = ap length (locals.declares_var s name t value h)

pub count_let : (s : Stmt) (name : Name) (t : Ty) (x : Expr) → (out-Stmt s).kind ≡ stmt.Let name t x → spec.stmt_locals s ≡ 1
count_let s name t x h = ap length (locals.declares_let s name t x h)

pub count_inout : (s : Stmt) (name : Name) (t : Ty) (p : PlaceExpr) → (out-Stmt s).kind ≡ stmt.Inout name t p → spec.stmt_locals s ≡ 1
count_inout s name t p h = ap length (locals.declares_inout s name t p h)

pub count_assign : (s : Stmt) (p : PlaceExpr) (x : Expr) → (out-Stmt s).kind ≡ stmt.Assign p x → spec.stmt_locals s ≡ 0
count_assign s p x h = ap length (locals.declares_assign s p x h)

pub count_if : (s : Stmt) (branches : List Branch) (otherwise : Option Block) → (out-Stmt s).kind ≡ stmt.If branches otherwise → spec.stmt_locals s ≡ spec.tests_locals branches + spec.else_locals otherwise
count_if s branches otherwise h = ap length (locals.declares_if s branches otherwise h) ∙ if_same branches otherwise

pub count_while : (s : Stmt) (test : Expr) (body : Block) → (out-Stmt s).kind ≡ stmt.While test body → spec.stmt_locals s ≡ spec.block_locals body
count_while s test body h = ap length (locals.declares_while s test body h)

pub count_return : (s : Stmt) (value : Option Expr) → (out-Stmt s).kind ≡ stmt.Return value → spec.stmt_locals s ≡ 0
count_return s value h = ap length (locals.declares_return s value h)

pub count_print : (s : Stmt) (x : Expr) → (out-Stmt s).kind ≡ stmt.Print x → spec.stmt_locals s ≡ 0
count_print s x h = ap length (locals.declares_print s x h)

pub count_task : (s : Stmt) (handle : Name) (t : Option Ty) (spawn : Place) (budget : Expr) (c : Call) → (out-Stmt s).kind ≡ stmt.Task handle t spawn budget c → spec.stmt_locals s ≡ 1
count_task s handle t spawn budget c h = ap length (locals.declares_task s handle t spawn budget c h)

pub count_await : (s : Stmt) (name : Name) → (out-Stmt s).kind ≡ stmt.Await name → spec.stmt_locals s ≡ 0
count_await s name h = ap length (locals.declares_await s name h)

pub count_call : (s : Stmt) (c : Call) → (out-Stmt s).kind ≡ stmt.Call c → spec.stmt_locals s ≡ 0
count_call s c h = ap length (locals.declares_call s c h)

pub count_block : (s : Stmt) (b : Block) → (out-Stmt s).kind ≡ stmt.Block b → spec.stmt_locals s ≡ spec.block_locals b
count_block s b h = ap length (locals.declares_block s b h)

-- ---- what is written back at the end of its block

abbrev back_by : ℕ → CoreStmt → List ℕ
back_by n x = if_kind is_written_back n (binds x)

pub back_var : (n : ℕ) (s : Stmt) (name : Name) (t : Ty) (value : Option Expr) → (out-Stmt s).kind ≡ stmt.Var name t value → spec.back_more n s ≡ []
back_var n s name t None h = ap (back_by n) (lemmas.stmt_var s name t h)
back_var n s name t (Some x) h = ap (back_by n) (lemmas.stmt_var_with s name t x h)

pub back_let : (n : ℕ) (s : Stmt) (name : Name) (t : Ty) (x : Expr) → (out-Stmt s).kind ≡ stmt.Let name t x → spec.back_more n s ≡ []
back_let n s name t x h = ap (back_by n) (lemmas.stmt_let s name t x h)

pub back_inout : (n : ℕ) (s : Stmt) (name : Name) (t : Ty) (p : PlaceExpr) → (out-Stmt s).kind ≡ stmt.Inout name t p → spec.back_more n s ≡ n ∷ []
back_inout n s name t p h = ap (back_by n) (lemmas.stmt_inout s name t p h)

pub back_assign : (n : ℕ) (s : Stmt) (p : PlaceExpr) (x : Expr) → (out-Stmt s).kind ≡ stmt.Assign p x → spec.back_more n s ≡ []
back_assign n s p x h = ap (back_by n) (lemmas.stmt_assign s p x h)

pub back_if : (n : ℕ) (s : Stmt) (branches : List Branch) (otherwise : Option Block) → (out-Stmt s).kind ≡ stmt.If branches otherwise → spec.back_more n s ≡ []
back_if n s branches otherwise h = ap (back_by n) (lemmas.stmt_if s branches otherwise h)

pub back_while : (n : ℕ) (s : Stmt) (test : Expr) (body : Block) → (out-Stmt s).kind ≡ stmt.While test body → spec.back_more n s ≡ []
back_while n s test body h = ap (back_by n) (lemmas.stmt_while s test body h)

pub back_return : (n : ℕ) (s : Stmt) (value : Option Expr) → (out-Stmt s).kind ≡ stmt.Return value → spec.back_more n s ≡ []
back_return n s None h = ap (back_by n) (lemmas.stmt_return s h)
back_return n s (Some x) h = ap (back_by n) (lemmas.stmt_return_with s x h)

pub back_print : (n : ℕ) (s : Stmt) (x : Expr) → (out-Stmt s).kind ≡ stmt.Print x → spec.back_more n s ≡ []
back_print n s x h = ap (back_by n) (lemmas.stmt_print s x h)

pub back_task : (n : ℕ) (s : Stmt) (handle : Name) (t : Option Ty) (spawn : Place) (budget : Expr) (c : Call) → (out-Stmt s).kind ≡ stmt.Task handle t spawn budget c → spec.back_more n s ≡ []
back_task n s handle t spawn budget c h = ap (back_by n) (lemmas.stmt_task s handle t spawn budget c h)

pub back_await : (n : ℕ) (s : Stmt) (name : Name) → (out-Stmt s).kind ≡ stmt.Await name → spec.back_more n s ≡ []
back_await n s name h = ap (back_by n) (lemmas.stmt_await s name h)

pub back_call : (n : ℕ) (s : Stmt) (c : Call) → (out-Stmt s).kind ≡ stmt.Call c → spec.back_more n s ≡ []
back_call n s c h = ap (back_by n) (lemmas.stmt_call s c h)

pub back_block : (n : ℕ) (s : Stmt) (b : Block) → (out-Stmt s).kind ≡ stmt.Block b → spec.back_more n s ≡ []
back_block n s b h = ap (back_by n) (lemmas.stmt_block s b h)

-- ---- its handle

abbrev handle_by : ℕ → CoreStmt → List ℕ
handle_by n x = if_kind is_handle n (binds x)

pub handle_var : (n : ℕ) (s : Stmt) (name : Name) (t : Ty) (value : Option Expr) → (out-Stmt s).kind ≡ stmt.Var name t value → spec.handle_more n s ≡ []
handle_var n s name t None h = ap (handle_by n) (lemmas.stmt_var s name t h)
handle_var n s name t (Some x) h = ap (handle_by n) (lemmas.stmt_var_with s name t x h)

pub handle_let : (n : ℕ) (s : Stmt) (name : Name) (t : Ty) (x : Expr) → (out-Stmt s).kind ≡ stmt.Let name t x → spec.handle_more n s ≡ []
handle_let n s name t x h = ap (handle_by n) (lemmas.stmt_let s name t x h)

pub handle_inout : (n : ℕ) (s : Stmt) (name : Name) (t : Ty) (p : PlaceExpr) → (out-Stmt s).kind ≡ stmt.Inout name t p → spec.handle_more n s ≡ []
handle_inout n s name t p h = ap (handle_by n) (lemmas.stmt_inout s name t p h)

pub handle_assign : (n : ℕ) (s : Stmt) (p : PlaceExpr) (x : Expr) → (out-Stmt s).kind ≡ stmt.Assign p x → spec.handle_more n s ≡ []
handle_assign n s p x h = ap (handle_by n) (lemmas.stmt_assign s p x h)

pub handle_if : (n : ℕ) (s : Stmt) (branches : List Branch) (otherwise : Option Block) → (out-Stmt s).kind ≡ stmt.If branches otherwise → spec.handle_more n s ≡ []
handle_if n s branches otherwise h = ap (handle_by n) (lemmas.stmt_if s branches otherwise h)

pub handle_while : (n : ℕ) (s : Stmt) (test : Expr) (body : Block) → (out-Stmt s).kind ≡ stmt.While test body → spec.handle_more n s ≡ []
handle_while n s test body h = ap (handle_by n) (lemmas.stmt_while s test body h)

pub handle_return : (n : ℕ) (s : Stmt) (value : Option Expr) → (out-Stmt s).kind ≡ stmt.Return value → spec.handle_more n s ≡ []
handle_return n s None h = ap (handle_by n) (lemmas.stmt_return s h)
handle_return n s (Some x) h = ap (handle_by n) (lemmas.stmt_return_with s x h)

pub handle_print : (n : ℕ) (s : Stmt) (x : Expr) → (out-Stmt s).kind ≡ stmt.Print x → spec.handle_more n s ≡ []
handle_print n s x h = ap (handle_by n) (lemmas.stmt_print s x h)

pub handle_task : (n : ℕ) (s : Stmt) (handle : Name) (t : Option Ty) (spawn : Place) (budget : Expr) (c : Call) → (out-Stmt s).kind ≡ stmt.Task handle t spawn budget c → spec.handle_more n s ≡ n ∷ []
handle_task n s handle t spawn budget c h = ap (handle_by n) (lemmas.stmt_task s handle t spawn budget c h)

pub handle_await : (n : ℕ) (s : Stmt) (name : Name) → (out-Stmt s).kind ≡ stmt.Await name → spec.handle_more n s ≡ []
handle_await n s name h = ap (handle_by n) (lemmas.stmt_await s name h)

pub handle_call : (n : ℕ) (s : Stmt) (c : Call) → (out-Stmt s).kind ≡ stmt.Call c → spec.handle_more n s ≡ []
handle_call n s c h = ap (handle_by n) (lemmas.stmt_call s c h)

pub handle_block : (n : ℕ) (s : Stmt) (b : Block) → (out-Stmt s).kind ≡ stmt.Block b → spec.handle_more n s ≡ []
handle_block n s b h = ap (handle_by n) (lemmas.stmt_block s b h)

-- ---- ends

abbrev ends_by : ℕ → List Opened → CoreStmt → List Belongs
ends_by n around x = spec.stmt_ends (spec.standing n around) x

abbrev branches_by : ℕ → List Opened → CoreBranches → List Belongs
branches_by n around x = spec.branch_ends (spec.standing n around) x

else_ends : (n : ℕ) (around : List Opened) (otherwise : Option Block) → branches_by n around (core_branches [] otherwise) ≡ spec.ends_of_else (n + 0) around otherwise
else_ends n around None = refl
else_ends n around (Some b) = let e : n + 0 ≡ n = omega arith in ap (λ m. spec.ends_of_block m around b) (sym e)

tests_ends : (n : ℕ) (around : List Opened) (otherwise : Option Block) (branches : List Branch) →
    branches_by n around (core_branches branches otherwise) ≡ spec.ends_of_tests n around branches ++ spec.ends_of_else (n + spec.tests_locals branches) around otherwise
tests_ends n around otherwise [] = else_ends n around otherwise
tests_ends n around otherwise (b ∷ rest) =
    let k = spec.block_locals (out-Branch b).body in
    let e : (n + k) + spec.tests_locals rest ≡ n + (k + spec.tests_locals rest) = omega arith in
    ap (branches_by n around) (lemmas.opened_branch b (core_branches rest otherwise))
    ∙ ap (λ l. spec.ends_of_block n around (out-Branch b).body ++ l) (tests_ends (n + k) around otherwise rest ∙ ap (λ m. spec.ends_of_tests (n + k) around rest ++ spec.ends_of_else m around otherwise) e)
    ∙ sym (append_assoc (spec.ends_of_block n around (out-Branch b).body) (spec.ends_of_tests (n + k) around rest) (spec.ends_of_else (n + (k + spec.tests_locals rest)) around otherwise))

pub ends_var : (n : ℕ) (around : List Opened) (s : Stmt) (name : Name) (t : Ty) (value : Option Expr) → (out-Stmt s).kind ≡ stmt.Var name t value → spec.ends_of_stmt n around s ≡ []
ends_var n around s name t None h = ap (ends_by n around) (lemmas.stmt_var s name t h)
ends_var n around s name t (Some x) h = ap (ends_by n around) (lemmas.stmt_var_with s name t x h)

pub ends_let : (n : ℕ) (around : List Opened) (s : Stmt) (name : Name) (t : Ty) (x : Expr) → (out-Stmt s).kind ≡ stmt.Let name t x → spec.ends_of_stmt n around s ≡ []
ends_let n around s name t x h = ap (ends_by n around) (lemmas.stmt_let s name t x h)

pub ends_inout : (n : ℕ) (around : List Opened) (s : Stmt) (name : Name) (t : Ty) (p : PlaceExpr) → (out-Stmt s).kind ≡ stmt.Inout name t p → spec.ends_of_stmt n around s ≡ []
ends_inout n around s name t p h = ap (ends_by n around) (lemmas.stmt_inout s name t p h)

pub ends_assign : (n : ℕ) (around : List Opened) (s : Stmt) (p : PlaceExpr) (x : Expr) → (out-Stmt s).kind ≡ stmt.Assign p x → spec.ends_of_stmt n around s ≡ []
ends_assign n around s p x h = ap (ends_by n around) (lemmas.stmt_assign s p x h)

pub ends_if : (n : ℕ) (around : List Opened) (s : Stmt) (branches : List Branch) (otherwise : Option Block) → (out-Stmt s).kind ≡ stmt.If branches otherwise → spec.ends_of_stmt n around s ≡ spec.ends_of_tests n around branches ++ spec.ends_of_else (n + spec.tests_locals branches) around otherwise
ends_if n around s branches otherwise h = ap (ends_by n around) (lemmas.stmt_if s branches otherwise h) ∙ tests_ends n around otherwise branches

pub ends_while : (n : ℕ) (around : List Opened) (s : Stmt) (test : Expr) (body : Block) → (out-Stmt s).kind ≡ stmt.While test body → spec.ends_of_stmt n around s ≡ spec.ends_of_block n around body
ends_while n around s test body h = ap (ends_by n around) (lemmas.stmt_while s test body h)

pub ends_return : (n : ℕ) (around : List Opened) (s : Stmt) (value : Option Expr) → (out-Stmt s).kind ≡ stmt.Return value → spec.ends_of_stmt n around s ≡ spec.end_at_return around ∷ []
ends_return n around s None h = ap (ends_by n around) (lemmas.stmt_return s h)
ends_return n around s (Some x) h = ap (ends_by n around) (lemmas.stmt_return_with s x h)

pub ends_print : (n : ℕ) (around : List Opened) (s : Stmt) (x : Expr) → (out-Stmt s).kind ≡ stmt.Print x → spec.ends_of_stmt n around s ≡ []
ends_print n around s x h = ap (ends_by n around) (lemmas.stmt_print s x h)

pub ends_task : (n : ℕ) (around : List Opened) (s : Stmt) (handle : Name) (t : Option Ty) (spawn : Place) (budget : Expr) (c : Call) → (out-Stmt s).kind ≡ stmt.Task handle t spawn budget c → spec.ends_of_stmt n around s ≡ []
ends_task n around s handle t spawn budget c h = ap (ends_by n around) (lemmas.stmt_task s handle t spawn budget c h)

pub ends_await : (n : ℕ) (around : List Opened) (s : Stmt) (name : Name) → (out-Stmt s).kind ≡ stmt.Await name → spec.ends_of_stmt n around s ≡ []
ends_await n around s name h = ap (ends_by n around) (lemmas.stmt_await s name h)

pub ends_call : (n : ℕ) (around : List Opened) (s : Stmt) (c : Call) → (out-Stmt s).kind ≡ stmt.Call c → spec.ends_of_stmt n around s ≡ []
ends_call n around s c h = ap (ends_by n around) (lemmas.stmt_call s c h)

pub ends_block : (n : ℕ) (around : List Opened) (s : Stmt) (b : Block) → (out-Stmt s).kind ≡ stmt.Block b → spec.ends_of_stmt n around s ≡ spec.ends_of_block n around b
ends_block n around s b h = ap (ends_by n around) (lemmas.stmt_block s b h)
