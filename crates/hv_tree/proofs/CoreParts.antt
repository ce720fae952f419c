-- What the plain form of each part is, as the grammar's relation builds the part.
use Rattle.std.proofs.Common.{◌≡◌, ℤ, Bool, List, map, Option, Some, None, refl, ap, ◌∙◌}
use Rattle.hv_tree.specs.declared.place.Place.{Place}
use Rattle.hv_tree.specs.declared.types.Name.{Name}
use Rattle.hv_tree.specs.declared.types.Ty.{Ty}
use Rattle.hv_tree.specs.declared.ast.Operator.{Operator}
use Rattle.hv_tree.specs.declared.ast.Param.{Param}
use Rattle.hv_tree.specs.declared.ast.Arg.{Arg}
use Rattle.hv_tree.specs.declared.ast.Block.{Block, roll-Block, out-Block}
use Rattle.hv_tree.specs.declared.ast.Branch.{Branch, roll-Branch, out-Branch}
use Rattle.hv_tree.specs.declared.ast.Call.{Call}
use Rattle.hv_tree.specs.declared.ast.Expr.{Expr}
use Rattle.hv_tree.specs.declared.ast.Step.{Step}
use Rattle.hv_tree.specs.declared.ast.Stmt.{Stmt}
use Rattle.hv_tree.specs.declared.ast.Arg.TheViews.{the_lemmas}
use Rattle.hv_tree.specs.declared.ast.ExprKind.TheVariants as expr
use Rattle.hv_tree.specs.declared.ast.StmtKind.TheVariants as stmt
use Rattle.hv_tree.specs.declared.ast.Arg.TheVariants as arg
use Rattle.hv_tree.specs.Grammar.{expr_at, stmt_at, path_of, call_of}
use Rattle.hv_tree.specs.Core.{Number, Truth, Path, Calls, Awaits, Array, Filled, Count, Lambda, Prefix, Chain, CallOf, CoreArgs, RefArg, BlockOf, CoreBranches, BranchOf, Var, VarWith, Let, Inout, Assign, If, While, Return, ReturnWith, Print, Task, AwaitsAlone, CallsAlone, Bare, core_of, core_place, core_call, core_block, core_branch, core_stmt, core_steps, core_arg, core_args, core_exprs, core_links, core_stmts, core_branches, core_ty, core_option_ty, core_param}
use Rattle.hv_tree.proofs.CoreLemmas as lemmas

pub core_path : (root : Name) (steps : List Step) → core_place (path_of root steps) ≡ (root, core_steps steps)
core_path root steps = lemmas.opened_place (path_of root steps)

pub core_int : (at : Place) (z : ℤ) → core_of (expr_at at (expr.Int z)) ≡ Number at z
core_int at z = lemmas.expr_int (expr_at at (expr.Int z)) z refl

pub core_truth : (at : Place) (b : Bool) → core_of (expr_at at (expr.Bool b)) ≡ Truth at b
core_truth at b = lemmas.expr_bool (expr_at at (expr.Bool b)) b refl

pub core_path_expr : (at : Place) (root : Name) (steps : List Step) → core_of (expr_at at (expr.Path (path_of root steps))) ≡ Path at root (core_steps steps)
core_path_expr at root steps = lemmas.expr_path (expr_at at (expr.Path (path_of root steps))) (path_of root steps) refl ∙ ap (λ p. Path at p.0 p.1) (core_path root steps)

pub core_calls : (at : Place) (c : Call) → core_of (expr_at at (expr.Call c)) ≡ Calls at (core_call c)
core_calls at c = lemmas.expr_call (expr_at at (expr.Call c)) c refl

pub core_awaits : (at : Place) (name : Name) → core_of (expr_at at (expr.Await name)) ≡ Awaits at name
core_awaits at name = lemmas.expr_await (expr_at at (expr.Await name)) name refl

pub core_array : (at : Place) (xs : List Expr) → core_of (expr_at at (expr.ArrayLit xs)) ≡ Array at (core_exprs xs)
core_array at xs = lemmas.expr_array_lit (expr_at at (expr.ArrayLit xs)) xs refl

pub core_filled : (at : Place) (len value : Expr) → core_of (expr_at at (expr.Filled len value)) ≡ Filled at (core_of len) (core_of value)
core_filled at len value = lemmas.expr_filled (expr_at at (expr.Filled len value)) len value refl

pub core_count : (at : Place) (root : Name) (steps : List Step) → core_of (expr_at at (expr.Count (path_of root steps))) ≡ Count at root (core_steps steps)
core_count at root steps = lemmas.expr_count (expr_at at (expr.Count (path_of root steps))) (path_of root steps) refl ∙ ap (λ p. Count at p.0 p.1) (core_path root steps)

pub core_lambda : (at : Place) (captures : List Name) (params : List Param) (result : Option Ty) (body : Block) →
    core_of (expr_at at (expr.Lambda captures params result body)) ≡ Lambda at captures (map core_param params) (core_option_ty result) (core_block body)
core_lambda at captures params result body = lemmas.expr_lambda (expr_at at (expr.Lambda captures params result body)) captures params result body refl

pub core_prefix : (at : Place) (o : Operator) (x : Expr) → core_of (expr_at at (expr.Prefix o x)) ≡ Prefix at o (core_of x)
core_prefix at o x = lemmas.expr_prefix (expr_at at (expr.Prefix o x)) o x refl

pub core_chain : (at : Place) (first : Expr) (links : List (Operator × Place × Expr)) → core_of (expr_at at (expr.Chain first links)) ≡ Chain at (core_of first) (core_links links)
core_chain at first links = lemmas.expr_chain (expr_at at (expr.Chain first links)) first links refl

pub core_called : (root : Name) (steps : List Step) (paren : Place) (args : List Arg) → core_call (call_of (path_of root steps) paren args) ≡ CallOf root (core_steps steps) paren (core_args args)
core_called root steps paren args = lemmas.opened_call (call_of (path_of root steps) paren args) ∙ ap (λ p. CallOf p.0 p.1 paren (core_args args)) (core_path root steps)

pub core_ref : (rest : CoreArgs) (at : Place) (root : Name) (steps : List Step) → core_arg (arg.Ref at (path_of root steps)) rest ≡ RefArg at root (core_steps steps) rest
core_ref rest at root steps = lemmas.arg_ref rest at (path_of root steps) ∙ ap (λ p. RefArg at p.0 p.1 rest) (core_path root steps)

pub core_body : (stmts : List Stmt) (end : Place) → core_block (roll-Block (record { stmts = stmts; end = end })) ≡ BlockOf (core_stmts stmts) end
core_body stmts end =
    let b : Block = roll-Block (record { stmts = stmts; end = end }) in
    let s : (out-Block b).stmts ≡ stmts = search the_lemmas in
    let e : (out-Block b).end ≡ end = search the_lemmas in
    lemmas.opened_block b ∙ ap (λ s. BlockOf (core_stmts s) (out-Block b).end) s ∙ ap (BlockOf (core_stmts stmts)) e

pub core_test : (test : Expr) (body : Block) (rest : CoreBranches) → core_branch (roll-Branch (record { test = test; body = body })) rest ≡ BranchOf (core_of test) (core_block body) rest
core_test test body rest =
    let b : Branch = roll-Branch (record { test = test; body = body }) in
    let t : (out-Branch b).test ≡ test = search the_lemmas in
    let e : (out-Branch b).body ≡ body = search the_lemmas in
    lemmas.opened_branch b rest ∙ ap (λ t. BranchOf (core_of t) (core_block (out-Branch b).body) rest) t ∙ ap (λ b. BranchOf (core_of test) (core_block b) rest) e

-- ---- statements

pub core_var : (at : Place) (name : Name) (t : Ty) → core_stmt (stmt_at at (stmt.Var name t None)) ≡ Var at name (core_ty t)
core_var at name t = lemmas.stmt_var (stmt_at at (stmt.Var name t None)) name t refl

pub core_var_with : (at : Place) (name : Name) (t : Ty) (x : Expr) → core_stmt (stmt_at at (stmt.Var name t (Some x))) ≡ VarWith at name (core_ty t) (core_of x)
core_var_with at name t x = lemmas.stmt_var_with (stmt_at at (stmt.Var name t (Some x))) name t x refl

pub core_let : (at : Place) (name : Name) (t : Ty) (x : Expr) → core_stmt (stmt_at at (stmt.Let name t x)) ≡ Let at name (core_ty t) (core_of x)
core_let at name t x = lemmas.stmt_let (stmt_at at (stmt.Let name t x)) name t x refl

pub core_inout : (at : Place) (name : Name) (t : Ty) (root : Name) (steps : List Step) → core_stmt (stmt_at at (stmt.Inout name t (path_of root steps))) ≡ Inout at name (core_ty t) root (core_steps steps)
core_inout at name t root steps = lemmas.stmt_inout (stmt_at at (stmt.Inout name t (path_of root steps))) name t (path_of root steps) refl ∙ ap (λ p. Inout at name (core_ty t) p.0 p.1) (core_path root steps)

pub core_assign : (at : Place) (root : Name) (steps : List Step) (x : Expr) → core_stmt (stmt_at at (stmt.Assign (path_of root steps) x)) ≡ Assign at root (core_steps steps) (core_of x)
core_assign at root steps x = lemmas.stmt_assign (stmt_at at (stmt.Assign (path_of root steps) x)) (path_of root steps) x refl ∙ ap (λ p. Assign at p.0 p.1 (core_of x)) (core_path root steps)

pub core_if : (at : Place) (branches : List Branch) (otherwise : Option Block) → core_stmt (stmt_at at (stmt.If branches otherwise)) ≡ If at (core_branches branches otherwise)
core_if at branches otherwise = lemmas.stmt_if (stmt_at at (stmt.If branches otherwise)) branches otherwise refl

pub core_while : (at : Place) (test : Expr) (body : Block) → core_stmt (stmt_at at (stmt.While test body)) ≡ While at (core_of test) (core_block body)
core_while at test body = lemmas.stmt_while (stmt_at at (stmt.While test body)) test body refl

pub core_return : (at : Place) → core_stmt (stmt_at at (stmt.Return None)) ≡ Return at
core_return at = lemmas.stmt_return (stmt_at at (stmt.Return None)) refl

pub core_return_with : (at : Place) (x : Expr) → core_stmt (stmt_at at (stmt.Return (Some x))) ≡ ReturnWith at (core_of x)
core_return_with at x = lemmas.stmt_return_with (stmt_at at (stmt.Return (Some x))) x refl

pub core_print : (at : Place) (x : Expr) → core_stmt (stmt_at at (stmt.Print x)) ≡ Print at (core_of x)
core_print at x = lemmas.stmt_print (stmt_at at (stmt.Print x)) x refl

pub core_task : (at : Place) (handle : Name) (t : Option Ty) (spawn : Place) (budget : Expr) (c : Call) →
    core_stmt (stmt_at at (stmt.Task handle t spawn budget c)) ≡ Task at handle (core_option_ty t) spawn (core_of budget) (core_call c)
core_task at handle t spawn budget c = lemmas.stmt_task (stmt_at at (stmt.Task handle t spawn budget c)) handle t spawn budget c refl

pub core_awaits_alone : (at : Place) (name : Name) → core_stmt (stmt_at at (stmt.Await name)) ≡ AwaitsAlone at name
core_awaits_alone at name = lemmas.stmt_await (stmt_at at (stmt.Await name)) name refl

pub core_calls_alone : (at : Place) (c : Call) → core_stmt (stmt_at at (stmt.Call c)) ≡ CallsAlone at (core_call c)
core_calls_alone at c = lemmas.stmt_call (stmt_at at (stmt.Call c)) c refl

pub core_bare : (at : Place) (b : Block) → core_stmt (stmt_at at (stmt.Block b)) ≡ Bare at (core_block b)
core_bare at b = lemmas.stmt_block (stmt_at at (stmt.Block b)) b refl
