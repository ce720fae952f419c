-- What the plain form of each part is, by the part's variant. The lemmas are named by the variant: of the variant's kind alone, and of a part that has this kind, as code meets it.
use Rattle.std.proofs.Common.{◌≡◌, ℤ, Bool, List, map, Option, Some, None, refl, ap, ◌∙◌}
use Rattle.hv_tree.specs.declared.place.Place.{Place}
use Rattle.hv_tree.specs.declared.types.Name.{Name}
use Rattle.hv_tree.specs.declared.types.Conv.{Conv}
use Rattle.hv_tree.specs.declared.types.Ty.{Ty, out-Ty}
use Rattle.hv_tree.specs.declared.types.Ty.TheVariants as ty
use Rattle.hv_tree.specs.declared.types.Ty.TheOpen.{Ty-F}
use Rattle.hv_tree.specs.declared.types.Ty.TheFolds.{fold_out-Ty}
use Rattle.hv_tree.specs.declared.types.Ty.TheViews.{the_lemmas as ty_lemmas}
use Rattle.hv_tree.specs.declared.ast.Operator.{Operator}
use Rattle.hv_tree.specs.declared.ast.Param.{Param}
use Rattle.hv_tree.specs.declared.ast.Arg.{Arg, out-Arg}
use Rattle.hv_tree.specs.declared.ast.Block.{Block, out-Block}
use Rattle.hv_tree.specs.declared.ast.Branch.{Branch, out-Branch}
use Rattle.hv_tree.specs.declared.ast.Call.{Call, out-Call}
use Rattle.hv_tree.specs.declared.ast.Expr.{Expr, out-Expr}
use Rattle.hv_tree.specs.declared.ast.ExprKind.{ExprKind, out-ExprKind}
use Rattle.hv_tree.specs.declared.ast.PlaceExpr.{PlaceExpr, out-PlaceExpr}
use Rattle.hv_tree.specs.declared.ast.Step.{Step, out-Step}
use Rattle.hv_tree.specs.declared.ast.Stmt.{Stmt, out-Stmt}
use Rattle.hv_tree.specs.declared.ast.StmtKind.{StmtKind, out-StmtKind}
use Rattle.hv_tree.specs.declared.ast.ExprKind.TheVariants as expr
use Rattle.hv_tree.specs.declared.ast.StmtKind.TheVariants as stmt
use Rattle.hv_tree.specs.declared.ast.Step.TheVariants as step
use Rattle.hv_tree.specs.declared.ast.Arg.TheVariants as arg
use Rattle.hv_tree.specs.declared.ast.Arg.TheOpen.{Arg-F, ExprKind-F, Step-F, StmtKind-F}
use Rattle.hv_tree.specs.declared.ast.Arg.TheFolds.{fold_out-Arg, fold_out-ExprKind, fold_out-Step, fold_out-StmtKind, fold_out-Block, fold_out-Branch, fold_out-Call, fold_out-Expr, fold_out-PlaceExpr, fold_out-Stmt}
use Rattle.hv_tree.specs.declared.ast.Arg.TheViews.{the_lemmas}
use Rattle.hv_tree.specs.Core.{IntTy, BoolTy, NamedTy, ArrayTy, FunTy, FunToTy, core_tys_of, core_ty, core_option_ty, core_param, CoreExpr, Number, Truth, Path, Calls, Awaits, Array, Filled, Count, Lambda, Prefix, Chain, CoreSteps, FieldStep, IndexStep, CallOf, CoreArgs, ValueArg, RefArg, BlockOf, CoreBranches, BranchOf, CoreStmt, Var, VarWith, Let, Inout, Assign, If, While, Return, ReturnWith, Print, Task, AwaitsAlone, CallsAlone, Bare, core_of, core_kind, core_step, core_arg, core_place, core_call, core_block, core_branch, core_stmt, core_stmt_kind, core_steps, core_args, core_exprs, core_links, core_stmts, core_branches}

-- ---- structs

pub opened_expr : (x : Expr) → core_of x ≡ core_kind (out-Expr x).kind (out-Expr x).place
unfolding core_of core_kind core_step core_arg core_place core_call core_block core_branch core_stmt core_stmt_kind
opened_expr x = fold_out-Expr _ _ _ _ _ _ _ _ _ _ _ _ _ _ _ _ _ _ _ _ x

pub opened_stmt : (x : Stmt) → core_stmt x ≡ core_stmt_kind (out-Stmt x).kind (out-Stmt x).place
unfolding core_of core_kind core_step core_arg core_place core_call core_block core_branch core_stmt core_stmt_kind
opened_stmt x = fold_out-Stmt _ _ _ _ _ _ _ _ _ _ _ _ _ _ _ _ _ _ _ _ x

pub opened_place : (p : PlaceExpr) → core_place p ≡ ((out-PlaceExpr p).root, core_steps (out-PlaceExpr p).steps)
unfolding core_of core_kind core_step core_arg core_place core_call core_block core_branch core_stmt core_stmt_kind
opened_place p = fold_out-PlaceExpr _ _ _ _ _ _ _ _ _ _ _ _ _ _ _ _ _ _ _ _ p

pub opened_call : (c : Call) → core_call c ≡ CallOf (core_place (out-Call c).callee).0 (core_place (out-Call c).callee).1 (out-Call c).paren (core_args (out-Call c).args)
unfolding core_of core_kind core_step core_arg core_place core_call core_block core_branch core_stmt core_stmt_kind
opened_call c = fold_out-Call _ _ _ _ _ _ _ _ _ _ _ _ _ _ _ _ _ _ _ _ c

pub opened_block : (b : Block) → core_block b ≡ BlockOf (core_stmts (out-Block b).stmts) (out-Block b).end
unfolding core_of core_kind core_step core_arg core_place core_call core_block core_branch core_stmt core_stmt_kind
opened_block b = fold_out-Block _ _ _ _ _ _ _ _ _ _ _ _ _ _ _ _ _ _ _ _ b

pub opened_branch : (b : Branch) (rest : CoreBranches) → core_branch b rest ≡ BranchOf (core_of (out-Branch b).test) (core_block (out-Branch b).body) rest
unfolding core_of core_kind core_step core_arg core_place core_call core_block core_branch core_stmt core_stmt_kind
opened_branch b rest = ap (λ (f : CoreBranches → CoreBranches). f rest) (fold_out-Branch _ _ _ _ _ _ _ _ _ _ _ _ _ _ _ _ _ _ _ _ b)

-- ---- expressions

pub kind_int : (k : ExprKind) (at : Place) (z : ℤ) → out-ExprKind k ≡ ExprKind-F.Int z → core_kind k at ≡ Number at z
unfolding core_of core_kind core_step core_arg core_place core_call core_block core_branch core_stmt core_stmt_kind
kind_int k at z e = ap (λ (f : Place → CoreExpr). f at) (fold_out-ExprKind _ _ _ _ _ _ _ _ _ _ _ _ _ _ _ _ _ _ _ _ k) ∙ rw e refl

pub kind_bool : (k : ExprKind) (at : Place) (b : Bool) → out-ExprKind k ≡ ExprKind-F.Bool b → core_kind k at ≡ Truth at b
unfolding core_of core_kind core_step core_arg core_place core_call core_block core_branch core_stmt core_stmt_kind
kind_bool k at b e = ap (λ (f : Place → CoreExpr). f at) (fold_out-ExprKind _ _ _ _ _ _ _ _ _ _ _ _ _ _ _ _ _ _ _ _ k) ∙ rw e refl

pub kind_path : (k : ExprKind) (at : Place) (p : PlaceExpr) → out-ExprKind k ≡ ExprKind-F.Path p → core_kind k at ≡ Path at (core_place p).0 (core_place p).1
unfolding core_of core_kind core_step core_arg core_place core_call core_block core_branch core_stmt core_stmt_kind
kind_path k at p e = ap (λ (f : Place → CoreExpr). f at) (fold_out-ExprKind _ _ _ _ _ _ _ _ _ _ _ _ _ _ _ _ _ _ _ _ k) ∙ rw e refl

pub kind_call : (k : ExprKind) (at : Place) (c : Call) → out-ExprKind k ≡ ExprKind-F.ExprKind::Call c → core_kind k at ≡ Calls at (core_call c)
unfolding core_of core_kind core_step core_arg core_place core_call core_block core_branch core_stmt core_stmt_kind
kind_call k at c e = ap (λ (f : Place → CoreExpr). f at) (fold_out-ExprKind _ _ _ _ _ _ _ _ _ _ _ _ _ _ _ _ _ _ _ _ k) ∙ rw e refl

pub kind_await : (k : ExprKind) (at : Place) (name : Name) → out-ExprKind k ≡ ExprKind-F.ExprKind::Await name → core_kind k at ≡ Awaits at name
unfolding core_of core_kind core_step core_arg core_place core_call core_block core_branch core_stmt core_stmt_kind
kind_await k at name e = ap (λ (f : Place → CoreExpr). f at) (fold_out-ExprKind _ _ _ _ _ _ _ _ _ _ _ _ _ _ _ _ _ _ _ _ k) ∙ rw e refl

pub kind_array_lit : (k : ExprKind) (at : Place) (xs : List Expr) → out-ExprKind k ≡ ExprKind-F.ArrayLit xs → core_kind k at ≡ Array at (core_exprs xs)
unfolding core_of core_kind core_step core_arg core_place core_call core_block core_branch core_stmt core_stmt_kind
kind_array_lit k at xs e = ap (λ (f : Place → CoreExpr). f at) (fold_out-ExprKind _ _ _ _ _ _ _ _ _ _ _ _ _ _ _ _ _ _ _ _ k) ∙ rw e refl

pub kind_filled : (k : ExprKind) (at : Place) (len value : Expr) → out-ExprKind k ≡ ExprKind-F.Filled len value → core_kind k at ≡ Filled at (core_of len) (core_of value)
unfolding core_of core_kind core_step core_arg core_place core_call core_block core_branch core_stmt core_stmt_kind
kind_filled k at len value e = ap (λ (f : Place → CoreExpr). f at) (fold_out-ExprKind _ _ _ _ _ _ _ _ _ _ _ _ _ _ _ _ _ _ _ _ k) ∙ rw e refl

pub kind_count : (k : ExprKind) (at : Place) (p : PlaceExpr) → out-ExprKind k ≡ ExprKind-F.Count p → core_kind k at ≡ Count at (core_place p).0 (core_place p).1
unfolding core_of core_kind core_step core_arg core_place core_call core_block core_branch core_stmt core_stmt_kind
kind_count k at p e = ap (λ (f : Place → CoreExpr). f at) (fold_out-ExprKind _ _ _ _ _ _ _ _ _ _ _ _ _ _ _ _ _ _ _ _ k) ∙ rw e refl

pub kind_lambda : (k : ExprKind) (at : Place) (captures : List Name) (params : List Param) (result : Option Ty) (body : Block) → out-ExprKind k ≡ ExprKind-F.Lambda captures params result body → core_kind k at ≡ Lambda at captures (map core_param params) (core_option_ty result) (core_block body)
unfolding core_of core_kind core_step core_arg core_place core_call core_block core_branch core_stmt core_stmt_kind
kind_lambda k at captures params result body e = ap (λ (f : Place → CoreExpr). f at) (fold_out-ExprKind _ _ _ _ _ _ _ _ _ _ _ _ _ _ _ _ _ _ _ _ k) ∙ rw e refl

pub kind_prefix : (k : ExprKind) (at : Place) (o : Operator) (x : Expr) → out-ExprKind k ≡ ExprKind-F.Prefix o x → core_kind k at ≡ Prefix at o (core_of x)
unfolding core_of core_kind core_step core_arg core_place core_call core_block core_branch core_stmt core_stmt_kind
kind_prefix k at o x e = ap (λ (f : Place → CoreExpr). f at) (fold_out-ExprKind _ _ _ _ _ _ _ _ _ _ _ _ _ _ _ _ _ _ _ _ k) ∙ rw e refl

pub kind_chain : (k : ExprKind) (at : Place) (first : Expr) (links : List (Operator × Place × Expr)) → out-ExprKind k ≡ ExprKind-F.Chain first links → core_kind k at ≡ Chain at (core_of first) (core_links links)
unfolding core_of core_kind core_step core_arg core_place core_call core_block core_branch core_stmt core_stmt_kind
kind_chain k at first links e = ap (λ (f : Place → CoreExpr). f at) (fold_out-ExprKind _ _ _ _ _ _ _ _ _ _ _ _ _ _ _ _ _ _ _ _ k) ∙ rw e refl

pub expr_int : (e : Expr) (z : ℤ) → (out-Expr e).kind ≡ expr.Int z → core_of e ≡ Number (out-Expr e).place z
expr_int e z h = opened_expr e ∙ ap (λ (k : ExprKind). core_kind k (out-Expr e).place) h ∙ kind_int (expr.Int z) (out-Expr e).place z (search the_lemmas)

pub expr_bool : (e : Expr) (b : Bool) → (out-Expr e).kind ≡ expr.Bool b → core_of e ≡ Truth (out-Expr e).place b
expr_bool e b h = opened_expr e ∙ ap (λ (k : ExprKind). core_kind k (out-Expr e).place) h ∙ kind_bool (expr.Bool b) (out-Expr e).place b (search the_lemmas)

pub expr_path : (e : Expr) (p : PlaceExpr) → (out-Expr e).kind ≡ expr.Path p → core_of e ≡ Path (out-Expr e).place (core_place p).0 (core_place p).1
expr_path e p h = opened_expr e ∙ ap (λ (k : ExprKind). core_kind k (out-Expr e).place) h ∙ kind_path (expr.Path p) (out-Expr e).place p (search the_lemmas)

pub expr_call : (e : Expr) (c : Call) → (out-Expr e).kind ≡ expr.Call c → core_of e ≡ Calls (out-Expr e).place (core_call c)
expr_call e c h = opened_expr e ∙ ap (λ (k : ExprKind). core_kind k (out-Expr e).place) h ∙ kind_call (expr.Call c) (out-Expr e).place c (search the_lemmas)

pub expr_await : (e : Expr) (name : Name) → (out-Expr e).kind ≡ expr.Await name → core_of e ≡ Awaits (out-Expr e).place name
expr_await e name h = opened_expr e ∙ ap (λ (k : ExprKind). core_kind k (out-Expr e).place) h ∙ kind_await (expr.Await name) (out-Expr e).place name (search the_lemmas)

pub expr_array_lit : (e : Expr) (xs : List Expr) → (out-Expr e).kind ≡ expr.ArrayLit xs → core_of e ≡ Array (out-Expr e).place (core_exprs xs)
expr_array_lit e xs h = opened_expr e ∙ ap (λ (k : ExprKind). core_kind k (out-Expr e).place) h ∙ kind_array_lit (expr.ArrayLit xs) (out-Expr e).place xs (search the_lemmas)

pub expr_filled : (e : Expr) (len value : Expr) → (out-Expr e).kind ≡ expr.Filled len value → core_of e ≡ Filled (out-Expr e).place (core_of len) (core_of value)
expr_filled e len value h = opened_expr e ∙ ap (λ (k : ExprKind). core_kind k (out-Expr e).place) h ∙ kind_filled (expr.Filled len value) (out-Expr e).place len value (search the_lemmas)

pub expr_count : (e : Expr) (p : PlaceExpr) → (out-Expr e).kind ≡ expr.Count p → core_of e ≡ Count (out-Expr e).place (core_place p).0 (core_place p).1
expr_count e p h = opened_expr e ∙ ap (λ (k : ExprKind). core_kind k (out-Expr e).place) h ∙ kind_count (expr.Count p) (out-Expr e).place p (search the_lemmas)

pub expr_lambda : (e : Expr) (captures : List Name) (params : List Param) (result : Option Ty) (body : Block) → (out-Expr e).kind ≡ expr.Lambda captures params result body → core_of e ≡ Lambda (out-Expr e).place captures (map core_param params) (core_option_ty result) (core_block body)
expr_lambda e captures params result body h = opened_expr e ∙ ap (λ (k : ExprKind). core_kind k (out-Expr e).place) h ∙ kind_lambda (expr.Lambda captures params result body) (out-Expr e).place captures params result body (search the_lemmas)

pub expr_prefix : (e : Expr) (o : Operator) (x : Expr) → (out-Expr e).kind ≡ expr.Prefix o x → core_of e ≡ Prefix (out-Expr e).place o (core_of x)
expr_prefix e o x h = opened_expr e ∙ ap (λ (k : ExprKind). core_kind k (out-Expr e).place) h ∙ kind_prefix (expr.Prefix o x) (out-Expr e).place o x (search the_lemmas)

pub expr_chain : (e : Expr) (first : Expr) (links : List (Operator × Place × Expr)) → (out-Expr e).kind ≡ expr.Chain first links → core_of e ≡ Chain (out-Expr e).place (core_of first) (core_links links)
expr_chain e first links h = opened_expr e ∙ ap (λ (k : ExprKind). core_kind k (out-Expr e).place) h ∙ kind_chain (expr.Chain first links) (out-Expr e).place first links (search the_lemmas)

-- ---- steps and arguments

pub by_field : (k : Step) (rest : CoreSteps) (name : Name) → out-Step k ≡ Step-F.Field name → core_step k rest ≡ FieldStep name rest
unfolding core_of core_kind core_step core_arg core_place core_call core_block core_branch core_stmt core_stmt_kind
by_field k rest name e = ap (λ (f : CoreSteps → CoreSteps). f rest) (fold_out-Step _ _ _ _ _ _ _ _ _ _ _ _ _ _ _ _ _ _ _ _ k) ∙ rw e refl

pub step_field : (rest : CoreSteps) (name : Name) → core_step (step.Field name) rest ≡ FieldStep name rest
step_field rest name = by_field (step.Field name) rest name (search the_lemmas)

pub by_index : (k : Step) (rest : CoreSteps) (at : Place) (x : Expr) → out-Step k ≡ Step-F.Index at x → core_step k rest ≡ IndexStep at (core_of x) rest
unfolding core_of core_kind core_step core_arg core_place core_call core_block core_branch core_stmt core_stmt_kind
by_index k rest at x e = ap (λ (f : CoreSteps → CoreSteps). f rest) (fold_out-Step _ _ _ _ _ _ _ _ _ _ _ _ _ _ _ _ _ _ _ _ k) ∙ rw e refl

pub step_index : (rest : CoreSteps) (at : Place) (x : Expr) → core_step (step.Index at x) rest ≡ IndexStep at (core_of x) rest
step_index rest at x = by_index (step.Index at x) rest at x (search the_lemmas)

pub by_value : (k : Arg) (rest : CoreArgs) (x : Expr) → out-Arg k ≡ Arg-F.Value x → core_arg k rest ≡ ValueArg (core_of x) rest
unfolding core_of core_kind core_step core_arg core_place core_call core_block core_branch core_stmt core_stmt_kind
by_value k rest x e = ap (λ (f : CoreArgs → CoreArgs). f rest) (fold_out-Arg _ _ _ _ _ _ _ _ _ _ _ _ _ _ _ _ _ _ _ _ k) ∙ rw e refl

pub arg_value : (rest : CoreArgs) (x : Expr) → core_arg (arg.Value x) rest ≡ ValueArg (core_of x) rest
arg_value rest x = by_value (arg.Value x) rest x (search the_lemmas)

pub by_ref : (k : Arg) (rest : CoreArgs) (at : Place) (p : PlaceExpr) → out-Arg k ≡ Arg-F.Ref at p → core_arg k rest ≡ RefArg at (core_place p).0 (core_place p).1 rest
unfolding core_of core_kind core_step core_arg core_place core_call core_block core_branch core_stmt core_stmt_kind
by_ref k rest at p e = ap (λ (f : CoreArgs → CoreArgs). f rest) (fold_out-Arg _ _ _ _ _ _ _ _ _ _ _ _ _ _ _ _ _ _ _ _ k) ∙ rw e refl

pub arg_ref : (rest : CoreArgs) (at : Place) (p : PlaceExpr) → core_arg (arg.Ref at p) rest ≡ RefArg at (core_place p).0 (core_place p).1 rest
arg_ref rest at p = by_ref (arg.Ref at p) rest at p (search the_lemmas)

-- ---- statements

pub alone_var : (k : StmtKind) (at : Place) (name : Name) (t : Ty) → out-StmtKind k ≡ StmtKind-F.Var name t None → core_stmt_kind k at ≡ Var at name (core_ty t)
unfolding core_of core_kind core_step core_arg core_place core_call core_block core_branch core_stmt core_stmt_kind
alone_var k at name t e = ap (λ (f : Place → CoreStmt). f at) (fold_out-StmtKind _ _ _ _ _ _ _ _ _ _ _ _ _ _ _ _ _ _ _ _ k) ∙ rw e refl

pub alone_var_with : (k : StmtKind) (at : Place) (name : Name) (t : Ty) (x : Expr) → out-StmtKind k ≡ StmtKind-F.Var name t (Some x) → core_stmt_kind k at ≡ VarWith at name (core_ty t) (core_of x)
unfolding core_of core_kind core_step core_arg core_place core_call core_block core_branch core_stmt core_stmt_kind
alone_var_with k at name t x e = ap (λ (f : Place → CoreStmt). f at) (fold_out-StmtKind _ _ _ _ _ _ _ _ _ _ _ _ _ _ _ _ _ _ _ _ k) ∙ rw e refl

pub alone_let : (k : StmtKind) (at : Place) (name : Name) (t : Ty) (x : Expr) → out-StmtKind k ≡ StmtKind-F.Let name t x → core_stmt_kind k at ≡ Let at name (core_ty t) (core_of x)
unfolding core_of core_kind core_step core_arg core_place core_call core_block core_branch core_stmt core_stmt_kind
alone_let k at name t x e = ap (λ (f : Place → CoreStmt). f at) (fold_out-StmtKind _ _ _ _ _ _ _ _ _ _ _ _ _ _ _ _ _ _ _ _ k) ∙ rw e refl

pub alone_inout : (k : StmtKind) (at : Place) (name : Name) (t : Ty) (p : PlaceExpr) → out-StmtKind k ≡ StmtKind-F.Inout name t p → core_stmt_kind k at ≡ Inout at name (core_ty t) (core_place p).0 (core_place p).1
unfolding core_of core_kind core_step core_arg core_place core_call core_block core_branch core_stmt core_stmt_kind
alone_inout k at name t p e = ap (λ (f : Place → CoreStmt). f at) (fold_out-StmtKind _ _ _ _ _ _ _ _ _ _ _ _ _ _ _ _ _ _ _ _ k) ∙ rw e refl

pub alone_assign : (k : StmtKind) (at : Place) (p : PlaceExpr) (x : Expr) → out-StmtKind k ≡ StmtKind-F.Assign p x → core_stmt_kind k at ≡ Assign at (core_place p).0 (core_place p).1 (core_of x)
unfolding core_of core_kind core_step core_arg core_place core_call core_block core_branch core_stmt core_stmt_kind
alone_assign k at p x e = ap (λ (f : Place → CoreStmt). f at) (fold_out-StmtKind _ _ _ _ _ _ _ _ _ _ _ _ _ _ _ _ _ _ _ _ k) ∙ rw e refl

pub alone_if : (k : StmtKind) (at : Place) (branches : List Branch) (otherwise : Option Block) → out-StmtKind k ≡ StmtKind-F.If branches otherwise → core_stmt_kind k at ≡ If at (core_branches branches otherwise)
unfolding core_of core_kind core_step core_arg core_place core_call core_block core_branch core_stmt core_stmt_kind
alone_if k at branches None e = ap (λ (f : Place → CoreStmt). f at) (fold_out-StmtKind _ _ _ _ _ _ _ _ _ _ _ _ _ _ _ _ _ _ _ _ k) ∙ rw e refl
alone_if k at branches (Some b) e = ap (λ (f : Place → CoreStmt). f at) (fold_out-StmtKind _ _ _ _ _ _ _ _ _ _ _ _ _ _ _ _ _ _ _ _ k) ∙ rw e refl

pub alone_while : (k : StmtKind) (at : Place) (test : Expr) (body : Block) → out-StmtKind k ≡ StmtKind-F.While test body → core_stmt_kind k at ≡ While at (core_of test) (core_block body)
unfolding core_of core_kind core_step core_arg core_place core_call core_block core_branch core_stmt core_stmt_kind
alone_while k at test body e = ap (λ (f : Place → CoreStmt). f at) (fold_out-StmtKind _ _ _ _ _ _ _ _ _ _ _ _ _ _ _ _ _ _ _ _ k) ∙ rw e refl

pub alone_return : (k : StmtKind) (at : Place) → out-StmtKind k ≡ StmtKind-F.Return None → core_stmt_kind k at ≡ Return at
unfolding core_of core_kind core_step core_arg core_place core_call core_block core_branch core_stmt core_stmt_kind
alone_return k at e = ap (λ (f : Place → CoreStmt). f at) (fold_out-StmtKind _ _ _ _ _ _ _ _ _ _ _ _ _ _ _ _ _ _ _ _ k) ∙ rw e refl

pub alone_return_with : (k : StmtKind) (at : Place) (x : Expr) → out-StmtKind k ≡ StmtKind-F.Return (Some x) → core_stmt_kind k at ≡ ReturnWith at (core_of x)
unfolding core_of core_kind core_step core_arg core_place core_call core_block core_branch core_stmt core_stmt_kind
alone_return_with k at x e = ap (λ (f : Place → CoreStmt). f at) (fold_out-StmtKind _ _ _ _ _ _ _ _ _ _ _ _ _ _ _ _ _ _ _ _ k) ∙ rw e refl

pub alone_print : (k : StmtKind) (at : Place) (x : Expr) → out-StmtKind k ≡ StmtKind-F.Print x → core_stmt_kind k at ≡ Print at (core_of x)
unfolding core_of core_kind core_step core_arg core_place core_call core_block core_branch core_stmt core_stmt_kind
alone_print k at x e = ap (λ (f : Place → CoreStmt). f at) (fold_out-StmtKind _ _ _ _ _ _ _ _ _ _ _ _ _ _ _ _ _ _ _ _ k) ∙ rw e refl

pub alone_task : (k : StmtKind) (at : Place) (handle : Name) (t : Option Ty) (spawn : Place) (budget : Expr) (c : Call) → out-StmtKind k ≡ StmtKind-F.Task handle t spawn budget c → core_stmt_kind k at ≡ Task at handle (core_option_ty t) spawn (core_of budget) (core_call c)
unfolding core_of core_kind core_step core_arg core_place core_call core_block core_branch core_stmt core_stmt_kind
alone_task k at handle t spawn budget c e = ap (λ (f : Place → CoreStmt). f at) (fold_out-StmtKind _ _ _ _ _ _ _ _ _ _ _ _ _ _ _ _ _ _ _ _ k) ∙ rw e refl

pub alone_await : (k : StmtKind) (at : Place) (name : Name) → out-StmtKind k ≡ StmtKind-F.StmtKind::Await name → core_stmt_kind k at ≡ AwaitsAlone at name
unfolding core_of core_kind core_step core_arg core_place core_call core_block core_branch core_stmt core_stmt_kind
alone_await k at name e = ap (λ (f : Place → CoreStmt). f at) (fold_out-StmtKind _ _ _ _ _ _ _ _ _ _ _ _ _ _ _ _ _ _ _ _ k) ∙ rw e refl

pub alone_call : (k : StmtKind) (at : Place) (c : Call) → out-StmtKind k ≡ StmtKind-F.StmtKind::Call c → core_stmt_kind k at ≡ CallsAlone at (core_call c)
unfolding core_of core_kind core_step core_arg core_place core_call core_block core_branch core_stmt core_stmt_kind
alone_call k at c e = ap (λ (f : Place → CoreStmt). f at) (fold_out-StmtKind _ _ _ _ _ _ _ _ _ _ _ _ _ _ _ _ _ _ _ _ k) ∙ rw e refl

pub alone_block : (k : StmtKind) (at : Place) (b : Block) → out-StmtKind k ≡ StmtKind-F.Block b → core_stmt_kind k at ≡ Bare at (core_block b)
unfolding core_of core_kind core_step core_arg core_place core_call core_block core_branch core_stmt core_stmt_kind
alone_block k at b e = ap (λ (f : Place → CoreStmt). f at) (fold_out-StmtKind _ _ _ _ _ _ _ _ _ _ _ _ _ _ _ _ _ _ _ _ k) ∙ rw e refl

pub stmt_var : (s : Stmt) (name : Name) (t : Ty) → (out-Stmt s).kind ≡ stmt.Var name t None → core_stmt s ≡ Var (out-Stmt s).place name (core_ty t)
stmt_var s name t h = opened_stmt s ∙ ap (λ (k : StmtKind). core_stmt_kind k (out-Stmt s).place) h ∙ alone_var (stmt.Var name t None) (out-Stmt s).place name t (search the_lemmas)

pub stmt_var_with : (s : Stmt) (name : Name) (t : Ty) (x : Expr) → (out-Stmt s).kind ≡ stmt.Var name t (Some x) → core_stmt s ≡ VarWith (out-Stmt s).place name (core_ty t) (core_of x)
stmt_var_with s name t x h = opened_stmt s ∙ ap (λ (k : StmtKind). core_stmt_kind k (out-Stmt s).place) h ∙ alone_var_with (stmt.Var name t (Some x)) (out-Stmt s).place name t x (search the_lemmas)

pub stmt_let : (s : Stmt) (name : Name) (t : Ty) (x : Expr) → (out-Stmt s).kind ≡ stmt.Let name t x → core_stmt s ≡ Let (out-Stmt s).place name (core_ty t) (core_of x)
stmt_let s name t x h = opened_stmt s ∙ ap (λ (k : StmtKind). core_stmt_kind k (out-Stmt s).place) h ∙ alone_let (stmt.Let name t x) (out-Stmt s).place name t x (search the_lemmas)

pub stmt_inout : (s : Stmt) (name : Name) (t : Ty) (p : PlaceExpr) → (out-Stmt s).kind ≡ stmt.Inout name t p → core_stmt s ≡ Inout (out-Stmt s).place name (core_ty t) (core_place p).0 (core_place p).1
stmt_inout s name t p h = opened_stmt s ∙ ap (λ (k : StmtKind). core_stmt_kind k (out-Stmt s).place) h ∙ alone_inout (stmt.Inout name t p) (out-Stmt s).place name t p (search the_lemmas)

pub stmt_assign : (s : Stmt) (p : PlaceExpr) (x : Expr) → (out-Stmt s).kind ≡ stmt.Assign p x → core_stmt s ≡ Assign (out-Stmt s).place (core_place p).0 (core_place p).1 (core_of x)
stmt_assign s p x h = opened_stmt s ∙ ap (λ (k : StmtKind). core_stmt_kind k (out-Stmt s).place) h ∙ alone_assign (stmt.Assign p x) (out-Stmt s).place p x (search the_lemmas)

pub stmt_if : (s : Stmt) (branches : List Branch) (otherwise : Option Block) → (out-Stmt s).kind ≡ stmt.If branches otherwise → core_stmt s ≡ If (out-Stmt s).place (core_branches branches otherwise)
stmt_if s branches otherwise h = opened_stmt s ∙ ap (λ (k : StmtKind). core_stmt_kind k (out-Stmt s).place) h ∙ alone_if (stmt.If branches otherwise) (out-Stmt s).place branches otherwise (search the_lemmas)

pub stmt_while : (s : Stmt) (test : Expr) (body : Block) → (out-Stmt s).kind ≡ stmt.While test body → core_stmt s ≡ While (out-Stmt s).place (core_of test) (core_block body)
stmt_while s test body h = opened_stmt s ∙ ap (λ (k : StmtKind). core_stmt_kind k (out-Stmt s).place) h ∙ alone_while (stmt.While test body) (out-Stmt s).place test body (search the_lemmas)

pub stmt_return : (s : Stmt) → (out-Stmt s).kind ≡ stmt.Return None → core_stmt s ≡ Return (out-Stmt s).place
stmt_return s h = opened_stmt s ∙ ap (λ (k : StmtKind). core_stmt_kind k (out-Stmt s).place) h ∙ alone_return (stmt.Return None) (out-Stmt s).place (search the_lemmas)

pub stmt_return_with : (s : Stmt) (x : Expr) → (out-Stmt s).kind ≡ stmt.Return (Some x) → core_stmt s ≡ ReturnWith (out-Stmt s).place (core_of x)
stmt_return_with s x h = opened_stmt s ∙ ap (λ (k : StmtKind). core_stmt_kind k (out-Stmt s).place) h ∙ alone_return_with (stmt.Return (Some x)) (out-Stmt s).place x (search the_lemmas)

pub stmt_print : (s : Stmt) (x : Expr) → (out-Stmt s).kind ≡ stmt.Print x → core_stmt s ≡ Print (out-Stmt s).place (core_of x)
stmt_print s x h = opened_stmt s ∙ ap (λ (k : StmtKind). core_stmt_kind k (out-Stmt s).place) h ∙ alone_print (stmt.Print x) (out-Stmt s).place x (search the_lemmas)

pub stmt_task : (s : Stmt) (handle : Name) (t : Option Ty) (spawn : Place) (budget : Expr) (c : Call) → (out-Stmt s).kind ≡ stmt.Task handle t spawn budget c → core_stmt s ≡ Task (out-Stmt s).place handle (core_option_ty t) spawn (core_of budget) (core_call c)
stmt_task s handle t spawn budget c h = opened_stmt s ∙ ap (λ (k : StmtKind). core_stmt_kind k (out-Stmt s).place) h ∙ alone_task (stmt.Task handle t spawn budget c) (out-Stmt s).place handle t spawn budget c (search the_lemmas)

pub stmt_await : (s : Stmt) (name : Name) → (out-Stmt s).kind ≡ stmt.Await name → core_stmt s ≡ AwaitsAlone (out-Stmt s).place name
stmt_await s name h = opened_stmt s ∙ ap (λ (k : StmtKind). core_stmt_kind k (out-Stmt s).place) h ∙ alone_await (stmt.Await name) (out-Stmt s).place name (search the_lemmas)

pub stmt_call : (s : Stmt) (c : Call) → (out-Stmt s).kind ≡ stmt.Call c → core_stmt s ≡ CallsAlone (out-Stmt s).place (core_call c)
stmt_call s c h = opened_stmt s ∙ ap (λ (k : StmtKind). core_stmt_kind k (out-Stmt s).place) h ∙ alone_call (stmt.Call c) (out-Stmt s).place c (search the_lemmas)

pub stmt_block : (s : Stmt) (b : Block) → (out-Stmt s).kind ≡ stmt.Block b → core_stmt s ≡ Bare (out-Stmt s).place (core_block b)
stmt_block s b h = opened_stmt s ∙ ap (λ (k : StmtKind). core_stmt_kind k (out-Stmt s).place) h ∙ alone_block (stmt.Block b) (out-Stmt s).place b (search the_lemmas)

-- ---- types

pub written_int : (k : Ty) (at : Place) → out-Ty k ≡ Ty-F.Int at → core_ty k ≡ IntTy at
unfolding core_ty
written_int k at e = fold_out-Ty _ _ k ∙ rw e refl

pub ty_int : (at : Place) → core_ty (ty.Int at) ≡ IntTy at
ty_int at = written_int (ty.Int at) at (search ty_lemmas)

pub written_bool : (k : Ty) (at : Place) → out-Ty k ≡ Ty-F.Bool at → core_ty k ≡ BoolTy at
unfolding core_ty
written_bool k at e = fold_out-Ty _ _ k ∙ rw e refl

pub ty_bool : (at : Place) → core_ty (ty.Bool at) ≡ BoolTy at
ty_bool at = written_bool (ty.Bool at) at (search ty_lemmas)

pub written_named : (k : Ty) (name : Name) → out-Ty k ≡ Ty-F.Named name → core_ty k ≡ NamedTy name
unfolding core_ty
written_named k name e = fold_out-Ty _ _ k ∙ rw e refl

pub ty_named : (name : Name) → core_ty (ty.Named name) ≡ NamedTy name
ty_named name = written_named (ty.Named name) name (search ty_lemmas)

pub written_array : (k : Ty) (at : Place) (t : Ty) → out-Ty k ≡ Ty-F.Array at t → core_ty k ≡ ArrayTy at (core_ty t)
unfolding core_ty
written_array k at t e = fold_out-Ty _ _ k ∙ rw e refl

pub ty_array : (at : Place) (t : Ty) → core_ty (ty.Array at t) ≡ ArrayTy at (core_ty t)
ty_array at t = written_array (ty.Array at t) at t (search ty_lemmas)

pub written_fun : (k : Ty) (at : Place) (params : List (Conv × Ty)) → out-Ty k ≡ Ty-F.Fun at params None → core_ty k ≡ FunTy at (core_tys_of (map (λ (p : Conv × Ty). (p.0, core_ty p.1)) params))
unfolding core_ty
written_fun k at params e = fold_out-Ty _ _ k ∙ rw e refl

pub ty_fun : (at : Place) (params : List (Conv × Ty)) → core_ty (ty.Fun at params None) ≡ FunTy at (core_tys_of (map (λ (p : Conv × Ty). (p.0, core_ty p.1)) params))
ty_fun at params = written_fun (ty.Fun at params None) at params (search ty_lemmas)

pub written_fun_to : (k : Ty) (at : Place) (params : List (Conv × Ty)) (t : Ty) → out-Ty k ≡ Ty-F.Fun at params (Some t) → core_ty k ≡ FunToTy at (core_tys_of (map (λ (p : Conv × Ty). (p.0, core_ty p.1)) params)) (core_ty t)
unfolding core_ty
written_fun_to k at params t e = fold_out-Ty _ _ k ∙ rw e refl

pub ty_fun_to : (at : Place) (params : List (Conv × Ty)) (t : Ty) → core_ty (ty.Fun at params (Some t)) ≡ FunToTy at (core_tys_of (map (λ (p : Conv × Ty). (p.0, core_ty p.1)) params)) (core_ty t)
ty_fun_to at params t = written_fun_to (ty.Fun at params (Some t)) at params t (search ty_lemmas)
