-- The printed form tells no places: it is that of the program with all its places set to 0.
use Rattle.std.proofs.Common.{◌≡◌, ℕ, suc, List, [], ◌∷◌, map, Option, Some, None, codes, refl, sym, ap, ◌∙◌}
use Rattle.hv_tree.specs.declared.types.Name.{Name}
use Rattle.hv_tree.specs.declared.ast.Tree.{Tree}
use Rattle.hv_tree.specs.Core.{CoreTy, IntTy, BoolTy, NamedTy, ArrayTy, FunTy, FunToTy, CoreTys, NoTys, TyOf, CoreParam, CoreExpr, Number, Truth, Path, Calls, Awaits, Array, Filled, Count, Lambda, Prefix, Chain, CoreExprs, NoExprs, ExprOf, CoreLinks, NoLinks, LinkOf, CoreSteps, NoSteps, FieldStep, IndexStep, CoreCall, CallOf, CoreArgs, NoArgs, ValueArg, RefArg, CoreBlock, BlockOf, CoreStmts, NoStmts, StmtOf, CoreBranches, NoElse, Else, BranchOf, CoreStmt, Var, VarWith, Let, Inout, Assign, If, While, Return, ReturnWith, Print, Task, AwaitsAlone, CallsAlone, Bare, CoreField, CoreDecl, StructOf, FunOf, core_tree}
use Rattle.hv_tree.specs.Printed.{is_fun_ty, ty_text, tys_text, params_text, return_text, handle_text, names_text, links_tightness, expr_tightness, expr_text, exprs_text, links_text, steps_text, call_text, args_text, block_text, bare_text, stmts_text, branches_text, stmt_text, fields_text, decl_text, decls_text, Printed, comma}
use Rattle.hv_print.specs.Aside.{name_aside, ty_aside, tys_aside, result_aside, param_aside, expr_aside, exprs_aside, links_aside, steps_aside, call_aside, args_aside, block_aside, stmts_aside, branches_aside, stmt_aside, field_aside, decl_aside, Aside}

-- ---- types

fun_ty : (t : CoreTy) → is_fun_ty (ty_aside t) ≡ is_fun_ty t
fun_ty (IntTy at) = refl
fun_ty (BoolTy at) = refl
fun_ty (NamedTy name) = refl
fun_ty (ArrayTy at t) = refl
fun_ty (FunTy at params) = refl
fun_ty (FunToTy at params t) = refl

mutual
  ty : (t : CoreTy) → ty_text (ty_aside t) ≡ ty_text t
  ty (IntTy at) = refl
  ty (BoolTy at) = refl
  ty (NamedTy name) = refl
  ty (ArrayTy at t) = rw (ty t) refl
  ty (FunTy at params) = rw (tys [] params) refl
  ty (FunToTy at params t) = rw (tys [] params, ty t, fun_ty t) refl

  tys : (before : List ℕ) (ts : CoreTys) → tys_text before (tys_aside ts) ≡ tys_text before ts
  tys before NoTys = refl
  tys before (TyOf c t more) = rw (ty t, tys comma more) refl

result : (t : Option CoreTy) → return_text (result_aside t) ≡ return_text t
result None = refl
result (Some t) = rw (ty t) refl

handle : (t : Option CoreTy) → handle_text (result_aside t) ≡ handle_text t
handle None = refl
handle (Some t) = rw (ty t) refl

names : (before : List ℕ) (ns : List Name) → names_text before (map name_aside ns) ≡ names_text before ns
names before [] = refl
names before (n ∷ more) = rw (names comma more) refl

params : (before : List ℕ) (ps : List CoreParam) → params_text before (map param_aside ps) ≡ params_text before ps
params before [] = refl
params before (p ∷ more) = rw (ty p.ty, params comma more) refl

-- ---- expressions and statements

link_tightness : (links : CoreLinks) → links_tightness (links_aside links) ≡ links_tightness links
link_tightness NoLinks = refl
link_tightness (LinkOf o at x more) = refl

tightness : (x : CoreExpr) → expr_tightness (expr_aside x) ≡ expr_tightness x
tightness (Number at z) = refl
tightness (Truth at b) = refl
tightness (Path at root steps) = refl
tightness (Calls at c) = refl
tightness (Awaits at name) = refl
tightness (Array at xs) = refl
tightness (Filled at len value) = refl
tightness (Count at root steps) = refl
tightness (Lambda at captures params result body) = refl
tightness (Prefix at o x) = refl
tightness (Chain at first links) = link_tightness links

mutual
  expr : (d : ℕ) (x : CoreExpr) → expr_text d (expr_aside x) ≡ expr_text d x
  expr d (Number at z) = refl
  expr d (Truth at b) = refl
  expr d (Path at root steps) = rw (parts d steps) refl
  expr d (Calls at c) = call d c
  expr d (Awaits at name) = refl
  expr d (Array at xs) = rw (exprs d [] xs) refl
  expr d (Filled at len value) = rw (expr d len, expr d value) refl
  expr d (Count at root steps) = rw (parts d steps) refl
  expr d (Lambda at captures ps r body) = rw (names [] captures, params [] ps, result r, block d body) refl
  expr d (Prefix at o x) = rw (tightness x, expr d x) refl
  expr d (Chain at first links) = rw (link_tightness links, tightness first, expr d first, chain d (links_tightness links) links) refl

  exprs : (d : ℕ) (before : List ℕ) (xs : CoreExprs) → exprs_text d before (exprs_aside xs) ≡ exprs_text d before xs
  exprs d before NoExprs = refl
  exprs d before (ExprOf x more) = rw (expr d x, exprs d comma more) refl

  chain : (d outer : ℕ) (links : CoreLinks) → links_text d outer (links_aside links) ≡ links_text d outer links
  chain d outer NoLinks = refl
  chain d outer (LinkOf o at x more) = rw (tightness x, expr d x, chain d outer more) refl

  parts : (d : ℕ) (steps : CoreSteps) → steps_text d (steps_aside steps) ≡ steps_text d steps
  parts d NoSteps = refl
  parts d (FieldStep name more) = rw (parts d more) refl
  parts d (IndexStep at x more) = rw (expr d x, parts d more) refl

  call : (d : ℕ) (c : CoreCall) → call_text d (call_aside c) ≡ call_text d c
  call d (CallOf root steps paren list) = rw (parts d steps, args d [] list) refl

  args : (d : ℕ) (before : List ℕ) (list : CoreArgs) → args_text d before (args_aside list) ≡ args_text d before list
  args d before NoArgs = refl
  args d before (ValueArg x more) = rw (expr d x, args d comma more) refl
  args d before (RefArg at root steps more) = rw (parts d steps, args d comma more) refl

  block : (d : ℕ) (b : CoreBlock) → block_text d (block_aside b) ≡ block_text d b
  block d (BlockOf ss end) = rw (stmts (suc d) ss) refl

  bare : (d : ℕ) (b : CoreBlock) → bare_text d (block_aside b) ≡ bare_text d b
  bare d (BlockOf ss end) = rw (stmts (suc d) ss) refl

  stmts : (d : ℕ) (ss : CoreStmts) → stmts_text d (stmts_aside ss) ≡ stmts_text d ss
  stmts d NoStmts = refl
  stmts d (StmtOf s more) = rw (stmt d s, stmts d more) refl

  branches : (d : ℕ) (before : List ℕ) (bs : CoreBranches) → branches_text d before (branches_aside bs) ≡ branches_text d before bs
  branches d before NoElse = refl
  branches d before (Else body) = rw (block d body) refl
  branches d before (BranchOf test body more) = rw (expr d test, block d body, branches d (codes " else if ") more) refl

  stmt : (d : ℕ) (s : CoreStmt) → stmt_text d (stmt_aside s) ≡ stmt_text d s
  stmt d (Var at name t) = rw (ty t) refl
  stmt d (VarWith at name t x) = rw (ty t, expr d x) refl
  stmt d (Let at name t x) = rw (ty t, expr d x) refl
  stmt d (Inout at name t root steps) = rw (ty t, parts d steps) refl
  stmt d (Assign at root steps x) = rw (parts d steps, expr d x) refl
  stmt d (If at bs) = branches d (codes "if ") bs
  stmt d (While at test body) = rw (expr d test, block d body) refl
  stmt d (Return at) = refl
  stmt d (ReturnWith at x) = rw (expr d x) refl
  stmt d (Print at x) = rw (expr d x) refl
  stmt d (Task at name t spawn budget c) = rw (handle t, expr d budget, call d c) refl
  stmt d (AwaitsAlone at name) = refl
  stmt d (CallsAlone at c) = call d c
  stmt d (Bare at body) = bare d body

-- ---- declarations

fields : (fs : List CoreField) → fields_text (map field_aside fs) ≡ fields_text fs
fields [] = refl
fields (f ∷ more) = rw (ty f.ty, fields more) refl

decl : (x : CoreDecl) → decl_text (decl_aside x) ≡ decl_text x
decl (StructOf s) = rw (fields s.fields) refl
decl (FunOf f) = rw (params [] f.params, result f.result, block 0 f.body) refl

decls : (xs : List CoreDecl) → decls_text (map decl_aside xs) ≡ decls_text xs
decls [] = refl
decls (x ∷ more) = rw (decl x, decls more) refl

pub placeless : (tree : Tree) → Printed tree ≡ decls_text (Aside tree).decls
placeless tree = sym (decls (core_tree tree).decls)

-- two programs that are the same, places aside, have the same printed form
pub same_printed : (a b : Tree) → Aside a ≡ Aside b → Printed a ≡ Printed b
same_printed a b e = placeless a ∙ ap (λ c. decls_text c.decls) e ∙ sym (placeless b)
