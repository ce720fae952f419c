-- The bytes of a program's pieces, one after the other, are its printed form.
use Rattle.std.proofs.Common.{◌≡◌, ℕ, zero, suc, Bool, true, false, nat_le, List, [], ◌∷◌, ◌++◌, Option, Some, None, codes, refl, sym, ap, ◌∙◌, append_assoc, append-nil}
use Rattle.std.specs.Fmt.{signed_decimal}
use Rattle.hv_tree.specs.declared.types.Conv.{Conv}
use Rattle.hv_tree.specs.declared.types.Conv.TheVariants as conv
use Rattle.hv_tree.specs.declared.ast.Operator.{Operator}
use Rattle.hv_tree.specs.declared.ast.Operator.TheVariants as operator
use Rattle.hv_tree.specs.declared.types.Name.{Name}
use Rattle.hv_tree.specs.declared.ast.Tree.{Tree}
use Rattle.hv_tree.specs.Core.{CoreTy, IntTy, BoolTy, NamedTy, ArrayTy, FunTy, FunToTy, CoreTys, NoTys, TyOf, CoreParam, CoreExpr, Number, Truth, Path, Calls, Awaits, Array, Filled, Count, Lambda, Prefix, Chain, CoreExprs, NoExprs, ExprOf, CoreLinks, NoLinks, LinkOf, CoreSteps, NoSteps, FieldStep, IndexStep, CoreCall, CallOf, CoreArgs, NoArgs, ValueArg, RefArg, CoreBlock, BlockOf, CoreStmts, NoStmts, StmtOf, CoreBranches, NoElse, Else, BranchOf, CoreStmt, Var, VarWith, Let, Inout, Assign, If, While, Return, ReturnWith, Print, Task, AwaitsAlone, CallsAlone, Bare, CoreField, CoreDecl, StructOf, FunOf, core_tree}
use Rattle.hv_tree.specs.Printed.{indent, grouped, conv_text, is_fun_ty, ty_text, tys_text, params_text, return_text, handle_text, names_text, operator_text, links_tightness, expr_tightness, expr_text, exprs_text, links_text, steps_text, call_text, args_text, block_text, bare_text, stmts_text, branches_text, stmt_text, fields_text, new_line, decl_text, decls_text, Printed}
use Rattle.hv_print.specs.Pieces.{Piece, Space, KeywordOf, MarkOf, piece_bytes, bytes_of, indent_pieces, grouped_pieces, comma, names_pieces, conv_pieces, ty_pieces, tys_pieces, params_pieces, return_pieces, handle_pieces, operator_piece, expr_pieces, exprs_pieces, links_pieces, steps_pieces, call_pieces, args_pieces, block_pieces, bare_pieces, stmts_pieces, branches_pieces, stmt_pieces, fields_pieces, decl_pieces, decls_pieces, Pieces}

pub joined : (a b : List Piece) → bytes_of (a ++ b) ≡ bytes_of a ++ bytes_of b
joined [] b = refl
joined (p ∷ a) b = ap (λ t. piece_bytes p ++ t) (joined a b) ∙ sym (append_assoc (piece_bytes p) (bytes_of a) (bytes_of b))

margin : (d : ℕ) → bytes_of (indent_pieces d) ≡ indent d
margin zero = refl
margin (suc d) = ap (λ t. codes "  " ++ t) (margin d)

in_brackets : (b : Bool) (ps : List Piece) (t : List ℕ) → bytes_of ps ≡ t → bytes_of (grouped_pieces b ps) ≡ grouped b t
in_brackets true ps t e = ap (λ x. codes "(" ++ x) (joined ps (MarkOf (codes ")") ∷ []) ∙ ap (λ x. x ++ codes ")") e)
in_brackets false ps t e = e

-- ---- types

of_conv : (c : Conv) → bytes_of (conv_pieces c) ≡ conv_text c
of_conv conv.Let = refl
of_conv conv.Inout = refl
of_conv conv.Sink = refl
of_conv conv.Set = refl

mutual
  ty : (t : CoreTy) → bytes_of (ty_pieces t) ≡ ty_text t
  ty (IntTy at) = refl
  ty (BoolTy at) = refl
  ty (NamedTy name) = append-nil name.text
  ty (ArrayTy at t) = rw (joined, ty t) refl
  ty (FunTy at params) = rw (joined, tys [] params) refl
  ty (FunToTy at params t) = rw (joined, tys [] params, in_brackets (is_fun_ty t) (ty_pieces t) (ty_text t) (ty t)) refl

  tys : (before : List Piece) (ts : CoreTys) → bytes_of (tys_pieces before ts) ≡ tys_text (bytes_of before) ts
  tys before NoTys = refl
  tys before (TyOf c t more) = rw (joined, joined, of_conv c, joined, ty t, tys comma more) refl

result : (t : Option CoreTy) → bytes_of (return_pieces t) ≡ return_text t
result None = refl
result (Some t) = rw (ty t) refl

handle : (t : Option CoreTy) → bytes_of (handle_pieces t) ≡ handle_text t
handle None = refl
handle (Some t) = rw (ty t) refl

names : (before : List Piece) (ns : List Name) → bytes_of (names_pieces before ns) ≡ names_text (bytes_of before) ns
names before [] = refl
names before (n ∷ more) = rw (joined, names comma more) refl

params : (before : List Piece) (ps : List CoreParam) → bytes_of (params_pieces before ps) ≡ params_text (bytes_of before) ps
params before [] = refl
params before (p ∷ more) = rw (joined, joined, of_conv p.conv, joined, ty p.ty, params comma more) refl

-- ---- expressions and statements

sign : (o : Operator) → piece_bytes (operator_piece o) ≡ operator_text o
sign operator.Add = refl
sign operator.Sub = refl
sign operator.Mul = refl
sign operator.Div = refl
sign operator.Rem = refl
sign operator.Eq = refl
sign operator.Ne = refl
sign operator.Lt = refl
sign operator.Le = refl
sign operator.Gt = refl
sign operator.Ge = refl
sign operator.And = refl
sign operator.Or = refl
sign operator.Neg = refl
sign operator.Not = refl

abbrev lead : List Piece
lead = Space ∷ KeywordOf (codes "else") ∷ Space ∷ KeywordOf (codes "if") ∷ Space ∷ []

mutual
  expr : (d : ℕ) (x : CoreExpr) → bytes_of (expr_pieces d x) ≡ expr_text d x
  expr d (Number at z) = append-nil (signed_decimal z)
  expr d (Truth at true) = refl
  expr d (Truth at false) = refl
  expr d (Path at root steps) = rw (parts d steps) refl
  expr d (Calls at c) = call d c
  expr d (Awaits at name) = rw (append-nil name.text) refl
  expr d (Array at xs) = rw (joined, exprs d [] xs) refl
  expr d (Filled at len value) = rw (joined, expr d len, joined (expr_pieces d value) (MarkOf (codes ")") ∷ []), expr d value) refl
  expr d (Count at root steps) = rw (joined, parts d steps) refl
  expr d (Lambda at captures ps r body) = rw (joined, names [] captures, joined, params [] ps, joined, result r, block d body) refl
  expr d (Prefix at o x) = rw (sign o, in_brackets (nat_le (expr_tightness x) 5) (expr_pieces d x) (expr_text d x) (expr d x)) refl
  expr d (Chain at first links) =
      rw (joined, in_brackets (nat_le (expr_tightness first) (links_tightness links)) (expr_pieces d first) (expr_text d first) (expr d first), chain d (links_tightness links) links) refl

  exprs : (d : ℕ) (before : List Piece) (xs : CoreExprs) → bytes_of (exprs_pieces d before xs) ≡ exprs_text d (bytes_of before) xs
  exprs d before NoExprs = refl
  exprs d before (ExprOf x more) = rw (joined, joined, expr d x, exprs d comma more) refl

  chain : (d outer : ℕ) (links : CoreLinks) → bytes_of (links_pieces d outer links) ≡ links_text d outer links
  chain d outer NoLinks = refl
  chain d outer (LinkOf o at x more) = rw (joined, sign o, in_brackets (nat_le (expr_tightness x) outer) (expr_pieces d x) (expr_text d x) (expr d x), chain d outer more) refl

  parts : (d : ℕ) (steps : CoreSteps) → bytes_of (steps_pieces d steps) ≡ steps_text d steps
  parts d NoSteps = refl
  parts d (FieldStep name more) = rw (parts d more) refl
  parts d (IndexStep at x more) = rw (joined, expr d x, parts d more) refl

  call : (d : ℕ) (c : CoreCall) → bytes_of (call_pieces d c) ≡ call_text d c
  call d (CallOf root steps paren list) = rw (joined, parts d steps, joined, args d [] list) refl

  args : (d : ℕ) (before : List Piece) (list : CoreArgs) → bytes_of (args_pieces d before list) ≡ args_text d (bytes_of before) list
  args d before NoArgs = refl
  args d before (ValueArg x more) = rw (joined, joined, expr d x, args d comma more) refl
  args d before (RefArg at root steps more) = rw (joined, joined, parts d steps, args d comma more) refl

  block : (d : ℕ) (b : CoreBlock) → bytes_of (block_pieces d b) ≡ block_text d b
  block d (BlockOf ss end) = rw (joined, stmts (suc d) ss, joined, margin d) refl

  bare : (d : ℕ) (b : CoreBlock) → bytes_of (bare_pieces d b) ≡ bare_text d b
  bare d (BlockOf ss end) = rw (joined, stmts (suc d) ss, joined, margin d) refl

  stmts : (d : ℕ) (ss : CoreStmts) → bytes_of (stmts_pieces d ss) ≡ stmts_text d ss
  stmts d NoStmts = refl
  stmts d (StmtOf s more) = rw (joined, margin d, joined, stmt d s, stmts d more) refl

  branches : (d : ℕ) (before : List Piece) (bs : CoreBranches) → bytes_of (branches_pieces d before bs) ≡ branches_text d (bytes_of before) bs
  branches d before NoElse = refl
  branches d before (Else body) = rw (block d body) refl
  branches d before (BranchOf test body more) = rw (joined, joined, expr d test, joined, block d body, branches d lead more) refl

  stmt : (d : ℕ) (s : CoreStmt) → bytes_of (stmt_pieces d s) ≡ stmt_text d s
  stmt d (Var at name t) = rw (ty t) refl
  stmt d (VarWith at name t x) = rw (joined, ty t, expr d x, append_assoc name.text (codes ": " ++ ty_text t) (codes " = " ++ expr_text d x)) refl
  stmt d (Let at name t x) = rw (joined, ty t, expr d x, append_assoc name.text (codes ": " ++ ty_text t) (codes " = " ++ expr_text d x)) refl
  stmt d (Inout at name t root steps) = rw (joined, ty t, parts d steps, append_assoc name.text (codes ": " ++ ty_text t) (codes " = &" ++ (root.text ++ steps_text d steps))) refl
  stmt d (Assign at root steps x) = rw (joined, parts d steps, expr d x) refl
  stmt d (If at bs) = branches d (KeywordOf (codes "if") ∷ Space ∷ []) bs
  stmt d (While at test body) = rw (joined, expr d test, block d body) refl
  stmt d (Return at) = refl
  stmt d (ReturnWith at x) = rw (expr d x) refl
  stmt d (Print at x) = rw (joined, expr d x) refl
  stmt d (Task at name t spawn budget c) = rw (joined, handle t, joined, expr d budget, call d c) refl
  stmt d (AwaitsAlone at name) = rw (append-nil name.text) refl
  stmt d (CallsAlone at c) = call d c
  stmt d (Bare at body) = bare d body

-- ---- declarations

fields : (fs : List CoreField) → bytes_of (fields_pieces fs) ≡ fields_text fs
fields [] = refl
fields (f ∷ more) = rw (joined, ty f.ty, fields more, append_assoc f.name.text (codes ": " ++ ty_text f.ty) (new_line ++ fields_text more)) refl

decl : (x : CoreDecl) → bytes_of (decl_pieces x) ≡ decl_text x
decl (StructOf s) = rw (joined, fields s.fields) refl
decl (FunOf f) = rw (joined, params [] f.params, joined, result f.result, joined, block 0 f.body) refl

decls : (xs : List CoreDecl) → bytes_of (decls_pieces xs) ≡ decls_text xs
decls [] = refl
decls (x ∷ more) = rw (joined, decl x, decls more) refl

pub pieces_bytes : (tree : Tree) → bytes_of (Pieces tree) ≡ Printed tree
pieces_bytes tree = decls (core_tree tree).decls
