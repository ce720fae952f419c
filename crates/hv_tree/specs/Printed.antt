-- The printed form of a program, on its plain form. A text that may depend on where its line begins takes the line's depth.
use Rattle.std.specs.Prelude.{ℕ, zero, suc, nat_le, Bool, true, false, List, [], ◌∷◌, ◌++◌, Option, Some, None, codes}
use Rattle.std.specs.Fmt.{signed_decimal}
use Rattle.hv_tree.specs.declared.types.Name.{Name}
use Rattle.hv_tree.specs.declared.types.Conv.{Conv}
use Rattle.hv_tree.specs.declared.types.Conv.TheVariants as conv
use Rattle.hv_tree.specs.declared.ast.Operator.{Operator}
use Rattle.hv_tree.specs.declared.ast.Operator.TheVariants as operator
use Rattle.hv_tree.specs.declared.ast.Tree.{Tree}
use Rattle.hv_tree.specs.Core.{CoreTy, IntTy, BoolTy, NamedTy, ArrayTy, FunTy, FunToTy, CoreTys, NoTys, TyOf, CoreParam, CoreExpr, Number, Truth, Path, Calls, Awaits, Array, Filled, Count, Lambda, Prefix, Chain, CoreExprs, NoExprs, ExprOf, CoreLinks, NoLinks, LinkOf, CoreSteps, NoSteps, FieldStep, IndexStep, CoreCall, CallOf, CoreArgs, NoArgs, ValueArg, RefArg, CoreBlock, BlockOf, CoreStmts, NoStmts, StmtOf, CoreBranches, NoElse, Else, BranchOf, CoreStmt, Var, VarWith, Let, Inout, Assign, If, While, Return, ReturnWith, Print, Task, AwaitsAlone, CallsAlone, Bare, CoreField, CoreDecl, StructOf, FunOf, core_tree}

-- two spaces for each level
abbrev pub indent : ℕ → List ℕ
indent zero = []
indent (suc n) = 32 ∷ 32 ∷ indent n

abbrev pub new_line : List ℕ
new_line = 10 ∷ []

-- a text in round brackets where they are wanted
abbrev pub grouped : Bool → List ℕ → List ℕ
grouped true text = codes "(" ++ (text ++ codes ")")
grouped false text = text

abbrev pub comma : List ℕ
comma = codes ", "

-- the names with commas between; what stands before the first is given
abbrev pub names_text : List ℕ → List Name → List ℕ
names_text before [] = []
names_text before (n ∷ more) = before ++ (n.text ++ names_text comma more)

-- ---- types

abbrev pub conv_text : Conv → List ℕ
conv_text conv.Let = []
conv_text conv.Inout = codes "inout "
conv_text conv.Sink = codes "sink "
conv_text conv.Set = codes "set "

abbrev pub is_fun_ty : CoreTy → Bool
is_fun_ty (IntTy at) = false
is_fun_ty (BoolTy at) = false
is_fun_ty (NamedTy name) = false
is_fun_ty (ArrayTy at t) = false
is_fun_ty (FunTy at params) = true
is_fun_ty (FunToTy at params t) = true

abbrev mutual
  pub ty_text : CoreTy → List ℕ
  ty_text (IntTy at) = codes "Int"
  ty_text (BoolTy at) = codes "Bool"
  ty_text (NamedTy name) = name.text
  ty_text (ArrayTy at t) = codes "[" ++ (ty_text t ++ codes "]")
  ty_text (FunTy at params) = codes "fun(" ++ (tys_text [] params ++ codes ")")
  ty_text (FunToTy at params t) = codes "fun(" ++ (tys_text [] params ++ (codes ") -> " ++ grouped (is_fun_ty t) (ty_text t)))

  pub tys_text : List ℕ → CoreTys → List ℕ
  tys_text before NoTys = []
  tys_text before (TyOf c t more) = before ++ (conv_text c ++ (ty_text t ++ tys_text comma more))

abbrev pub typed_text : Name → CoreTy → List ℕ
typed_text name t = name.text ++ (codes ": " ++ ty_text t)

abbrev pub params_text : List ℕ → List CoreParam → List ℕ
params_text before [] = []
params_text before (p ∷ more) = before ++ (p.name.text ++ (codes ": " ++ (conv_text p.conv ++ (ty_text p.ty ++ params_text comma more))))

abbrev pub return_text : Option CoreTy → List ℕ
return_text None = []
return_text (Some t) = codes " -> " ++ ty_text t

-- the type of a handle, if it is written
abbrev pub handle_text : Option CoreTy → List ℕ
handle_text None = []
handle_text (Some t) = codes ": " ++ ty_text t

-- ---- operators

abbrev pub operator_text : Operator → List ℕ
operator_text operator.Add = codes "+"
operator_text operator.Sub = codes "-"
operator_text operator.Mul = codes "*"
operator_text operator.Div = codes "/"
operator_text operator.Rem = codes "%"
operator_text operator.Eq = codes "=="
operator_text operator.Ne = codes "!="
operator_text operator.Lt = codes "<"
operator_text operator.Le = codes "<="
operator_text operator.Gt = codes ">"
operator_text operator.Ge = codes ">="
operator_text operator.And = codes "&&"
operator_text operator.Or = codes "||"
operator_text operator.Neg = codes "-"
operator_text operator.Not = codes "!"

-- how tightly an operator binds, the loosest least
abbrev pub tightness : Operator → ℕ
tightness operator.Or = 0
tightness operator.And = 1
tightness operator.Eq = 2
tightness operator.Ne = 2
tightness operator.Lt = 2
tightness operator.Le = 2
tightness operator.Gt = 2
tightness operator.Ge = 2
tightness operator.Add = 3
tightness operator.Sub = 3
tightness operator.Mul = 4
tightness operator.Div = 4
tightness operator.Rem = 4
tightness operator.Neg = 5
tightness operator.Not = 5

-- of a chain, by its first operator
abbrev pub links_tightness : CoreLinks → ℕ
links_tightness NoLinks = 6
links_tightness (LinkOf o at x more) = tightness o

-- what isn't made by an operator binds tightest
abbrev pub expr_tightness : CoreExpr → ℕ
expr_tightness (Number at z) = 6
expr_tightness (Truth at b) = 6
expr_tightness (Path at root steps) = 6
expr_tightness (Calls at c) = 6
expr_tightness (Awaits at name) = 6
expr_tightness (Array at xs) = 6
expr_tightness (Filled at len value) = 6
expr_tightness (Count at root steps) = 6
expr_tightness (Lambda at captures params result body) = 6
expr_tightness (Prefix at o x) = 5
expr_tightness (Chain at first links) = links_tightness links

-- an operand of an operator that binds so tightly is in brackets where it binds no tighter itself
abbrev pub operand_text : ℕ → CoreExpr → List ℕ → List ℕ
operand_text outer x text = grouped (nat_le (expr_tightness x) outer) text

abbrev pub truth_text : Bool → List ℕ
truth_text true = codes "true"
truth_text false = codes "false"

-- ---- expressions and statements

abbrev mutual
  pub expr_text : ℕ → CoreExpr → List ℕ
  expr_text d (Number at z) = signed_decimal z
  expr_text d (Truth at b) = truth_text b
  expr_text d (Path at root steps) = root.text ++ steps_text d steps
  expr_text d (Calls at c) = call_text d c
  expr_text d (Awaits at name) = codes "await " ++ name.text
  expr_text d (Array at xs) = codes "[" ++ (exprs_text d [] xs ++ codes "]")
  expr_text d (Filled at len value) = codes "filled(" ++ (expr_text d len ++ (comma ++ (expr_text d value ++ codes ")")))
  expr_text d (Count at root steps) = codes "count(" ++ (root.text ++ (steps_text d steps ++ codes ")"))
  expr_text d (Lambda at captures params result body) =
      codes "fun [" ++ (names_text [] captures ++ (codes "] (" ++ (params_text [] params ++ (codes ")" ++ (return_text result ++ block_text d body)))))
  expr_text d (Prefix at o x) = operator_text o ++ operand_text 5 x (expr_text d x)
  expr_text d (Chain at first links) = operand_text (links_tightness links) first (expr_text d first) ++ links_text d (links_tightness links) links

  pub exprs_text : ℕ → List ℕ → CoreExprs → List ℕ
  exprs_text d before NoExprs = []
  exprs_text d before (ExprOf x more) = before ++ (expr_text d x ++ exprs_text d comma more)

  pub links_text : ℕ → ℕ → CoreLinks → List ℕ
  links_text d outer NoLinks = []
  links_text d outer (LinkOf o at x more) = codes " " ++ (operator_text o ++ (codes " " ++ (operand_text outer x (expr_text d x) ++ links_text d outer more)))

  pub steps_text : ℕ → CoreSteps → List ℕ
  steps_text d NoSteps = []
  steps_text d (FieldStep name more) = codes "." ++ (name.text ++ steps_text d more)
  steps_text d (IndexStep at x more) = codes "[" ++ (expr_text d x ++ (codes "]" ++ steps_text d more))

  pub call_text : ℕ → CoreCall → List ℕ
  call_text d (CallOf root steps paren args) = root.text ++ (steps_text d steps ++ (codes "(" ++ (args_text d [] args ++ codes ")")))

  pub args_text : ℕ → List ℕ → CoreArgs → List ℕ
  args_text d before NoArgs = []
  args_text d before (ValueArg x more) = before ++ (expr_text d x ++ args_text d comma more)
  args_text d before (RefArg at root steps more) = before ++ (codes "&" ++ (root.text ++ (steps_text d steps ++ args_text d comma more)))

  -- behind what stands before it in its line
  pub block_text : ℕ → CoreBlock → List ℕ
  block_text d (BlockOf stmts end) = codes " {" ++ (new_line ++ (stmts_text (suc d) stmts ++ (indent d ++ codes "}")))

  -- a block that is a statement
  pub bare_text : ℕ → CoreBlock → List ℕ
  bare_text d (BlockOf stmts end) = codes "{" ++ (new_line ++ (stmts_text (suc d) stmts ++ (indent d ++ codes "}")))

  -- each statement is a line
  pub stmts_text : ℕ → CoreStmts → List ℕ
  stmts_text d NoStmts = []
  stmts_text d (StmtOf x more) = indent d ++ (stmt_text d x ++ (new_line ++ stmts_text d more))

  pub branches_text : ℕ → List ℕ → CoreBranches → List ℕ
  branches_text d before NoElse = []
  branches_text d before (Else body) = codes " else" ++ block_text d body
  branches_text d before (BranchOf test body more) = before ++ (expr_text d test ++ (block_text d body ++ branches_text d (codes " else if ") more))

  pub stmt_text : ℕ → CoreStmt → List ℕ
  stmt_text d (Var at name t) = codes "var " ++ typed_text name t
  stmt_text d (VarWith at name t x) = codes "var " ++ (typed_text name t ++ (codes " = " ++ expr_text d x))
  stmt_text d (Let at name t x) = codes "let " ++ (typed_text name t ++ (codes " = " ++ expr_text d x))
  stmt_text d (Inout at name t root steps) = codes "inout " ++ (typed_text name t ++ (codes " = &" ++ (root.text ++ steps_text d steps)))
  stmt_text d (Assign at root steps x) = codes "&" ++ (root.text ++ (steps_text d steps ++ (codes " = " ++ expr_text d x)))
  stmt_text d (If at branches) = branches_text d (codes "if ") branches
  stmt_text d (While at test body) = codes "while " ++ (expr_text d test ++ block_text d body)
  stmt_text d (Return at) = codes "return;"
  stmt_text d (ReturnWith at x) = codes "return " ++ expr_text d x
  stmt_text d (Print at x) = codes "print(" ++ (expr_text d x ++ codes ")")
  stmt_text d (Task at handle t spawn budget c) = codes "task " ++ (handle.text ++ (handle_text t ++ (codes " = spawn(" ++ (expr_text d budget ++ (codes ") " ++ call_text d c)))))
  stmt_text d (AwaitsAlone at name) = codes "await " ++ name.text
  stmt_text d (CallsAlone at c) = call_text d c
  stmt_text d (Bare at body) = bare_text d body

-- ---- declarations

abbrev pub fields_text : List CoreField → List ℕ
fields_text [] = []
fields_text (f ∷ more) = codes "  var " ++ (typed_text f.name f.ty ++ (new_line ++ fields_text more))

abbrev pub decl_text : CoreDecl → List ℕ
decl_text (StructOf s) = codes "struct " ++ (s.name.text ++ (codes " {" ++ (new_line ++ (fields_text s.fields ++ (codes "}" ++ new_line)))))
decl_text (FunOf f) = codes "fun " ++ (f.name.text ++ (codes "(" ++ (params_text [] f.params ++ (codes ")" ++ (return_text f.result ++ (block_text 0 f.body ++ new_line))))))

abbrev pub decls_text : List CoreDecl → List ℕ
decls_text [] = []
decls_text (x ∷ more) = decl_text x ++ decls_text more

-- the printed form of a program
abbrev pub Printed : Tree → List ℕ
Printed tree = decls_text (core_tree tree).decls
