-- The tree as plain data of the logic, so that definitions and laws go by its structure. Each constructor has what the part has, its place first; a list is a chain that ends in a constructor of its own, and a part that may lack is told by two constructors.
use Rattle.std.specs.Prelude.{ℤ, Bool, List, [], ◌∷◌, map, Option, Some, None}
use Rattle.hv_tree.specs.declared.place.Place.{Place}
use Rattle.hv_tree.specs.declared.types.Name.{Name}
use Rattle.hv_tree.specs.declared.types.Conv.{Conv}
use Rattle.hv_tree.specs.declared.types.Ty.{Ty}
use Rattle.hv_tree.specs.declared.types.Ty.TheOpen.{Ty-F}
use Rattle.hv_tree.specs.declared.types.Ty.TheFolds.{fold-Ty}
use Rattle.hv_tree.specs.declared.ast.Operator.{Operator}
use Rattle.hv_tree.specs.declared.ast.Param.{Param}
use Rattle.hv_tree.specs.declared.ast.Field.{Field}
use Rattle.hv_tree.specs.declared.ast.Decl.{Decl}
use Rattle.hv_tree.specs.declared.ast.Decl.TheVariants as decl
use Rattle.hv_tree.specs.declared.ast.Tree.{Tree}
use Rattle.hv_tree.specs.declared.ast.Arg.{Arg}
use Rattle.hv_tree.specs.declared.ast.Block.{Block}
use Rattle.hv_tree.specs.declared.ast.Branch.{Branch}
use Rattle.hv_tree.specs.declared.ast.Call.{Call}
use Rattle.hv_tree.specs.declared.ast.Expr.{Expr}
use Rattle.hv_tree.specs.declared.ast.ExprKind.{ExprKind}
use Rattle.hv_tree.specs.declared.ast.PlaceExpr.{PlaceExpr}
use Rattle.hv_tree.specs.declared.ast.Step.{Step}
use Rattle.hv_tree.specs.declared.ast.Stmt.{Stmt}
use Rattle.hv_tree.specs.declared.ast.StmtKind.{StmtKind}
use Rattle.hv_tree.specs.declared.ast.Arg.TheOpen.{Arg-F, ExprKind-F, Step-F, StmtKind-F, Block-F, Branch-F, Call-F, Expr-F, PlaceExpr-F, Stmt-F}
use Rattle.hv_tree.specs.declared.ast.Arg.TheFolds.{fold-Arg, fold-ExprKind, fold-Step, fold-StmtKind, fold-Block, fold-Branch, fold-Call, fold-Expr, fold-PlaceExpr, fold-Stmt}

-- ---- types

mutual
  pub data CoreTy : Type 0 where
    IntTy : Place → CoreTy
    BoolTy : Place → CoreTy
    NamedTy : Name → CoreTy
    ArrayTy : Place → CoreTy → CoreTy
    -- the parameters, without and with a result
    FunTy : Place → CoreTys → CoreTy
    FunToTy : Place → CoreTys → CoreTy → CoreTy

  pub data CoreTys : Type 0 where
    NoTys : CoreTys
    TyOf : Conv → CoreTy → CoreTys → CoreTys

abbrev pub core_tys_of : List (Conv × CoreTy) → CoreTys
core_tys_of [] = NoTys
core_tys_of (t ∷ more) = TyOf t.0 t.1 (core_tys_of more)

abbrev pub fun_core : Place → CoreTys → Option CoreTy → CoreTy
fun_core at params None = FunTy at params
fun_core at params (Some t) = FunToTy at params t

abbrev pub ty_core : Ty-F CoreTy → CoreTy
ty_core (Ty-F.Int at) = IntTy at
ty_core (Ty-F.Bool at) = BoolTy at
ty_core (Ty-F.Named name) = NamedTy name
ty_core (Ty-F.Array at element) = ArrayTy at element
ty_core (Ty-F.Fun at params result) = fun_core at (core_tys_of params) result

unfoldable pub core_ty : Ty → CoreTy
core_ty = fold-Ty CoreTy ty_core

abbrev pub core_option_ty : Option Ty → Option CoreTy
core_option_ty None = None
core_option_ty (Some t) = Some (core_ty t)

pub record CoreParam : Type 0 where
  pub name : Name
  pub conv : Conv
  pub ty : CoreTy

abbrev pub core_param : Param → CoreParam
core_param p = record { name = p.name; conv = p.conv; ty = core_ty p.ty }

-- ---- expressions and statements

mutual
  pub data CoreExpr : Type 0 where
    Number : Place → ℤ → CoreExpr
    Truth : Place → Bool → CoreExpr
    -- the root and the steps
    Path : Place → Name → CoreSteps → CoreExpr
    Calls : Place → CoreCall → CoreExpr
    Awaits : Place → Name → CoreExpr
    Array : Place → CoreExprs → CoreExpr
    Filled : Place → CoreExpr → CoreExpr → CoreExpr
    Count : Place → Name → CoreSteps → CoreExpr
    -- the captures, the parameters, the result and the body
    Lambda : Place → List Name → List CoreParam → Option CoreTy → CoreBlock → CoreExpr
    Prefix : Place → Operator → CoreExpr → CoreExpr
    Chain : Place → CoreExpr → CoreLinks → CoreExpr

  pub data CoreExprs : Type 0 where
    NoExprs : CoreExprs
    ExprOf : CoreExpr → CoreExprs → CoreExprs

  -- the operators with their places and right operands
  pub data CoreLinks : Type 0 where
    NoLinks : CoreLinks
    LinkOf : Operator → Place → CoreExpr → CoreLinks → CoreLinks

  pub data CoreSteps : Type 0 where
    NoSteps : CoreSteps
    FieldStep : Name → CoreSteps → CoreSteps
    -- the place of the `[`, and the index
    IndexStep : Place → CoreExpr → CoreSteps → CoreSteps

  -- the callee's root and steps, the place of the `(` and the arguments
  pub data CoreCall : Type 0 where
    CallOf : Name → CoreSteps → Place → CoreArgs → CoreCall

  pub data CoreArgs : Type 0 where
    NoArgs : CoreArgs
    ValueArg : CoreExpr → CoreArgs → CoreArgs
    -- the place of the `&`, the root and the steps
    RefArg : Place → Name → CoreSteps → CoreArgs → CoreArgs

  -- the statements, and the place of the `}`
  pub data CoreBlock : Type 0 where
    BlockOf : CoreStmts → Place → CoreBlock

  pub data CoreStmts : Type 0 where
    NoStmts : CoreStmts
    StmtOf : CoreStmt → CoreStmts → CoreStmts

  -- the tests with their blocks, and then the last `else`, if there is one
  pub data CoreBranches : Type 0 where
    NoElse : CoreBranches
    Else : CoreBlock → CoreBranches
    BranchOf : CoreExpr → CoreBlock → CoreBranches → CoreBranches

  pub data CoreStmt : Type 0 where
    Var : Place → Name → CoreTy → CoreStmt
    VarWith : Place → Name → CoreTy → CoreExpr → CoreStmt
    Let : Place → Name → CoreTy → CoreExpr → CoreStmt
    Inout : Place → Name → CoreTy → Name → CoreSteps → CoreStmt
    Assign : Place → Name → CoreSteps → CoreExpr → CoreStmt
    If : Place → CoreBranches → CoreStmt
    While : Place → CoreExpr → CoreBlock → CoreStmt
    Return : Place → CoreStmt
    ReturnWith : Place → CoreExpr → CoreStmt
    Print : Place → CoreExpr → CoreStmt
    -- the handle, its type, the place of the word `spawn`, the budget and the call
    Task : Place → Name → Option CoreTy → Place → CoreExpr → CoreCall → CoreStmt
    AwaitsAlone : Place → Name → CoreStmt
    CallsAlone : Place → CoreCall → CoreStmt
    Bare : Place → CoreBlock → CoreStmt

-- ---- chains

-- what stands in a list, each before the rest
abbrev pub chained : {B : Type 0} → List (B → B) → B → B
chained [] last = last
chained (f ∷ fs) last = f (chained fs last)

abbrev pub exprs_of : List CoreExpr → CoreExprs
exprs_of [] = NoExprs
exprs_of (x ∷ xs) = ExprOf x (exprs_of xs)

abbrev pub links_of : List (Operator × Place × CoreExpr) → CoreLinks
links_of [] = NoLinks
links_of (l ∷ ls) = LinkOf l.0 l.1 l.2 (links_of ls)

abbrev pub stmts_of : List CoreStmt → CoreStmts
stmts_of [] = NoStmts
stmts_of (x ∷ xs) = StmtOf x (stmts_of xs)

abbrev pub else_of : Option CoreBlock → CoreBranches
else_of None = NoElse
else_of (Some b) = Else b

abbrev pub var_of : Place → Name → CoreTy → Option CoreExpr → CoreStmt
var_of at name t None = Var at name t
var_of at name t (Some x) = VarWith at name t x

abbrev pub return_of : Place → Option CoreExpr → CoreStmt
return_of at None = Return at
return_of at (Some x) = ReturnWith at x

-- ---- one level of the tree, the parts below it as plain data

abbrev pub Layer : ((a k s t b r c e p u : Type 0) → Type 0) → Type 0
Layer F = F (CoreArgs → CoreArgs) (Place → CoreExpr) (CoreSteps → CoreSteps) (Place → CoreStmt) CoreBlock (CoreBranches → CoreBranches) CoreCall CoreExpr (Name × CoreSteps) CoreStmt

abbrev pub arg_core : Layer Arg-F → CoreArgs → CoreArgs
arg_core (Arg-F.Value x) rest = ValueArg x rest
arg_core (Arg-F.Ref at p) rest = RefArg at p.0 p.1 rest

abbrev pub kind_core : Layer ExprKind-F → Place → CoreExpr
kind_core (ExprKind-F.Int z) at = Number at z
kind_core (ExprKind-F.Bool b) at = Truth at b
kind_core (ExprKind-F.Path p) at = Path at p.0 p.1
kind_core (ExprKind-F.ExprKind::Call c) at = Calls at c
kind_core (ExprKind-F.ExprKind::Await name) at = Awaits at name
kind_core (ExprKind-F.ArrayLit xs) at = Array at (exprs_of xs)
kind_core (ExprKind-F.Filled len value) at = Filled at len value
kind_core (ExprKind-F.Count p) at = Count at p.0 p.1
kind_core (ExprKind-F.Lambda captures params result body) at = Lambda at captures (map core_param params) (core_option_ty result) body
kind_core (ExprKind-F.Prefix o x) at = Prefix at o x
kind_core (ExprKind-F.Chain first links) at = Chain at first (links_of links)

abbrev pub step_core : Layer Step-F → CoreSteps → CoreSteps
step_core (Step-F.Field name) rest = FieldStep name rest
step_core (Step-F.Index at x) rest = IndexStep at x rest

abbrev pub stmt_core : Layer StmtKind-F → Place → CoreStmt
stmt_core (StmtKind-F.Var name t value) at = var_of at name (core_ty t) value
stmt_core (StmtKind-F.Let name t value) at = Let at name (core_ty t) value
stmt_core (StmtKind-F.Inout name t p) at = Inout at name (core_ty t) p.0 p.1
stmt_core (StmtKind-F.Assign p x) at = Assign at p.0 p.1 x
stmt_core (StmtKind-F.If branches otherwise) at = If at (chained branches (else_of otherwise))
stmt_core (StmtKind-F.While test body) at = While at test body
stmt_core (StmtKind-F.Return value) at = return_of at value
stmt_core (StmtKind-F.Print x) at = Print at x
stmt_core (StmtKind-F.Task handle t spawn budget c) at = Task at handle (core_option_ty t) spawn budget c
stmt_core (StmtKind-F.StmtKind::Await name) at = AwaitsAlone at name
stmt_core (StmtKind-F.StmtKind::Call c) at = CallsAlone at c
stmt_core (StmtKind-F.Block b) at = Bare at b

abbrev pub block_core : Layer Block-F → CoreBlock
block_core b = BlockOf (stmts_of b.stmts) b.end

abbrev pub branch_core : Layer Branch-F → CoreBranches → CoreBranches
branch_core b rest = BranchOf b.test b.body rest

abbrev pub call_core : Layer Call-F → CoreCall
call_core c = CallOf c.callee.0 c.callee.1 c.paren (chained c.args NoArgs)

abbrev pub expr_core : Layer Expr-F → CoreExpr
expr_core x = x.kind x.place

abbrev pub place_core : Layer PlaceExpr-F → Name × CoreSteps
place_core p = (p.root, chained p.steps NoSteps)

abbrev pub whole_core : Layer Stmt-F → CoreStmt
whole_core x = x.kind x.place

-- ---- the plain form of each part

unfoldable pub core_arg : Arg → CoreArgs → CoreArgs
core_arg =
    fold-Arg (CoreArgs → CoreArgs) (Place → CoreExpr) (CoreSteps → CoreSteps) (Place → CoreStmt) CoreBlock (CoreBranches → CoreBranches) CoreCall CoreExpr (Name × CoreSteps) CoreStmt
    arg_core kind_core step_core stmt_core block_core branch_core call_core expr_core place_core whole_core

unfoldable pub core_kind : ExprKind → Place → CoreExpr
core_kind =
    fold-ExprKind (CoreArgs → CoreArgs) (Place → CoreExpr) (CoreSteps → CoreSteps) (Place → CoreStmt) CoreBlock (CoreBranches → CoreBranches) CoreCall CoreExpr (Name × CoreSteps) CoreStmt
    arg_core kind_core step_core stmt_core block_core branch_core call_core expr_core place_core whole_core

unfoldable pub core_step : Step → CoreSteps → CoreSteps
core_step =
    fold-Step (CoreArgs → CoreArgs) (Place → CoreExpr) (CoreSteps → CoreSteps) (Place → CoreStmt) CoreBlock (CoreBranches → CoreBranches) CoreCall CoreExpr (Name × CoreSteps) CoreStmt
    arg_core kind_core step_core stmt_core block_core branch_core call_core expr_core place_core whole_core

unfoldable pub core_stmt_kind : StmtKind → Place → CoreStmt
core_stmt_kind =
    fold-StmtKind (CoreArgs → CoreArgs) (Place → CoreExpr) (CoreSteps → CoreSteps) (Place → CoreStmt) CoreBlock (CoreBranches → CoreBranches) CoreCall CoreExpr (Name × CoreSteps) CoreStmt
    arg_core kind_core step_core stmt_core block_core branch_core call_core expr_core place_core whole_core

unfoldable pub core_block : Block → CoreBlock
core_block =
    fold-Block (CoreArgs → CoreArgs) (Place → CoreExpr) (CoreSteps → CoreSteps) (Place → CoreStmt) CoreBlock (CoreBranches → CoreBranches) CoreCall CoreExpr (Name × CoreSteps) CoreStmt
    arg_core kind_core step_core stmt_core block_core branch_core call_core expr_core place_core whole_core

unfoldable pub core_branch : Branch → CoreBranches → CoreBranches
core_branch =
    fold-Branch (CoreArgs → CoreArgs) (Place → CoreExpr) (CoreSteps → CoreSteps) (Place → CoreStmt) CoreBlock (CoreBranches → CoreBranches) CoreCall CoreExpr (Name × CoreSteps) CoreStmt
    arg_core kind_core step_core stmt_core block_core branch_core call_core expr_core place_core whole_core

unfoldable pub core_call : Call → CoreCall
core_call =
    fold-Call (CoreArgs → CoreArgs) (Place → CoreExpr) (CoreSteps → CoreSteps) (Place → CoreStmt) CoreBlock (CoreBranches → CoreBranches) CoreCall CoreExpr (Name × CoreSteps) CoreStmt
    arg_core kind_core step_core stmt_core block_core branch_core call_core expr_core place_core whole_core

unfoldable pub core_of : Expr → CoreExpr
core_of =
    fold-Expr (CoreArgs → CoreArgs) (Place → CoreExpr) (CoreSteps → CoreSteps) (Place → CoreStmt) CoreBlock (CoreBranches → CoreBranches) CoreCall CoreExpr (Name × CoreSteps) CoreStmt
    arg_core kind_core step_core stmt_core block_core branch_core call_core expr_core place_core whole_core

unfoldable pub core_place : PlaceExpr → Name × CoreSteps
core_place =
    fold-PlaceExpr (CoreArgs → CoreArgs) (Place → CoreExpr) (CoreSteps → CoreSteps) (Place → CoreStmt) CoreBlock (CoreBranches → CoreBranches) CoreCall CoreExpr (Name × CoreSteps) CoreStmt
    arg_core kind_core step_core stmt_core block_core branch_core call_core expr_core place_core whole_core

unfoldable pub core_stmt : Stmt → CoreStmt
core_stmt =
    fold-Stmt (CoreArgs → CoreArgs) (Place → CoreExpr) (CoreSteps → CoreSteps) (Place → CoreStmt) CoreBlock (CoreBranches → CoreBranches) CoreCall CoreExpr (Name × CoreSteps) CoreStmt
    arg_core kind_core step_core stmt_core block_core branch_core call_core expr_core place_core whole_core

-- ---- lists of parts, and declarations

abbrev pub core_steps : List Step → CoreSteps
core_steps steps = chained (map core_step steps) NoSteps

abbrev pub core_args : List Arg → CoreArgs
core_args args = chained (map core_arg args) NoArgs

abbrev pub core_exprs : List Expr → CoreExprs
core_exprs xs = exprs_of (map core_of xs)

abbrev pub core_link : Operator × Place × Expr → Operator × Place × CoreExpr
core_link l = (l.0, l.1, core_of l.2)

abbrev pub core_links : List (Operator × Place × Expr) → CoreLinks
core_links links = links_of (map core_link links)

abbrev pub core_stmts : List Stmt → CoreStmts
core_stmts stmts = stmts_of (map core_stmt stmts)

abbrev pub core_option_block : Option Block → CoreBranches
core_option_block None = NoElse
core_option_block (Some b) = Else (core_block b)

abbrev pub core_branches : List Branch → Option Block → CoreBranches
core_branches branches otherwise = chained (map core_branch branches) (core_option_block otherwise)

pub record CoreField : Type 0 where
  pub name : Name
  pub ty : CoreTy

abbrev pub core_field : Field → CoreField
core_field f = record { name = f.name; ty = core_ty f.ty }

pub record CoreStruct : Type 0 where
  pub name : Name
  pub fields : List CoreField

pub record CoreFun : Type 0 where
  pub name : Name
  pub params : List CoreParam
  pub result : Option CoreTy
  pub body : CoreBlock

pub data CoreDecl : Type 0 where
  StructOf : CoreStruct → CoreDecl
  FunOf : CoreFun → CoreDecl

abbrev pub core_decl : Decl → CoreDecl
core_decl (decl.Struct s) = StructOf (record { name = s.name; fields = map core_field s.fields })
core_decl (decl.Fun f) = FunOf (record { name = f.name; params = map core_param f.params; result = core_option_ty f.result; body = core_block f.body })

-- the plain form of a program
pub record Core : Type 0 where
  pub decls : List CoreDecl

abbrev pub core_tree : Tree → Core
core_tree tree = record { decls = map core_decl tree.decls }

-- the place of the `}`
abbrev pub end_of : CoreBlock → Place
end_of (BlockOf stmts end) = end

-- the statements of a block
abbrev pub stmts_in : CoreBlock → CoreStmts
stmts_in (BlockOf stmts end) = stmts
