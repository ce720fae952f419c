-- All places that stand in a tree, in the order of its parts.
use Rattle.std.specs.Prelude.{List, [], ◌∷◌, ◌++◌, Option, Some, None, Contains}
use Rattle.hv_tree.specs.declared.place.Place.{Place}
use Rattle.hv_tree.specs.declared.types.Name.{Name}
use Rattle.hv_tree.specs.Core.{Core, CoreDecl, StructOf, FunOf, CoreParam, CoreField, CoreTy, IntTy, BoolTy, NamedTy, ArrayTy, FunTy, FunToTy, CoreTys, NoTys, TyOf, CoreExpr, Number, Truth, Path, Calls, Awaits, Array, Filled, Count, Lambda, Prefix, Chain, CoreExprs, NoExprs, ExprOf, CoreLinks, NoLinks, LinkOf, CoreSteps, NoSteps, FieldStep, IndexStep, CoreCall, CallOf, CoreArgs, NoArgs, ValueArg, RefArg, CoreBlock, BlockOf, CoreStmts, NoStmts, StmtOf, CoreBranches, NoElse, Else, BranchOf, CoreStmt, Var, VarWith, Let, Inout, Assign, If, While, Return, ReturnWith, Print, Task, AwaitsAlone, CallsAlone, Bare}

-- ---- types and names

abbrev mutual
  -- those of a type
  pub in_ty : CoreTy → List Place
  in_ty (IntTy at) = at ∷ []
  in_ty (BoolTy at) = at ∷ []
  in_ty (NamedTy name) = name.place ∷ []
  in_ty (ArrayTy at element) = at ∷ in_ty element
  in_ty (FunTy at params) = at ∷ in_tys params
  in_ty (FunToTy at params result) = at ∷ (in_tys params ++ in_ty result)

  -- those of the types of parameters
  pub in_tys : CoreTys → List Place
  in_tys NoTys = []
  in_tys (TyOf c t rest) = in_ty t ++ in_tys rest

-- those of a type that may lack
abbrev pub in_result : Option CoreTy → List Place
in_result None = []
in_result (Some t) = in_ty t

-- those of names
abbrev pub in_names : List Name → List Place
in_names [] = []
in_names (name ∷ names) = name.place ∷ in_names names

-- those of parameters
abbrev pub in_params : List CoreParam → List Place
in_params [] = []
in_params (p ∷ params) = p.name.place ∷ (in_ty p.ty ++ in_params params)

-- ---- expressions and statements

abbrev mutual
  -- those of an expression
  pub in_expr : CoreExpr → List Place
  in_expr (Number at z) = at ∷ []
  in_expr (Truth at b) = at ∷ []
  in_expr (Path at root steps) = at ∷ (root.place ∷ in_steps steps)
  in_expr (Calls at call) = at ∷ in_call call
  in_expr (Awaits at name) = at ∷ (name.place ∷ [])
  in_expr (Array at xs) = at ∷ in_exprs xs
  in_expr (Filled at len value) = at ∷ (in_expr len ++ in_expr value)
  in_expr (Count at root steps) = at ∷ (root.place ∷ in_steps steps)
  in_expr (Lambda at captures params result body) = at ∷ (in_names captures ++ (in_params params ++ (in_result result ++ in_block body)))
  in_expr (Prefix at o x) = at ∷ in_expr x
  in_expr (Chain at first links) = at ∷ (in_expr first ++ in_links links)

  -- those of a list of expressions
  pub in_exprs : CoreExprs → List Place
  in_exprs NoExprs = []
  in_exprs (ExprOf x rest) = in_expr x ++ in_exprs rest

  -- those of the operators of a chain with their right operands
  pub in_links : CoreLinks → List Place
  in_links NoLinks = []
  in_links (LinkOf o at x rest) = at ∷ (in_expr x ++ in_links rest)

  -- those of steps
  pub in_steps : CoreSteps → List Place
  in_steps NoSteps = []
  in_steps (FieldStep name rest) = name.place ∷ in_steps rest
  in_steps (IndexStep at x rest) = at ∷ (in_expr x ++ in_steps rest)

  -- those of a call
  pub in_call : CoreCall → List Place
  in_call (CallOf root steps at args) = root.place ∷ (in_steps steps ++ (at ∷ in_args args))

  -- those of arguments
  pub in_args : CoreArgs → List Place
  in_args NoArgs = []
  in_args (ValueArg x rest) = in_expr x ++ in_args rest
  in_args (RefArg at root steps rest) = at ∷ (root.place ∷ (in_steps steps ++ in_args rest))

  -- those of a block, that of its `}` last
  pub in_block : CoreBlock → List Place
  in_block (BlockOf stmts end) = in_stmts stmts ++ (end ∷ [])

  -- those of statements
  pub in_stmts : CoreStmts → List Place
  in_stmts NoStmts = []
  in_stmts (StmtOf x rest) = in_stmt x ++ in_stmts rest

  -- those of tests and blocks
  pub in_branches : CoreBranches → List Place
  in_branches NoElse = []
  in_branches (Else block) = in_block block
  in_branches (BranchOf test body rest) = in_expr test ++ (in_block body ++ in_branches rest)

  -- those of a statement
  pub in_stmt : CoreStmt → List Place
  in_stmt (Var at name t) = at ∷ (name.place ∷ in_ty t)
  in_stmt (VarWith at name t x) = at ∷ (name.place ∷ (in_ty t ++ in_expr x))
  in_stmt (Let at name t x) = at ∷ (name.place ∷ (in_ty t ++ in_expr x))
  in_stmt (Inout at name t root steps) = at ∷ (name.place ∷ (in_ty t ++ (root.place ∷ in_steps steps)))
  in_stmt (Assign at root steps x) = at ∷ (root.place ∷ (in_steps steps ++ in_expr x))
  in_stmt (If at branches) = at ∷ in_branches branches
  in_stmt (While at test body) = at ∷ (in_expr test ++ in_block body)
  in_stmt (Return at) = at ∷ []
  in_stmt (ReturnWith at x) = at ∷ in_expr x
  in_stmt (Print at x) = at ∷ in_expr x
  in_stmt (Task at name t spawn budget call) = at ∷ (name.place ∷ (in_result t ++ (spawn ∷ (in_expr budget ++ in_call call))))
  in_stmt (AwaitsAlone at name) = at ∷ (name.place ∷ [])
  in_stmt (CallsAlone at call) = at ∷ in_call call
  in_stmt (Bare at block) = at ∷ in_block block

-- ---- programs

-- those of fields
abbrev pub in_fields : List CoreField → List Place
in_fields [] = []
in_fields (f ∷ fields) = f.name.place ∷ (in_ty f.ty ++ in_fields fields)

-- those of a declaration
abbrev pub in_decl : CoreDecl → List Place
in_decl (StructOf s) = s.name.place ∷ in_fields s.fields
in_decl (FunOf f) = f.name.place ∷ (in_params f.params ++ (in_result f.result ++ in_block f.body))

-- those of declarations
abbrev pub in_decls : List CoreDecl → List Place
in_decls [] = []
in_decls (d ∷ decls) = in_decl d ++ in_decls decls

-- all places of a program
abbrev pub places_of : Core → List Place
places_of tree = in_decls tree.decls

-- the place stands somewhere in the program
abbrev pub IsIn : Place → Core → Type 0
IsIn place tree = Contains (places_of tree) place
