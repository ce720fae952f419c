-- The programs of which the law speaks: each local has a value from its declaration on, no place is changed through another or moved, and there are no tasks. Without parameters that are changed no argument may have `&`.
use Rattle.std.specs.Prelude.{◌≡◌, Bool, true, false, Option, Some, None, Contains}
use Rattle.hv_tree.specs.declared.types.Conv.TheVariants as conv
use Rattle.hv_tree.specs.Core.{Core, CoreDecl, CoreParam, CoreTy, IntTy, BoolTy, NamedTy, ArrayTy, FunTy, FunToTy, CoreTys, NoTys, TyOf, CoreExpr, Awaits, CoreBlock, BlockOf, CoreStmts, NoStmts, StmtOf, CoreStmt, Var, Inout, ReturnWith, Task, AwaitsAlone}
use Rattle.hv_decls.specs.Locals.{CoreBody}
use Rattle.hv_decls.specs.Sites.{Part, ExprPart, CallPart, PlacePart, StmtPart, TestPart, Site, sites_of, bodies_of}
use Rattle.hv_type_rules.specs.Names.{types_of_decl, types_of}

-- ---- conventions

abbrev mutual
  -- a function of the type only reads what it takes
  pub OnlyReads : CoreTy → Type 0
  OnlyReads (IntTy at) = Unit {0}
  OnlyReads (BoolTy at) = Unit {0}
  OnlyReads (NamedTy name) = Unit {0}
  OnlyReads (ArrayTy at element) = OnlyReads element
  OnlyReads (FunTy at params) = AllRead params
  OnlyReads (FunToTy at params result) = AllRead params × OnlyReads result

  -- each parameter is `let`
  pub AllRead : CoreTys → Type 0
  AllRead NoTys = Unit {0}
  AllRead (TyOf c t rest) = (c ≡ conv.Let) × OnlyReads t × AllRead rest

-- ---- statements and expressions

-- neither a `var` without a value, nor an `inout` binding, nor a task, nor an await
abbrev pub StmtRuns : CoreStmt → Type 0
StmtRuns (Var at name t) = ⊥
StmtRuns (Inout at name t root steps) = ⊥
StmtRuns (Task at name t word budget call) = ⊥
StmtRuns (AwaitsAlone at name) = ⊥
StmtRuns _ = Unit {0}

-- no await
abbrev pub ExprRuns : CoreExpr → Type 0
ExprRuns (Awaits at name) = ⊥
ExprRuns _ = Unit {0}

abbrev pub PartRuns : Part → Type 0
PartRuns (ExprPart x) = ExprRuns x
PartRuns (CallPart call) = Unit {0}
PartRuns (PlacePart root steps) = Unit {0}
PartRuns (StmtPart x) = StmtRuns x
PartRuns (TestPart x) = Unit {0}

-- ---- ends of bodies

abbrev pub gives_back : CoreStmt → Bool
gives_back (ReturnWith at x) = true
gives_back _ = false

-- the last statement is a `return` with a value
abbrev pub ends_in_return : CoreStmts → Bool
ends_in_return NoStmts = false
ends_in_return (StmtOf x NoStmts) = gives_back x
ends_in_return (StmtOf x (StmtOf y rest)) = ends_in_return (StmtOf y rest)

abbrev pub block_ends_in_return : CoreBlock → Bool
block_ends_in_return (BlockOf stmts end) = ends_in_return stmts

-- a block whose end isn't reached, where there is a result
abbrev pub Returns : Option CoreTy → CoreBlock → Type 0
Returns None block = Unit {0}
Returns (Some t) block = block_ends_in_return block ≡ true

-- ---- programs

pub record Runs (tree : Core) : Type 0 where
  -- the parameters of functions and lambdas are `let`
  pub params : (body : CoreBody) (p : CoreParam) → Contains (bodies_of tree) body → Contains body.params p → p.conv ≡ conv.Let
  -- and those of function types, wherever these are written
  pub of_decls : (d : CoreDecl) (t : CoreTy) → Contains tree.decls d → Contains (types_of_decl d) t → OnlyReads t
  pub of_parts : (w : Site) (t : CoreTy) → Contains (sites_of tree) w → Contains (types_of w.part) t → OnlyReads t
  pub parts : (w : Site) → Contains (sites_of tree) w → PartRuns w.part
  pub returns : (body : CoreBody) → Contains (bodies_of tree) body → Returns body.result body.block
