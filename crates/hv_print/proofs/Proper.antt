-- What a tree is that some tokens spell, each of a spelling that a lexer makes.
use Rattle.std.proofs.Common.{◌≡◌, ◌⊎◌, List, [], ◌∷◌, Option, Some, None}
use Rattle.hv_tree.specs.declared.place.Place.{Place}
use Rattle.hv_tree.specs.declared.token.Token.{Token}
use Rattle.hv_tree.specs.declared.types.Name.{Name}
use Rattle.hv_tree.specs.declared.ast.Operator.{Operator}
use Rattle.hv_tree.specs.declared.ast.Operator.TheVariants as operator
use Rattle.hv_tree.specs.Tokens.{Level, Comparisons, IsInfix}
use Rattle.hv_tree.specs.Core.{CoreTy, IntTy, BoolTy, NamedTy, ArrayTy, FunTy, FunToTy, CoreTys, NoTys, TyOf, CoreParam, CoreExpr, Number, Truth, Path, Calls, Awaits, Array, Filled, Count, Lambda, Prefix, Chain, CoreExprs, NoExprs, ExprOf, CoreLinks, NoLinks, LinkOf, CoreSteps, NoSteps, FieldStep, IndexStep, CoreCall, CallOf, CoreArgs, NoArgs, ValueArg, RefArg, CoreBlock, BlockOf, CoreStmts, NoStmts, StmtOf, CoreBranches, NoElse, Else, BranchOf, CoreStmt, Var, VarWith, Let, Inout, Assign, If, While, Return, ReturnWith, Print, Task, AwaitsAlone, CallsAlone, Bare, CoreField, CoreDecl, StructOf, FunOf}
use Rattle.hv_print.specs.Spellings.{IsWordText, IsNumeral}

abbrev pub ProperName : Name → Type 0
ProperName name = IsWordText name.text

abbrev pub ProperNames : List Name → Type 0
ProperNames [] = Unit {0}
ProperNames (n ∷ more) = ProperName n × ProperNames more

-- ---- types

abbrev mutual
  pub ProperTy : CoreTy → Type 0
  ProperTy (IntTy at) = Unit {0}
  ProperTy (BoolTy at) = Unit {0}
  ProperTy (NamedTy name) = ProperName name
  ProperTy (ArrayTy at t) = ProperTy t
  ProperTy (FunTy at params) = ProperTys params
  ProperTy (FunToTy at params t) = ProperTys params × ProperTy t

  pub ProperTys : CoreTys → Type 0
  ProperTys NoTys = Unit {0}
  ProperTys (TyOf c t more) = ProperTy t × ProperTys more

abbrev pub ProperResult : Option CoreTy → Type 0
ProperResult None = Unit {0}
ProperResult (Some t) = ProperTy t

abbrev pub ProperParams : List CoreParam → Type 0
ProperParams [] = Unit {0}
ProperParams (p ∷ more) = ProperName p.name × ProperTy p.ty × ProperParams more

-- ---- operators

-- an operator of the level
abbrev pub IsOf : Level → Operator → Type 0
IsOf l o = (at : Place) × (sign : Token) × IsInfix at l o sign

abbrev pub IsPrefix : Operator → Type 0
IsPrefix o = (o ≡ operator.Neg) ⊎ (o ≡ operator.Not)

-- what may stand behind a link: nothing at the comparisons
abbrev pub MayGoOn : Level → CoreLinks → Type 0
MayGoOn l NoLinks = Unit {0}
MayGoOn l (LinkOf o at x more) = l ≡ Comparisons → ⊥

abbrev pub HasLink : CoreLinks → Type 0
HasLink NoLinks = ⊥
HasLink (LinkOf o at x more) = Unit {0}

abbrev pub HasElement : CoreExprs → Type 0
HasElement NoExprs = ⊥
HasElement (ExprOf x more) = Unit {0}

abbrev pub HasTest : CoreBranches → Type 0
HasTest NoElse = ⊥
HasTest (Else body) = ⊥
HasTest (BranchOf test body more) = Unit {0}

-- ---- expressions and statements

abbrev mutual
  pub ProperExpr : CoreExpr → Type 0
  ProperExpr (Number at z) = IsNumeral z
  ProperExpr (Truth at b) = Unit {0}
  ProperExpr (Path at root steps) = ProperName root × ProperSteps steps
  ProperExpr (Calls at c) = ProperCall c
  ProperExpr (Awaits at name) = ProperName name
  ProperExpr (Array at xs) = HasElement xs × ProperExprs xs
  ProperExpr (Filled at len value) = ProperExpr len × ProperExpr value
  ProperExpr (Count at root steps) = ProperName root × ProperSteps steps
  ProperExpr (Lambda at captures params result body) = ProperNames captures × ProperParams params × ProperResult result × ProperBlock body
  ProperExpr (Prefix at o x) = IsPrefix o × ProperExpr x
  ProperExpr (Chain at first links) = ProperExpr first × HasLink links × ((l : Level) × ProperLinks l links)

  pub ProperExprs : CoreExprs → Type 0
  ProperExprs NoExprs = Unit {0}
  ProperExprs (ExprOf x more) = ProperExpr x × ProperExprs more

  -- links with operators of the level
  pub ProperLinks : Level → CoreLinks → Type 0
  ProperLinks l NoLinks = Unit {0}
  ProperLinks l (LinkOf o at x more) = IsOf l o × ProperExpr x × MayGoOn l more × ProperLinks l more

  pub ProperSteps : CoreSteps → Type 0
  ProperSteps NoSteps = Unit {0}
  ProperSteps (FieldStep name more) = ProperName name × ProperSteps more
  ProperSteps (IndexStep at x more) = ProperExpr x × ProperSteps more

  pub ProperCall : CoreCall → Type 0
  ProperCall (CallOf root steps paren args) = ProperName root × ProperSteps steps × ProperArgs args

  pub ProperArgs : CoreArgs → Type 0
  ProperArgs NoArgs = Unit {0}
  ProperArgs (ValueArg x more) = ProperExpr x × ProperArgs more
  ProperArgs (RefArg at root steps more) = ProperName root × ProperSteps steps × ProperArgs more

  pub ProperBlock : CoreBlock → Type 0
  ProperBlock (BlockOf stmts end) = ProperStmts stmts

  pub ProperStmts : CoreStmts → Type 0
  ProperStmts NoStmts = Unit {0}
  ProperStmts (StmtOf x more) = ProperStmt x × ProperStmts more

  pub ProperBranches : CoreBranches → Type 0
  ProperBranches NoElse = Unit {0}
  ProperBranches (Else body) = ProperBlock body
  ProperBranches (BranchOf test body more) = ProperExpr test × ProperBlock body × ProperBranches more

  pub ProperStmt : CoreStmt → Type 0
  ProperStmt (Var at name t) = ProperName name × ProperTy t
  ProperStmt (VarWith at name t x) = ProperName name × ProperTy t × ProperExpr x
  ProperStmt (Let at name t x) = ProperName name × ProperTy t × ProperExpr x
  ProperStmt (Inout at name t root steps) = ProperName name × ProperTy t × ProperName root × ProperSteps steps
  ProperStmt (Assign at root steps x) = ProperName root × ProperSteps steps × ProperExpr x
  ProperStmt (If at branches) = HasTest branches × ProperBranches branches
  ProperStmt (While at test body) = ProperExpr test × ProperBlock body
  ProperStmt (Return at) = Unit {0}
  ProperStmt (ReturnWith at x) = ProperExpr x
  ProperStmt (Print at x) = ProperExpr x
  ProperStmt (Task at handle t spawn budget c) = ProperName handle × ProperResult t × ProperExpr budget × ProperCall c
  ProperStmt (AwaitsAlone at name) = ProperName name
  ProperStmt (CallsAlone at c) = ProperCall c
  ProperStmt (Bare at body) = ProperBlock body

-- ---- declarations

abbrev pub ProperFields : List CoreField → Type 0
ProperFields [] = Unit {0}
ProperFields (f ∷ more) = ProperName f.name × ProperTy f.ty × ProperFields more

abbrev pub ProperDecl : CoreDecl → Type 0
ProperDecl (StructOf s) = ProperName s.name × ProperFields s.fields
ProperDecl (FunOf f) = ProperName f.name × ProperParams f.params × ProperResult f.result × ProperBlock f.body

abbrev pub ProperDecls : List CoreDecl → Type 0
ProperDecls [] = Unit {0}
ProperDecls (d ∷ more) = ProperDecl d × ProperDecls more
