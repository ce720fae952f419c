-- A program with each form, as it is printed.
use Rattle.std.proofs.Common.{◌≡◌, ℕ, List, [], ◌∷◌, ◌++◌, Some, None, true, refl, codes}
use Rattle.hv_tree.specs.declared.place.Place.{Place}
use Rattle.hv_tree.specs.declared.types.Name.{Name}
use Rattle.hv_tree.specs.declared.types.Conv.TheVariants as conv
use Rattle.hv_tree.specs.declared.ast.Operator.TheVariants as operator
use Rattle.hv_tree.specs.Core.{CoreTy, IntTy, BoolTy, NamedTy, ArrayTy, FunToTy, NoTys, TyOf, CoreExpr, Truth, Path, Calls, Awaits, Array, Filled, Count, Lambda, Prefix, Chain, NoExprs, ExprOf, CoreLinks, NoLinks, LinkOf, CoreSteps, NoSteps, FieldStep, IndexStep, CoreCall, CallOf, CoreArgs, NoArgs, ValueArg, RefArg, CoreBlock, BlockOf, CoreStmts, NoStmts, StmtOf, Else, BranchOf, CoreStmt, Var, VarWith, Let, Inout, Assign, If, While, Return, ReturnWith, Print, Task, AwaitsAlone, CallsAlone, Bare, CoreDecl, StructOf, FunOf}
use Rattle.hv_tree.specs.Printed.{decls_text}

abbrev lines : List (List ℕ) → List ℕ
lines [] = []
lines (t ∷ ts) = t ++ (10 ∷ lines ts)

module _ (p : Place) where
  abbrev named : List ℕ → Name
  named s = record { text = s; place = p }

  abbrev a : CoreExpr
  a = Path p (named (codes "a")) NoSteps

  abbrev b : CoreExpr
  b = Path p (named (codes "b")) NoSteps

  abbrev two : CoreExpr → CoreExpr → CoreLinks → CoreExpr
  two x y links = Chain p x (LinkOf operator.Add p y links)

  abbrev product : CoreExpr → CoreExpr → CoreExpr
  product x y = Chain p x (LinkOf operator.Mul p y NoLinks)

  abbrev call : CoreArgs → CoreCall
  call args = CallOf (named (codes "f")) NoSteps p args

  abbrev parts : CoreSteps
  parts = FieldStep (named (codes "x")) (IndexStep p a NoSteps)

  abbrev block : CoreStmts → CoreBlock
  block stmts = BlockOf stmts p

  abbrev lambda : CoreExpr
  lambda =
      Lambda p (named (codes "a") ∷ named (codes "b") ∷ []) (record { name = named (codes "x"); conv = conv.Sink; ty = IntTy p } ∷ []) (Some (IntTy p))
      (block (StmtOf (Print p (Array p (ExprOf a (ExprOf (Awaits p (named (codes "h"))) NoExprs)))) NoStmts))

  abbrev result : CoreTy
  result = FunToTy p (TyOf conv.Let (IntTy p) (TyOf conv.Inout (BoolTy p) NoTys)) (FunToTy p NoTys (ArrayTy p (IntTy p)))

  abbrev choice : CoreStmt
  choice =
      If p (BranchOf a (block (StmtOf (Return p) NoStmts))
      (BranchOf (Prefix p operator.Not (Chain p a (LinkOf operator.Eq p b NoLinks))) (block (StmtOf (ReturnWith p a) NoStmts)) (Else (block NoStmts))))

  abbrev difference : CoreExpr
  difference =
      Chain p (product (two a b NoLinks) b)
      (LinkOf operator.Sub p (Chain p a (LinkOf operator.Sub p b NoLinks)) (LinkOf operator.Sub p (product a b) NoLinks))

  abbrev stmts : CoreStmts
  stmts =
      StmtOf (Var p (named (codes "x")) (IntTy p))
      (StmtOf (VarWith p (named (codes "y")) (IntTy p) a)
      (StmtOf (Let p (named (codes "z")) (NamedTy (named (codes "P"))) (Calls p (call (ValueArg a (RefArg p (named (codes "b")) parts NoArgs)))))
      (StmtOf (Inout p (named (codes "r")) (IntTy p) (named (codes "b")) parts)
      (StmtOf (Assign p (named (codes "b")) parts (Prefix p operator.Neg (Prefix p operator.Neg a)))
      (StmtOf choice
      (StmtOf (While p (Truth p true) (block NoStmts))
      (StmtOf (Bare p (block (StmtOf (Print p difference) NoStmts)))
      (StmtOf (Task p (named (codes "h")) (Some (IntTy p)) p a (call NoArgs))
      (StmtOf (Task p (named (codes "k")) None p a (call NoArgs))
      (StmtOf (AwaitsAlone p (named (codes "h")))
      (StmtOf (CallsAlone p (call (ValueArg lambda NoArgs)))
      (StmtOf (Print p (Filled p a (Count p (named (codes "b")) NoSteps))) NoStmts))))))))))))

  abbrev struct : CoreDecl
  struct = StructOf (record { name = named (codes "P"); fields = record { name = named (codes "x"); ty = IntTy p } ∷ [] })

  abbrev function : CoreDecl
  function = FunOf (record {
    name = named (codes "f");
    params = record { name = named (codes "a"); conv = conv.Let; ty = IntTy p } ∷ record { name = named (codes "b"); conv = conv.Inout; ty = NamedTy (named (codes "P")) } ∷ [];
    result = Some result;
    body = block stmts;
  })

  printed : decls_text (struct ∷ function ∷ []) ≡ lines (
      codes "struct P {" ∷
      codes "  var x: Int" ∷
      codes "}" ∷
      codes "fun f(a: Int, b: inout P) -> fun(Int, inout Bool) -> (fun() -> [Int]) {" ∷
      codes "  var x: Int" ∷
      codes "  var y: Int = a" ∷
      codes "  let z: P = f(a, &b.x[a])" ∷
      codes "  inout r: Int = &b.x[a]" ∷
      codes "  &b.x[a] = -(-a)" ∷
      codes "  if a {" ∷
      codes "    return;" ∷
      codes "  } else if !(a == b) {" ∷
      codes "    return a" ∷
      codes "  } else {" ∷
      codes "  }" ∷
      codes "  while true {" ∷
      codes "  }" ∷
      codes "  {" ∷
      codes "    print((a + b) * b - (a - b) - a * b)" ∷
      codes "  }" ∷
      codes "  task h: Int = spawn(a) f()" ∷
      codes "  task k = spawn(a) f()" ∷
      codes "  await h" ∷
      codes "  f(fun [a, b] (x: sink Int) -> Int {" ∷
      codes "    print([a, await h])" ∷
      codes "  })" ∷
      codes "  print(filled(a, count(b)))" ∷
      codes "}" ∷ [])
  printed = refl
