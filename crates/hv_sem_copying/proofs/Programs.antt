-- Parts of the programs that the examples are about.
use Rattle.std.proofs.Common.{ℕ, pos, List, [], ◌∷◌, ◌++◌, Option, None, codes}
use Rattle.hv_tree.specs.declared.place.Place.{Place}
use Rattle.hv_tree.specs.declared.types.Name.{Name}
use Rattle.hv_tree.specs.declared.types.Conv.{Conv}
use Rattle.hv_tree.specs.declared.ast.Operator.{Operator}
use Rattle.hv_tree.specs.Core.{Core, CoreDecl, FunOf, CoreParam, CoreTy, IntTy, ArrayTy, CoreExpr, Number, Path, Chain, NoLinks, LinkOf, CoreExprs, NoExprs, ExprOf, CoreSteps, NoSteps, IndexStep, CoreCall, CallOf, CoreArgs, CoreBlock, BlockOf, CoreStmts, NoStmts, StmtOf, CoreStmt}
use Rattle.hv_value.specs.ValueTree.{ValueTree, Fields, Nil}
use Rattle.hv_value.specs.Texts.{text}
use Rattle.hv_sem_copying.specs.Node.{End, Done, Node, NodeOf, NoNodes}

abbrev pub at : ℕ → Place
at n = record { start = n }

-- a place that nothing of the example tells
abbrev pub o : Place
o = at 0

abbrev pub name_at : ℕ → List ℕ → Name
name_at n s = record { text = s; place = at n }

abbrev pub name : List ℕ → Name
name s = name_at 0 s

abbrev pub stmts : List CoreStmt → CoreStmts
stmts [] = NoStmts
stmts (x ∷ xs) = StmtOf x (stmts xs)

-- statements, and the place of the `}`
abbrev pub block : List CoreStmt → ℕ → CoreBlock
block xs end = BlockOf (stmts xs) (at end)

abbrev pub fun : List ℕ → List CoreParam → Option CoreTy → List CoreStmt → ℕ → CoreDecl
fun s params result xs end = FunOf (record { name = name s; params = params; result = result; body = block xs end })

abbrev pub main : List CoreStmt → ℕ → CoreDecl
main xs end = fun (codes "main") [] None xs end

abbrev pub program : List CoreDecl → Core
program decls = record { decls = decls }

abbrev pub param : List ℕ → Conv → CoreTy → CoreParam
param s c t = record { name = name s; conv = c; ty = t }

abbrev pub int : CoreTy
int = IntTy o

abbrev pub ints : CoreTy
ints = ArrayTy o int

abbrev pub num : ℕ → CoreExpr
num n = Number o (pos n)

-- a local whose name stands at this place
abbrev pub read : ℕ → List ℕ → CoreExpr
read n s = Path (at n) (name_at n s) NoSteps

-- the element with this index, whose `[` stands at the second place
abbrev pub element : ℕ → List ℕ → ℕ → CoreExpr → CoreExpr
element n s m x = Path (at n) (name_at n s) (IndexStep (at m) x NoSteps)

-- two operands, and the place of the operator
abbrev pub between : CoreExpr → Operator → ℕ → CoreExpr → CoreExpr
between x op n y = Chain o x (LinkOf op (at n) y NoLinks)

abbrev pub exprs : List CoreExpr → CoreExprs
exprs [] = NoExprs
exprs (x ∷ xs) = ExprOf x (exprs xs)

-- a call, and the place of its `(`
abbrev pub call : List ℕ → ℕ → CoreArgs → CoreCall
call s n args = CallOf (name s) NoSteps (at n) args

-- the root that used so many steps, with its end and its output
abbrev pub root : ℕ → End → List ℕ → Node
root steps end output = NodeOf (0 ∷ []) steps end output NoNodes

-- a root that is done gives nothing
abbrev pub done : End
done = Done (Fields Nil)

-- the output, and then a value's line
abbrev pub and_line : List ℕ → ValueTree → List ℕ
and_line output v = output ++ (text v ++ 10 ∷ [])

abbrev pub line : ValueTree → List ℕ
line v = and_line [] v

-- the locals of an example, by the places where their names stand
abbrev pub x : Name
x = name (codes "x")

abbrev pub x_at : ℕ → Name
x_at n = name_at n (codes "x")

abbrev pub a : Name
a = name (codes "a")

abbrev pub b : Name
b = name (codes "b")

abbrev pub i : Name
i = name (codes "i")

abbrev pub local : Name → CoreExpr
local name = Path name.place name NoSteps

abbrev pub at_index : ℕ → CoreExpr → CoreSteps → CoreSteps
at_index n index rest = IndexStep (at n) index rest
