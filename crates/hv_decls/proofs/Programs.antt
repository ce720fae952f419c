-- Parts of the programs that the examples are about.
use Rattle.std.proofs.Common.{ℕ, pos, List, [], ◌∷◌, Option, codes}
use Rattle.hv_tree.specs.declared.place.Place.{Place}
use Rattle.hv_tree.specs.declared.types.Name.{Name}
use Rattle.hv_tree.specs.declared.types.Conv.{Conv}
use Rattle.hv_tree.specs.Core.{Core, FunOf, CoreFun, CoreParam, CoreTy, IntTy, CoreExpr, Number, Path, NoSteps, BlockOf, CoreStmts, NoStmts, StmtOf, CoreStmt}

-- a place that no rule looks at
abbrev pub o : Place
o = record { start = 0 }

abbrev pub at : ℕ → Place
at n = record { start = n }

abbrev pub name : List ℕ → Name
name s = record { text = s; place = o }

abbrev pub name_at : ℕ → List ℕ → Name
name_at n s = record { text = s; place = at n }

abbrev pub stmts : List CoreStmt → CoreStmts
stmts [] = NoStmts
stmts (x ∷ xs) = StmtOf x (stmts xs)

-- a function, and the place of its `}`
abbrev pub fun : List ℕ → List CoreParam → Option CoreTy → List CoreStmt → ℕ → CoreFun
fun s params result xs end = record { name = name s; params = params; result = result; body = BlockOf (stmts xs) (at end) }

abbrev pub param : List ℕ → Conv → CoreTy → CoreParam
param s c t = record { name = name s; conv = c; ty = t }

abbrev pub int : CoreTy
int = IntTy o

abbrev pub num : ℕ → CoreExpr
num n = Number o (pos n)

abbrev pub read : List ℕ → CoreExpr
read s = Path o (name s) NoSteps

abbrev pub x : List ℕ
x = codes "x"

abbrev pub f : List ℕ
f = codes "f"

abbrev pub h : List ℕ
h = codes "h"

abbrev pub alone : CoreFun → Core
alone g = record { decls = FunOf g ∷ [] }

abbrev pub two : CoreFun → CoreFun → Core
two g k = record { decls = FunOf g ∷ (FunOf k ∷ []) }
