-- Programs that lend, move, fill, capture and spawn, worked out by hand. A place is told where something is told of it.
use Rattle.std.proofs.Common.{◌≡◌, ℕ, pos, true, List, [], ◌∷◌, Some, None, codes, refl}
use Rattle.hv_tree.specs.declared.types.Name.{Name}
use Rattle.hv_tree.specs.declared.types.Conv.TheVariants as conv
use Rattle.hv_tree.specs.declared.ast.Operator.TheVariants as operator
use Rattle.hv_tree.specs.Core.{Core, CoreDecl, StructOf, NamedTy, CoreStmt, Print, Var, VarWith, Let, Inout, Assign, If, BranchOf, Else, While, Return, ReturnWith, Task, CallsAlone, CoreExpr, Truth, Array, Lambda, Calls, NoSteps, FieldStep, CallOf, CoreArgs, NoArgs, ValueArg, RefArg, FunToTy, TyOf, NoTys}
use Rattle.hv_value.specs.ValueTree as tree
use Rattle.hv_sem_copying.specs.declared.end.TrapKind.TheVariants as trap_kind
use Rattle.hv_sem_copying.specs.Node.{Trapped, SpentAt, Id}
use Rattle.hv_sem_copying.specs.Run.{and_then, mine, become, pure, halt, trap, pay, say, with_reference, counted_from}
use Rattle.hv_sem_copying.specs.Blocks.{repeated}
use Rattle.hv_sem_copying.specs.Meaning.{node_of}
use Rattle.hv_sem_copying.proofs.Programs.{at, o, name_at, name, block, fun, main, program, param, int, ints, num, between, exprs, call, root, done, line, x, a, b, i, local, at_index}

abbrev number : ℕ → tree.ValueTree
number n = tree.Number (pos n)

abbrev here : Id
here = 0 ∷ []

abbrev f : List ℕ
f = codes "f"

-- `&name = e`
abbrev set : Name → CoreExpr → CoreStmt
set name e = Assign o name NoSteps e

-- ---- two elements are lent to a function that changes both
-- fun f(a: inout Int, b: inout Int) { &a = 1 &b = 2 }
-- fun main() { var a: [Int] = [7, 8] f(&a[0], &a[1]) print(a) }

abbrev changing : CoreDecl
changing = fun f (param (codes "a") conv.Inout int ∷ (param (codes "b") conv.Inout int ∷ [])) None (set a (num 1) ∷ (set b (num 2) ∷ [])) 50

abbrev element : ℕ → CoreArgs → CoreArgs
element n rest = RefArg o a (at_index 0 (num n) NoSteps) rest

abbrev lending : Core
lending = program (changing ∷ (main (VarWith o a ints (Array o (exprs (num 7 ∷ (num 8 ∷ [])))) ∷ (CallsAlone o (call f 70 (element 0 (element 1 NoArgs))) ∷ (Print o (local a) ∷ []))) 90 ∷ []))

-- 1 for the array, 1 and 1 for the call, 2 in it, and 1 and 3 to print
lending_printed : node_of lending 100 ≡ Some (root 9 done (line (tree.Elements (tree.Cons (number 1) (tree.Cons (number 2) tree.Nil)))))
unfolding node_of and_then mine become pure pay say with_reference counted_from
lending_printed = refl

-- with 2 steps the call is begun and can't be entered
lending_spent : node_of lending 2 ≡ Some (root 2 (SpentAt (at 70) here) [])
unfolding node_of and_then mine become pure pay say with_reference counted_from
lending_spent = refl

-- ---- a Return leaves two bindings, and each is written back
-- fun f(a: inout Int) { inout b: Int = &a inout i: Int = &b &i = 5 return; }
-- fun main() { var x: Int = 1 f(&x) print(x) }

abbrev leaving : Core
leaving =
    program (
    fun f (param (codes "a") conv.Inout int ∷ []) None (Inout o b int a NoSteps ∷ (Inout o i int b NoSteps ∷ (set i (num 5) ∷ (Return o ∷ [])))) 50 ∷ (
    main (VarWith o x int (num 1) ∷ (CallsAlone o (call f 70 (RefArg o x NoSteps NoArgs)) ∷ (Print o (local x) ∷ []))) 90 ∷ []))

leaving_printed : node_of leaving 100 ≡ Some (root 9 done (line (number 5)))
unfolding node_of and_then mine become pure pay say with_reference counted_from
leaving_printed = refl

-- ---- `fun f(x: set Int) { &x = 5 } fun main() { var a: Int f(&a) print(a) }`

abbrev setting : Core
setting =
    program (
    fun f (param (codes "x") conv.Set int ∷ []) None (set x (num 5) ∷ []) 30 ∷ (
    main (Var o a int ∷ (CallsAlone o (call f 50 (RefArg o a NoSteps NoArgs)) ∷ (Print o (local a) ∷ []))) 90 ∷ []))

setting_printed : node_of setting 100 ≡ Some (root 6 done (line (number 5)))
unfolding node_of and_then mine become pure pay say with_reference counted_from
setting_printed = refl

-- ---- `var x: Int if true { &x = 1 } else { &x = 2 } print(x)`

abbrev branching : Core
branching =
    program (main (Var o x int ∷ (If o (BranchOf (Truth o true) (block (set x (num 1) ∷ []) 30) (Else (block (set x (num 2) ∷ []) 50))) ∷ (Print o (local x) ∷ []))) 70 ∷ [])

branching_printed : node_of branching 100 ≡ Some (root 5 done (line (number 1)))
unfolding node_of and_then mine become pure pay say counted_from
branching_printed = refl

-- ---- `var x: Int print(x)`: there is no rule for reading a hole

abbrev reading : Core
reading = program (main (Var o x int ∷ (Print o (local x) ∷ [])) 30 ∷ [])

reading_stuck : node_of reading 100 ≡ None
unfolding node_of and_then mine become pure pay halt counted_from
reading_stuck = refl

-- ---- a moved place is a hole
-- fun f(v: sink Int) { } fun main() { var x: Int = 1 f(x) print(x) }

abbrev moving : List CoreStmt → Core
moving rest =
    program (
    fun f (param (codes "v") conv.Sink int ∷ []) None [] 20 ∷ (
    main (VarWith o x int (num 1) ∷ (CallsAlone o (call f 50 (ValueArg (local x) NoArgs)) ∷ rest)) 90 ∷ []))

moving_stuck : node_of (moving (Print o (local x) ∷ [])) 100 ≡ None
unfolding node_of and_then mine become pure pay halt with_reference counted_from
moving_stuck = refl

-- a move costs nothing
moving_done : node_of (moving []) 100 ≡ Some (root 3 done [])
unfolding node_of and_then mine become pure pay counted_from
moving_done = refl

-- ---- a lambda holds a copy of what it captures
-- fun main() { var a: Int = 10 let b: fun(Int) -> Int = fun [a] (x: Int) -> Int { return x + a } &a = 99 print(b(1)) }

abbrev adds : CoreExpr
adds = Lambda o (a ∷ []) (param (codes "x") conv.Let int ∷ []) (Some int) (block (ReturnWith o (between (local x) operator.Add 0 (local a)) ∷ []) 60)

abbrev capturing : Core
capturing =
    program (main (VarWith o a int (num 10) ∷ (Let o b (FunToTy o (TyOf conv.Let int NoTys) int) adds ∷ (set a (num 99) ∷ (Print o (Calls o (call (codes "b") 80 (ValueArg (num 1) NoArgs))) ∷ [])))) 90 ∷ [])

-- 1; 1 and the capture 1; 1; 1, the callee 2 and the call 1; in it 1, 1 and 1
capturing_printed : node_of capturing 100 ≡ Some (root 11 done (line (number 11)))
unfolding node_of and_then mine become pure pay say counted_from
capturing_printed = refl

-- ---- the callee is copied before the arguments
-- fun main() { var a: fun(Int) -> Int = fun [] (x: Int) -> Int { return x } print(a(1 / 0)) }

abbrev callee_first : Core
callee_first =
    program (main (VarWith o a (FunToTy o (TyOf conv.Let int NoTys) int) (Lambda o [] (param (codes "x") conv.Let int ∷ []) (Some int) (block (ReturnWith o (local x) ∷ []) 60)) ∷ (Print o (Calls o (CallOf (name_at 70 (codes "a")) NoSteps (at 71) (ValueArg (between (num 1) operator.Div 75 (num 0)) NoArgs))) ∷ [])) 90 ∷ [])

callee_first_spent : node_of callee_first 2 ≡ Some (root 2 (SpentAt (at 70) here) [])
unfolding node_of and_then mine become pure pay counted_from
callee_first_spent = refl

callee_first_traps : node_of callee_first 3 ≡ Some (root 3 (Trapped trap_kind.DivZero (at 75) here) [])
unfolding node_of and_then mine become pure pay trap counted_from
callee_first_traps = refl

-- ---- a loop pays for each test
-- fun main() { var i: Int = 0 while i < 2 { &i = i + 1 } print(i) }

abbrev counting : Core
counting =
    program (main (VarWith o i int (num 0) ∷ (While (at 40) (between (local i) operator.Lt 0 (num 2)) (block (set i (between (local i) operator.Add 0 (num 1)) ∷ []) 60) ∷ (Print o (local i) ∷ []))) 90 ∷ [])

-- 1; 1, three tests of 2 each and two turns of 2 each; 2
counting_printed : node_of counting 100 ≡ Some (root 14 done (line (number 2)))
unfolding node_of and_then mine become pure pay say counted_from repeated
counting_printed = refl

-- the third test can't be paid
counting_spent : node_of counting 10 ≡ Some (root 10 (SpentAt (at 40) here) [])
unfolding node_of and_then mine become pure pay say counted_from repeated
counting_spent = refl

-- ---- fields
-- struct S { var a: Int var b: Int } fun main() { var x: S = S(1, 2) &x.b = 5 print(x) }

abbrev pair : CoreDecl
pair = StructOf (record { name = name (codes "S"); fields = record { name = a; ty = int } ∷ (record { name = b; ty = int } ∷ []) })

abbrev fields : Core
fields =
    program (pair ∷ (main (VarWith o x (NamedTy (name (codes "S"))) (Calls o (call (codes "S") 0 (ValueArg (num 1) (ValueArg (num 2) NoArgs)))) ∷ (Assign o x (FieldStep b NoSteps) (num 5) ∷ (Print o (local x) ∷ []))) 90 ∷ []))

fields_printed : node_of fields 100 ≡ Some (root 6 done (line (tree.Fields (tree.Cons (number 1) (tree.Cons (number 5) tree.Nil)))))
unfolding node_of and_then mine become pure pay say counted_from
fields_printed = refl

-- ---- `fun f() { f() } fun main() { f() }`: the call at depth 1,000 traps

abbrev endless : Core
endless = program (fun f [] None (CallsAlone o (call f 11 NoArgs) ∷ []) 15 ∷ (main (CallsAlone o (call f 30 NoArgs) ∷ []) 40 ∷ []))

endless_traps : node_of endless 5000 ≡ Some (root 1999 (Trapped trap_kind.TooDeep (at 11) here) [])
unfolding node_of and_then mine become pure pay trap counted_from
endless_traps = refl

-- ---- a spawn tests its budget, and then pays it; there is no rule yet for the child
-- fun f() { } fun main() { task h = spawn(k) f() }

abbrev spawning : CoreExpr → Core
spawning k = program (fun f [] None [] 11 ∷ (main (Task o (name (codes "h")) None (at 40) k (call f 50 NoArgs) ∷ []) 60 ∷ []))

spawning_traps : node_of (spawning (num 0)) 20 ≡ Some (root 1 (Trapped trap_kind.BadBudget (at 40) here) [])
unfolding node_of and_then mine become pure pay trap counted_from
spawning_traps = refl

-- 11 are needed and 10 left
spawning_spent : node_of (spawning (num 10)) 11 ≡ Some (root 1 (SpentAt (at 40) here) [])
unfolding node_of and_then mine become pure pay counted_from
spawning_spent = refl
