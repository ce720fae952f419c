-- The events of each construct on small programs: each is the only whole trace, and the list is written out.
use Rattle.std.proofs.Common.{◌≡◌, ℕ, pos, false, List, [], ◌∷◌, None, refl, codes}
use Rattle.hv_tree.specs.declared.types.Conv.TheVariants as conv
use Rattle.hv_tree.specs.declared.ast.Operator.TheVariants as operator
use Rattle.hv_tree.specs.Core.{Core, FunOf, StructOf, NamedTy, ArrayTy, FunTy, NoTys, CoreExpr, Path, Awaits, Array, ExprOf, NoExprs, Filled, Count, Lambda, Prefix, Chain, NoLinks, LinkOf, NoSteps, FieldStep, IndexStep, CallOf, NoArgs, ValueArg, RefArg, BlockOf, NoStmts, CoreStmt, Var, VarWith, Let, Inout, Assign, Task, CallsAlone}
use Rattle.hv_decls.specs.declared.path.StaticStep.{StaticStep}
use Rattle.hv_decls.specs.declared.path.StaticStep.TheVariants as static
use Rattle.hv_decls.specs.declared.path.StaticPath.{StaticPath}
use Rattle.hv_rules.specs.declared.event.FlowEvent.TheVariants as event
use Rattle.hv_decls.specs.Locals.{Local, VarBound, Handle, local, fun_body}
use Rattle.hv_rules.specs.Events.{Mark, mark, declaring, uses, moves, inits, reads, writes, sets, whole, Around, ToEnd, value_events, stmt_events, body_events}
use Rattle.hv_rules.proofs.Listed.{whole_list}
use Rattle.hv_decls.proofs.Programs.{o, at, name, fun, param, int, num, x, f, h}

abbrev a : List ℕ
a = codes "a"

abbrev s : List ℕ
s = codes "s"

abbrev k : List ℕ
k = codes "k"

abbrev y : List ℕ
y = codes "y"

-- `struct S { var p: Int var q: Int }`, a function f with a parameter of each convention, and a task's function g
abbrev tree : Core
tree = record {
  decls = StructOf (record { name = name (codes "S"); fields = record { name = name (codes "p"); ty = int } ∷ (record { name = name (codes "q"); ty = int } ∷ []) }) ∷
      (FunOf (fun f (param (codes "a") conv.Let int ∷ (param (codes "b") conv.Inout int ∷ (param (codes "c") conv.Sink int ∷ (param (codes "d") conv.Set int ∷ [])))) None [] 0) ∷
      (FunOf (fun (codes "g") (param (codes "a") conv.Let int ∷ (param (codes "b") conv.Sink int ∷ [])) None [] 0) ∷ []));
}

-- the locals x: Int, a: [Int], s: S, k: fun() and the handle h, with the numbers 0 to 4
abbrev locals : List Local
locals = local VarBound (name x) int ∷ (local VarBound (name a) (ArrayTy o int) ∷ (local VarBound (name s) (NamedTy (name (codes "S"))) ∷
    (local VarBound (name k) (FunTy o NoTys) ∷ (record { name = name h; kind = Handle; ty = None } ∷ []))))

abbrev around : Around
around = record { next = 5; back = []; handles = [] }

abbrev read : List ℕ → CoreExpr
read text = Path o (name text) NoSteps

abbrev path : ℕ → List StaticStep → StaticPath
path n steps = record { root = n; steps = steps }

abbrev value : CoreExpr → List (List Mark)
value e = whole_list (value_events tree locals e)

abbrev statement : CoreStmt → List (List Mark)
statement e = whole_list (stmt_events tree locals around e)

-- ---- expressions

-- `s.q`: the field's number
field_row : value (Path o (name s) (FieldStep (name (codes "q")) NoSteps)) ≡ (uses (path 2 (static.Field 1 ∷ [])) o ∷ []) ∷ []
field_row = refl

-- `a[3]`, `a[x]` and `a[-3]`: a literal index, and two that aren't
literal_row : value (Path o (name a) (IndexStep o (num 3) NoSteps)) ≡ (uses (path 1 (static.Literal (pos 3) ∷ [])) o ∷ []) ∷ []
literal_row = refl

index_row : value (Path o (name a) (IndexStep o (read x) NoSteps)) ≡ (uses (whole 0) o ∷ (uses (path 1 (static.Any ∷ [])) o ∷ [])) ∷ []
index_row = refl

negative_row : value (Path o (name a) (IndexStep o (Prefix o operator.Neg (num 3)) NoSteps)) ≡ (uses (path 1 (static.Any ∷ [])) o ∷ []) ∷ []
negative_row = refl

-- `count(a)`, `filled(x, x)`, `[x, x]`, `x + x`
count_row : value (Count o (name a) NoSteps) ≡ (uses (whole 1) o ∷ []) ∷ []
count_row = refl

filled_row : value (Filled o (read x) (read a)) ≡ (uses (whole 0) o ∷ (uses (whole 1) o ∷ [])) ∷ []
filled_row = refl

array_row : value (Array o (ExprOf (read x) (ExprOf (read a) NoExprs))) ≡ (uses (whole 0) o ∷ (uses (whole 1) o ∷ [])) ∷ []
array_row = refl

sum_row : value (Chain o (read x) (LinkOf operator.Add o (read a) NoLinks)) ≡ (uses (whole 0) o ∷ (uses (whole 1) o ∷ [])) ∷ []
sum_row = refl

-- `fun [x, a] () { }`: the captures in order; a function's name alone has no event
lambda_row : value (Lambda o (name x ∷ (name a ∷ [])) [] None (BlockOf NoStmts o)) ≡ (uses (whole 0) o ∷ (uses (whole 1) o ∷ [])) ∷ []
lambda_row = refl

function_row : value (read f) ≡ [] ∷ []
function_row = refl

await_row : value (Awaits (at 7) (name h)) ≡ (mark (event.Await 4) (at 7) ∷ []) ∷ []
await_row = refl

-- ---- statements

var_row : statement (Var o (name y) int) ≡ (mark (event.Declare 5) o ∷ []) ∷ []
var_row = refl

var_with_row : statement (VarWith o (name y) int (read x)) ≡ (uses (whole 0) o ∷ (mark (event.Declare 5) o ∷ (declaring 5 (event.Init (whole 5)) o ∷ []))) ∷ []
var_with_row = refl

-- `let y: Int = x` opens, `let y: Int = x + 1` doesn't
let_place_row : statement (Let o (name y) int (read x)) ≡ (declaring 5 (event.OpenRead (whole 0)) o ∷ (mark (event.Declare 5) o ∷ (declaring 5 (event.Init (whole 5)) o ∷ []))) ∷ []
let_place_row = refl

let_value_row : statement (Let o (name y) int (Chain o (read x) (LinkOf operator.Add o (num 1) NoLinks))) ≡ (uses (whole 0) o ∷ (mark (event.Declare 5) o ∷ (declaring 5 (event.Init (whole 5)) o ∷ []))) ∷ []
let_value_row = refl

inout_row : statement (Inout o (name y) int (name a) (IndexStep o (read x) NoSteps)) ≡
    (uses (whole 0) o ∷ (declaring 5 (event.OpenWrite (path 1 (static.Any ∷ []))) o ∷ (mark (event.Declare 5) o ∷ (declaring 5 (event.Init (whole 5)) o ∷ [])))) ∷ []
inout_row = refl

-- `&a[x] = x`: the value, the index, the Init
assign_row : statement (Assign o (name a) (IndexStep o (read x) NoSteps) (read x)) ≡ (uses (whole 0) o ∷ (uses (whole 0) o ∷ (inits (path 1 (static.Any ∷ [])) o ∷ []))) ∷ []
assign_row = refl

-- `f(x, &x, x, &x)`: read, write, move, set, and the accesses close at the `(`
call_row : statement (CallsAlone o (CallOf (name f) NoSteps (at 9) (ValueArg (read x) (RefArg o (name x) NoSteps (ValueArg (read x) (RefArg o (name x) NoSteps NoArgs)))))) ≡
    (reads (whole 0) o ∷ (writes (whole 0) o ∷ (moves (whole 0) o ∷ (sets (whole 0) o ∷ (mark event.Close (at 9) ∷ (mark event.Close (at 9) ∷ (mark event.Close (at 9) ∷ []))))))) ∷ []
call_row = refl

-- `f(x + 1, ..)`: a value opens nothing
value_argument_row : statement (CallsAlone o (CallOf (name f) NoSteps (at 9) (ValueArg (Chain o (read x) (LinkOf operator.Add o (num 1) NoLinks)) NoArgs))) ≡ (uses (whole 0) o ∷ []) ∷ []
value_argument_row = refl

-- `k()`: a callee that is a local
callee_row : statement (CallsAlone o (CallOf (name k) NoSteps (at 9) NoArgs)) ≡ (uses (whole 3) o ∷ []) ∷ []
callee_row = refl

-- `S(x, x)`: a construction uses its parts
construction_row : statement (CallsAlone o (CallOf (name (codes "S")) NoSteps (at 9) (ValueArg (read x) (ValueArg (read x) NoArgs)))) ≡ (uses (whole 0) o ∷ (uses (whole 0) o ∷ [])) ∷ []
construction_row = refl

-- `task y = spawn(x) g(x, x)`: the budget, the arguments used and moved, the spawn at its word
spawn_row : statement (Task o (name y) None (at 8) (read x) (CallOf (name (codes "g")) NoSteps (at 9) (ValueArg (read x) (ValueArg (read x) NoArgs)))) ≡
    (uses (whole 0) o ∷ (uses (whole 0) o ∷ (moves (whole 0) o ∷ (mark (event.Spawn 5) (at 8) ∷ [])))) ∷ []
spawn_row = refl

-- the `inout` argument of a spawned f closes at once
spawn_change_row : statement (Task o (name y) None (at 8) (num 9) (CallOf (name f) NoSteps (at 9) (ValueArg (num 1) (RefArg o (name x) NoSteps (ValueArg (read x) NoArgs))))) ≡
    (writes (whole 0) o ∷ (mark event.Close (at 9) ∷ (moves (whole 0) o ∷ (mark (event.Spawn 5) (at 8) ∷ [])))) ∷ []
spawn_change_row = refl

-- ---- bodies

-- the entry and the end of `fun f(a: let Int, b: inout Int, c: sink Int, d: set Int) { }`
body_row : whole_list (body_events tree (fun_body (fun f (param (codes "a") conv.Let int ∷ (param (codes "b") conv.Inout int ∷ (param (codes "c") conv.Sink int ∷ (param (codes "d") conv.Set int ∷ [])))) None [] 33))) ≡
    (mark (event.Declare 0) o ∷ (declaring 0 (event.Init (whole 0)) o ∷
    (mark (event.Declare 1) o ∷ (declaring 1 (event.Init (whole 1)) o ∷
    (mark (event.Declare 2) o ∷ (declaring 2 (event.Init (whole 2)) o ∷
    (mark (event.Declare 3) o ∷
    (record { event = event.ScopeEnd 4; place = at 33; belongs = ToEnd (1 ∷ (3 ∷ [])) [] false } ∷ [])))))))) ∷ []
body_row = refl
