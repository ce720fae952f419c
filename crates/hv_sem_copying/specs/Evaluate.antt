-- What each part of a program does, over any kind of state.
use Rattle.std.specs.Prelude.{ℕ, zero, suc, pos, if◌then◌else◌, List, [], ◌∷◌, ◌++◌, length, Option, Some, None}
use Rattle.std.specs.List.{slice_get}
use Rattle.hv_tree.specs.declared.place.Place.{Place}
use Rattle.hv_tree.specs.declared.types.Name.{Name}
use Rattle.hv_tree.specs.Core.{Core, CoreFun, CoreParam, CoreExpr, Number, Truth, Path, Calls, Awaits, Array, Filled, Count, Lambda, Prefix, Chain, CoreExprs, NoExprs, ExprOf, CoreLinks, NoLinks, LinkOf, CoreSteps, NoSteps, FieldStep, IndexStep, CoreCall, CallOf, CoreArgs, NoArgs, ValueArg, RefArg, CoreBlock, BlockOf, CoreStmts, NoStmts, StmtOf, CoreBranches, NoElse, Else, BranchOf, CoreStmt, Var, VarWith, Let, Inout, Assign, If, While, Return, ReturnWith, Print, Task, AwaitsAlone, CallsAlone, Bare}
use Rattle.hv_decls.specs.Types.{ValueType, fun_in}
use Rattle.hv_decls.specs.Locals.{Local, CoreBody, locals_of, number_in}
use Rattle.hv_decls.specs.Sites.{bodies_of}
use Rattle.hv_decls.specs.Statics.{field_at, element_at}
use Rattle.hv_value.specs.ValueTree.{ValueTree, Fields, Elements, Closure, Parts, Nil, row}
use Rattle.hv_value.specs.ValueTree as v
use Rattle.hv_value.specs.Texts.{text}
use Rattle.hv_value.specs.Walk.{Link, ToField, ToIndex}
use Rattle.hv_sem_copying.specs.declared.end.Cause.TheVariants.{Kinds}
use Rattle.hv_sem_copying.specs.Run.{Run, Flow, ◌>>=◌, pure, stuck, known, pay, say, counted_from, unless_left}
use Rattle.hv_sem_copying.specs.Ops.{Spot, Writes, Passed, Ops}
use Rattle.hv_sem_copying.specs.Operations.{number, applied, filled_with}
use Rattle.hv_value.specs.Operators.{binary, unary, decides}
use Rattle.hv_sem_copying.specs.Places.{holes, body_number, type_of, local, found, copied, counted, declared, captured}
use Rattle.hv_sem_copying.specs.Calls.{Placed, Deeper, ended, passed_captures, callee, pass_value, pass_place, own_value, entered, call_by, Child, child_by, spawned}
use Rattle.hv_sem_copying.specs.Blocks.{first_token, chosen, repeated, bound}

-- ---- names

abbrev pub function_value : {C S : Type 0} → Core → Option CoreFun → Run C S ValueTree
function_value tree None = stuck Kinds
function_value tree (Some f) = known Kinds (body_number (bodies_of tree) f.body) >>= (λ n. pure (Closure n Nil))

-- a function's name
abbrev pub top_value : {C S : Type 0} → Core → Name → CoreSteps → Run C S ValueTree
top_value tree root NoSteps = function_value tree (fun_in tree.decls root.text)
top_value tree root (FieldStep name rest) = stuck Kinds
top_value tree root (IndexStep at x rest) = stuck Kinds

-- a local's place is copied, else the name is a function's
abbrev pub named : {C S : Type 0} → Core → Option ℕ → Name → CoreSteps → Run C S (Spot × ValueTree) → Run C S ValueTree
named tree None root steps place = top_value tree root steps
named tree (Some x) root steps place = copied root.place place

abbrev pub if_local : {A : Type 0} → Option ℕ → A → Option A
if_local None a = None
if_local (Some x) a = Some a

-- ---- the tree

-- in a body with these locals
module _ {C S : Type 0} (o : Ops C S) (tree : Core) (locals : List Local) (deeper : Deeper C S) where
  abbrev mutual
    pub value : CoreExpr → Run C S ValueTree
    value (Number at z) = pure (v.Number z)
    value (Truth at b) = pure (v.Truth b)
    value (Path at root steps) = named tree (number_in locals root.text) root steps (found o locals tree root steps (indices (type_of locals root) steps))
    value (Calls at c) = call c
    value (Awaits at name) = local locals name >>= o.await
    value (Array at xs) = values xs >>= (λ vs. pure (Elements (row vs)))
    value (Filled at len x) = value len >>= (λ n. value x >>= (λ w. number n >>= filled_with at w))
    value (Count at root steps) =
        found o locals tree root steps (indices (type_of locals root) steps) >>= (λ f. counted f >>= (λ n. pure (v.Number (pos n))))
    value (Lambda at captures params result body) =
        captured o locals captures >>= (λ vs. known Kinds (body_number (bodies_of tree) body) >>= (λ f. pure (Closure f vs)))
    value (Prefix at op x) = value x >>= (λ w. applied at (unary op w))
    value (Chain at first links) = value first >>= chained links

    -- in order
    pub values : CoreExprs → Run C S (List ValueTree)
    values NoExprs = pure []
    values (ExprOf x rest) = value x >>= (λ w. values rest >>= (λ ws. pure (w ∷ ws)))

    -- the operators from the left, each applied before the next operand is evaluated
    pub chained : CoreLinks → ValueTree → Run C S ValueTree
    chained NoLinks w = pure w
    chained (LinkOf op at x rest) w =
        if decides op w then pure w else (value x >>= (λ u. applied at (binary op w u) >>= chained rest))

    -- the steps behind something of this type, with their indices evaluated in order
    pub indices : Option ValueType → CoreSteps → Run C S (List (Link Place))
    indices t NoSteps = pure []
    indices t (FieldStep name rest) = known Kinds (field_at tree t name) >>= (λ f. indices (Some f.ty) rest >>= (λ ls. pure (ToField f.number ∷ ls)))
    indices t (IndexStep at x rest) =
        value x >>= (λ w. number w >>= (λ z. indices (element_at t) rest >>= (λ ls. pure (ToIndex z at ∷ ls))))

    -- the place of an expression that is a local's name with steps
    pub place_in : CoreExpr → Placed C S
    place_in (Path at root steps) = if_local (number_in locals root.text) (found o locals tree root steps (indices (type_of locals root) steps))
    place_in _ = None

    -- the callee, then the arguments, then the body
    pub call : CoreCall → Run C S ValueTree
    call (CallOf root steps at given) =
        callee tree (number_in locals root.text) root steps (found o locals tree root steps (indices (type_of locals root) steps)) >>= (λ who.
        call_by tree who (parts given) (λ f captures body. args given body.params (passed_captures captures) (entered o deeper at f body)))

    -- the parts of a construction
    pub parts : CoreArgs → Run C S (List ValueTree)
    parts NoArgs = pure []
    parts (ValueArg x rest) = value x >>= (λ w. parts rest >>= (λ ws. pure (w ∷ ws)))
    parts (RefArg at root steps rest) = stuck Kinds

    -- the arguments in order, whose accesses are open until the call is over, last opened first
    pub args : CoreArgs → List CoreParam → List Passed → (List Passed → Run C S Flow) → Run C S Flow
    args NoArgs [] ps go = go ps
    args NoArgs (p ∷ params) ps go = stuck Kinds
    args (ValueArg x rest) [] ps go = stuck Kinds
    args (ValueArg x rest) (p ∷ params) ps go = pass_value o p.conv (place_in x) (value x) (λ a. args rest params (ps ++ a ∷ []) go)
    args (RefArg at root steps rest) [] ps go = stuck Kinds
    args (RefArg at root steps rest) (p ∷ params) ps go =
        pass_place o p.conv (found o locals tree root steps (indices (type_of locals root) steps)) (λ a. args rest params (ps ++ a ∷ []) go)

    -- the callee and the arguments of a spawn
    pub child : CoreCall → Run C S Child
    child (CallOf root steps at given) =
        callee tree (number_in locals root.text) root steps (found o locals tree root steps (indices (type_of locals root) steps)) >>= (λ who.
        child_by tree who (λ f captures body. own_values given body.params (passed_captures captures)))

    pub own_values : CoreArgs → List CoreParam → List Passed → Run C S (List Passed)
    own_values NoArgs [] ps = pure ps
    own_values NoArgs (p ∷ params) ps = stuck Kinds
    own_values (ValueArg x rest) [] ps = stuck Kinds
    own_values (ValueArg x rest) (p ∷ params) ps = own_value o p.conv (place_in x) (value x) >>= (λ a. own_values rest params (ps ++ a ∷ []))
    own_values (RefArg at root steps rest) params ps = stuck Kinds

    pub block : CoreBlock → Run C S Flow
    block (BlockOf stmts end) = statements stmts

    -- each statement is paid at its first token
    pub statements : CoreStmts → Run C S Flow
    statements NoStmts = pure None
    statements (StmtOf x rest) = pay 1 (first_token x) >>= (λ paid. statement x (statements rest))

    -- a statement, and the rest of its block
    pub statement : CoreStmt → Run C S Flow → Run C S Flow
    statement (Var at name t) go = declared o locals name (holes tree t) >>= (λ done. go)
    statement (VarWith at name t x) go = value x >>= (λ w. declared o locals name w >>= (λ done. go))
    statement (Let at name t x) go = bound o locals name (place_in x) (value x) go
    statement (Inout at name t root steps) go =
        found o locals tree root steps (indices (type_of locals root) steps) >>= (λ f. local locals name >>= (λ r. o.under Writes r f.0 go))
    statement (Assign at root steps x) go =
        value x >>= (λ w. found o locals tree root steps (indices (type_of locals root) steps) >>= (λ f. o.write f.0 w >>= (λ done. go)))
    statement (If at branches) go = choices branches >>= unless_left go
    statement (While at test body) go = repeated at (value test) (block body) >>= unless_left go
    statement (Return at) go = pure (Some (Fields Nil))
    statement (ReturnWith at x) go = value x >>= (λ w. pure (Some w))
    statement (Print at x) go = value x >>= (λ w. say (text w ++ 10 ∷ []) >>= (λ done. go))
    statement (Task at name t word budget c) go =
        value budget >>= (λ k. child c >>= (λ what. number k >>= (λ z. local locals name >>= (λ h. spawned o deeper h word z what >>= (λ done. go)))))
    statement (AwaitsAlone at name) go = local locals name >>= (λ h. o.await h >>= (λ w. go))
    statement (CallsAlone at c) go = call c >>= (λ w. go)
    statement (Bare at b) go = block b >>= unless_left go

    -- the tests in order, up to the first that holds
    pub choices : CoreBranches → Run C S Flow
    choices NoElse = pure None
    choices (Else b) = block b
    choices (BranchOf test body rest) = chosen (value test) (block body) (choices rest)

-- ---- bodies

module _ {C S : Type 0} (o : Ops C S) (tree : Core) where
  -- a body, in which so many references stand for its locals
  abbrev pub body_run : Deeper C S → CoreBody → Run C S Flow
  body_run deeper body = counted_from (length (locals_of body)) (block o tree (locals_of body) deeper body.block >>= ended body.result)

  abbrev pub body_by : Deeper C S → Option CoreBody → Run C S Flow
  body_by deeper None = stuck Kinds
  body_by deeper (Some body) = body_run deeper body

  abbrev pub bodies_run : Deeper C S → ℕ → Run C S Flow
  bodies_run deeper f = body_by deeper (slice_get (bodies_of tree) f)

  -- what runs a body where so many further activations may be entered, if any
  abbrev pub activations : ℕ → Deeper C S
  activations zero = None
  activations (suc n) = Some (bodies_run (activations n))
