-- The events of each construct, in order, with their places.
use Rattle.std.specs.Prelude.{ℕ, suc, ◌+◌, Bool, true, false, if◌then◌else◌, List, [], ◌∷◌, ◌++◌, map, length, Option, Some, None}
use Rattle.hv_tree.specs.declared.place.Place.{Place}
use Rattle.hv_tree.specs.declared.types.Name.{Name}
use Rattle.hv_tree.specs.declared.types.Conv.{Conv}
use Rattle.hv_tree.specs.declared.types.Conv.TheVariants as conv
use Rattle.hv_tree.specs.declared.ast.Operator.{Operator}
use Rattle.hv_tree.specs.declared.ast.Operator.TheVariants as operator
use Rattle.hv_tree.specs.Core.{Core, CoreFun, CoreParam, CoreExpr, Number, Truth, Path, Calls, Awaits, Array, Filled, Count, Lambda, Prefix, Chain, CoreExprs, NoExprs, ExprOf, CoreLinks, NoLinks, LinkOf, CoreSteps, NoSteps, FieldStep, IndexStep, CoreCall, CallOf, CoreArgs, NoArgs, ValueArg, RefArg, CoreBlock, BlockOf, CoreStmts, NoStmts, StmtOf, CoreBranches, NoElse, Else, BranchOf, CoreStmt, Var, VarWith, Let, Inout, Assign, If, While, Return, ReturnWith, Print, Task, AwaitsAlone, CallsAlone, Bare, end_of, stmts_in}
use Rattle.hv_decls.specs.declared.path.StaticPath.{StaticPath}
use Rattle.hv_rules.specs.declared.event.FlowEvent.{FlowEvent}
use Rattle.hv_rules.specs.declared.event.FlowEvent.TheVariants as event
use Rattle.hv_decls.specs.Types.{ValueType, IntType, BoolType, StructType, ArrayType, FunType, FunToType, convs_of, fun_in}
use Rattle.hv_decls.specs.Locals.{LocalKind, Captured, Passed, VarBound, LetBound, InoutBound, Handle, Local, binds, declared_in, in_block, CoreBody, entry_locals, locals_of, number_in, local_in, value_of}
use Rattle.hv_decls.specs.Statics.{static_steps, type_behind}
use Rattle.hv_rules.specs.Flow.{Flow, Skip, Do, Stop, Then, Either, Loop}

-- ---- events where they stand

-- what an event belongs to, as far as a rule asks
pub data Belongs : Type 0 where
  ToNothing : Belongs
  -- an access or an Init that the declaration of this local makes
  ToDeclaration : ℕ → Belongs
  -- an end: the locals whose value is written back there, the handles whose block ends, and whether a result is missing
  ToEnd : List ℕ → List ℕ → Bool → Belongs

-- an event, its place, and what it belongs to
pub record Mark : Type 0 where
  pub event : FlowEvent
  pub place : Place
  pub belongs : Belongs

abbrev pub Events : Type 0
Events = Flow Mark

-- an event by itself
abbrev pub mark : FlowEvent → Place → Mark
mark e at = record { event = e; place = at; belongs = ToNothing }

-- an event that the declaration of local n makes
abbrev pub declaring : ℕ → FlowEvent → Place → Mark
declaring n e at = record { event = e; place = at; belongs = ToDeclaration n }

-- what is done with a place whose path is known; the event stands at its root name
abbrev pub Doing : Type 0
Doing = StaticPath → Place → Mark

abbrev pub uses : Doing
uses p at = mark (event.Use p) at

abbrev pub moves : Doing
moves p at = mark (event.Move p) at

abbrev pub inits : Doing
inits p at = mark (event.Init p) at

abbrev pub reads : Doing
reads p at = mark (event.OpenRead p) at

abbrev pub writes : Doing
writes p at = mark (event.OpenWrite p) at

abbrev pub sets : Doing
sets p at = mark (event.OpenSet p) at

-- all of local n
abbrev pub whole : ℕ → StaticPath
whole n = record { root = n; steps = [] }

-- Declare and Init of a local that has a value
abbrev pub declared : ℕ → Name → Events
declared n name = Then (Do (mark (event.Declare n) name.place)) (Do (declaring n (event.Init (whole n)) name.place))

-- ---- callees

-- how a call takes its arguments
pub data Callee : Type 0 where
  -- a struct's name: each is a part's value
  Constructs : Callee
  Takes : List Conv → Callee

-- the convention of a parameter
abbrev pub conv_of_param : CoreParam → Conv
conv_of_param p = p.conv

-- a local as callee
abbrev pub by_type : Option ValueType → Callee
by_type None = Constructs
by_type (Some IntType) = Constructs
by_type (Some BoolType) = Constructs
by_type (Some (StructType s)) = Constructs
by_type (Some (ArrayType t)) = Constructs
by_type (Some (FunType params)) = Takes (convs_of params)
by_type (Some (FunToType params t)) = Takes (convs_of params)

-- a top-level name as callee; what is no function is a struct
abbrev pub by_function : Option CoreFun → Callee
by_function None = Constructs
by_function (Some f) = Takes (map conv_of_param f.params)

-- a callee, whose root may be a local
abbrev pub callee_by : Core → Option Local → Name → CoreSteps → Callee
callee_by tree None root steps = by_function (fun_in tree.decls root.text)
callee_by tree (Some l) root steps = by_type (type_behind tree l.ty steps)

-- the convention of the next argument, and the others; arguments too many are as those of a construction
abbrev pub next_conv : Callee → Option Conv
next_conv Constructs = None
next_conv (Takes []) = None
next_conv (Takes (c ∷ cs)) = Some c

abbrev pub other_convs : Callee → Callee
other_convs Constructs = Constructs
other_convs (Takes []) = Constructs
other_convs (Takes (c ∷ cs)) = Takes cs

-- ---- arguments

-- how arguments are passed
pub data Way : Type 0 where
  -- its accesses close at its end, last first
  ByCall : Way
  -- its accesses close at once
  BySpawn : Way

-- what is done with a place that stands as an argument without `&`
abbrev pub given : Way → Option Conv → Doing
given ByCall (Some conv.Let) = reads
given BySpawn (Some conv.Let) = uses
given way (Some conv.Sink) = moves
given way (Some conv.Inout) = uses
given way (Some conv.Set) = uses
given way None = uses

-- whether that opens an access
abbrev pub opens : Way → Option Conv → Bool
opens ByCall (Some conv.Let) = true
opens BySpawn (Some conv.Let) = false
opens way (Some conv.Sink) = false
opens way (Some conv.Inout) = false
opens way (Some conv.Set) = false
opens way None = false

-- what is done with an argument with `&`
abbrev pub lent : Option Conv → Doing
lent (Some conv.Set) = sets
lent (Some conv.Let) = writes
lent (Some conv.Inout) = writes
lent (Some conv.Sink) = writes
lent None = writes

-- the other arguments, and the Close of an access that this one opened
abbrev pub with_close : Way → Bool → Place → Events → Events
with_close way false at others = others
with_close ByCall true at others = Then others (Do (mark event.Close at))
with_close BySpawn true at others = Then (Do (mark event.Close at)) others

-- ---- expressions

-- the operator may stop before its right operand
abbrev pub is_short : Operator → Bool
is_short operator.And = true
is_short operator.Or = true
is_short operator.Add = false
is_short operator.Sub = false
is_short operator.Mul = false
is_short operator.Div = false
is_short operator.Rem = false
is_short operator.Eq = false
is_short operator.Ne = false
is_short operator.Lt = false
is_short operator.Le = false
is_short operator.Gt = false
is_short operator.Ge = false
is_short operator.Neg = false
is_short operator.Not = false

-- `&&` and `||` go on or stop after each operand
abbrev pub linked : Operator → Events → Events
linked o rest = if is_short o then Either Skip rest else rest

-- in a program, in a body with these locals
module _ (tree : Core) (locals : List Local) where
  -- the local with the name
  abbrev pub local_of : Name → Option Local
  local_of name = local_in locals name.text

  -- whether there is a local
  abbrev pub is_local : Option ℕ → Bool
  is_local None = false
  is_local (Some n) = true

  -- whether an expression is a place with a local as root
  abbrev pub is_place : CoreExpr → Bool
  is_place (Number at z) = false
  is_place (Truth at b) = false
  is_place (Path at root steps) = is_local (number_in locals root.text)
  is_place (Calls at call) = false
  is_place (Awaits at name) = false
  is_place (Array at xs) = false
  is_place (Filled at len value) = false
  is_place (Count at root steps) = false
  is_place (Lambda at captures params result body) = false
  is_place (Prefix at o x) = false
  is_place (Chain at first links) = false

  -- whether an argument without `&` opens an access
  abbrev pub opens_place : Way → Option Conv → CoreExpr → Bool
  opens_place way c x = if opens way c then is_place x else false

  -- the event of a place, where its root is a local
  abbrev pub on_root : Doing → Option ℕ → Name → CoreSteps → Events
  on_root does None root steps = Skip
  on_root does (Some n) root steps = Do (does (record { root = n; steps = static_steps tree (value_of (local_of root)) steps }) root.place)

  -- the event of a handle, where the name is that of one
  abbrev pub on_handle : (ℕ → FlowEvent) → Option ℕ → Place → Events
  on_handle e None at = Skip
  on_handle e (Some h) at = Do (mark (e h) at)

  -- an await
  abbrev pub awaited : Name → Place → Events
  awaited name at = on_handle event.Await (number_in locals name.text) at

  -- the captures are used in their order
  abbrev pub captured : List Name → Events
  captured [] = Skip
  captured (name ∷ names) = Then (on_root uses (number_in locals name.text) name NoSteps) (captured names)

  -- the callee of a call
  abbrev pub callee_of : Name → CoreSteps → Callee
  callee_of root steps = callee_by tree (local_of root) root steps

  abbrev mutual
    -- the events of an expression, where this is done with the place that it may be
    pub expr_events : Doing → CoreExpr → Events
    expr_events does (Number at z) = Skip
    expr_events does (Truth at b) = Skip
    expr_events does (Path at root steps) = Then (index_events steps) (on_root does (number_in locals root.text) root steps)
    expr_events does (Calls at call) = call_events ByCall call
    expr_events does (Awaits at name) = awaited name at
    expr_events does (Array at xs) = part_events xs
    expr_events does (Filled at len value) = Then (expr_events uses len) (expr_events uses value)
    expr_events does (Count at root steps) = Then (index_events steps) (on_root uses (number_in locals root.text) root steps)
    expr_events does (Lambda at captures params result body) = captured captures
    expr_events does (Prefix at o x) = expr_events uses x
    expr_events does (Chain at first links) = Then (expr_events uses first) (link_events links)

    -- elements, in order
    pub part_events : CoreExprs → Events
    part_events NoExprs = Skip
    part_events (ExprOf x rest) = Then (expr_events uses x) (part_events rest)

    -- the operands behind the first
    pub link_events : CoreLinks → Events
    link_events NoLinks = Skip
    link_events (LinkOf o at x rest) = linked o (Then (expr_events uses x) (link_events rest))

    -- a place's indices, in order
    pub index_events : CoreSteps → Events
    index_events NoSteps = Skip
    index_events (FieldStep name rest) = index_events rest
    index_events (IndexStep at x rest) = Then (expr_events uses x) (index_events rest)

    -- the callee, the arguments in order, and the Close of the accesses at the `(`
    pub call_events : Way → CoreCall → Events
    call_events way (CallOf root steps at args) =
        Then (Then (index_events steps) (on_root uses (number_in locals root.text) root steps)) (arg_events way at (callee_of root steps) args)

    -- the arguments, in order, and the Close of what each opened
    pub arg_events : Way → Place → Callee → CoreArgs → Events
    arg_events way at callee NoArgs = Skip
    arg_events way at callee (ValueArg x rest) =
        Then (expr_events (given way (next_conv callee)) x) (with_close way (opens_place way (next_conv callee) x) at (arg_events way at (other_convs callee) rest))
    arg_events way at callee (RefArg mark root steps rest) =
        Then (Then (index_events steps) (on_root (lent (next_conv callee)) (number_in locals root.text) root steps))
        (with_close way (is_local (number_in locals root.text)) at (arg_events way at (other_convs callee) rest))

  -- an expression whose value is used
  abbrev pub value_events : CoreExpr → Events
  value_events x = expr_events uses x

  -- a place: its indices, and what is done with it
  abbrev pub place_events : Doing → Name → CoreSteps → Events
  place_events does root steps = Then (index_events steps) (on_root does (number_in locals root.text) root steps)

-- ---- what stands around a statement

pub record Around : Type 0 where
  -- how many locals of the body are declared before
  pub next : ℕ
  -- the visible locals whose value is written back at their end: `inout` bindings, and `inout` and `set` parameters
  pub back : List ℕ
  -- the handles of the blocks around, also those declared behind
  pub handles : List ℕ

-- whether the value of such a local is written back at its end
abbrev pub is_written_back : LocalKind → Bool
is_written_back Captured = false
is_written_back (Passed conv.Let) = false
is_written_back (Passed conv.Inout) = true
is_written_back (Passed conv.Sink) = false
is_written_back (Passed conv.Set) = true
is_written_back VarBound = false
is_written_back LetBound = false
is_written_back InoutBound = true
is_written_back Handle = false

-- whether such a local is a handle
abbrev pub is_handle : LocalKind → Bool
is_handle Captured = false
is_handle (Passed c) = false
is_handle VarBound = false
is_handle LetBound = false
is_handle InoutBound = false
is_handle Handle = true

-- this number, where there is a local of such a kind
abbrev pub if_kind : (LocalKind → Bool) → ℕ → Option Local → List ℕ
if_kind is n None = []
if_kind is n (Some l) = if is l.kind then n ∷ [] else []

-- the locals of such a kind that a block declares itself, where n locals of the body are declared before
abbrev pub own : (LocalKind → Bool) → ℕ → CoreStmts → List ℕ
own is n NoStmts = []
own is n (StmtOf x rest) = if_kind is n (binds x) ++ own is (n + length (declared_in x)) rest

-- those of such a kind in a list of locals
abbrev pub kind_from : (LocalKind → Bool) → ℕ → List Local → List ℕ
kind_from is n [] = []
kind_from is n (l ∷ ls) = if_kind is n (Some l) ++ kind_from is (suc n) ls

-- what is around the statements behind this one
abbrev pub behind : CoreStmt → Around → Around
behind x s = record { next = s.next + length (declared_in x); back = if_kind is_written_back s.next (binds x) ++ s.back; handles = s.handles }

-- what is around what follows this block
abbrev pub behind_block : CoreBlock → Around → Around
behind_block b s = record { next = s.next + length (in_block b); back = s.back; handles = s.handles }

-- what is around the statements of a block
abbrev pub entered : CoreStmts → Around → Around
entered stmts s = record { next = s.next; back = s.back; handles = own is_handle s.next stmts ++ s.handles }

-- ---- statements

module _ (tree : Core) (locals : List Local) where
  -- a return, which ends all that is around it
  abbrev pub return_at : Around → Place → Events
  return_at s at = Stop (record { event = event.Return; place = at; belongs = ToEnd s.back s.handles false })

  -- the end of a block
  abbrev pub scope_end : Around → CoreStmts → Place → Events
  scope_end s stmts at = Do (record { event = event.ScopeEnd s.next; place = at; belongs = ToEnd (own is_written_back s.next stmts) (own is_handle s.next stmts) false })

  abbrev mutual
    -- the events of a statement
    pub stmt_events : Around → CoreStmt → Events
    stmt_events s (Var at name t) = Do (mark (event.Declare s.next) name.place)
    stmt_events s (VarWith at name t x) = Then (value_events tree locals x) (declared s.next name)
    stmt_events s (Let at name t x) = Then (expr_events tree locals (λ p root. declaring s.next (event.OpenRead p) root) x) (declared s.next name)
    stmt_events s (Inout at name t root steps) = Then (place_events tree locals (λ p root. declaring s.next (event.OpenWrite p) root) root steps) (declared s.next name)
    stmt_events s (Assign at root steps x) = Then (value_events tree locals x) (place_events tree locals inits root steps)
    stmt_events s (If at branches) = branch_events s branches
    stmt_events s (While at test body) = Then (Loop (Then (value_events tree locals test) (block_events s body))) (value_events tree locals test)
    stmt_events s (Return at) = return_at s at
    stmt_events s (ReturnWith at x) = Then (value_events tree locals x) (return_at s at)
    stmt_events s (Print at x) = value_events tree locals x
    stmt_events s (Task at name t spawn budget call) =
        Then (value_events tree locals budget) (Then (call_events tree locals BySpawn call) (Do (mark (event.Spawn s.next) spawn)))
    stmt_events s (AwaitsAlone at name) = awaited tree locals name at
    stmt_events s (CallsAlone at call) = call_events tree locals ByCall call
    stmt_events s (Bare at block) = block_events s block

    -- the tests are made in order, up to the first that holds
    pub branch_events : Around → CoreBranches → Events
    branch_events s NoElse = Skip
    branch_events s (Else block) = block_events s block
    branch_events s (BranchOf test body rest) =
        Then (value_events tree locals test) (Either (block_events s body) (branch_events (behind_block body s) rest))

    -- a block: its statements, and its end
    pub block_events : Around → CoreBlock → Events
    block_events s (BlockOf stmts end) = Then (stmts_events (entered stmts s) stmts) (scope_end s stmts end)

    -- statements, in order
    pub stmts_events : Around → CoreStmts → Events
    stmts_events s NoStmts = Skip
    stmts_events s (StmtOf x rest) = Then (stmt_events s x) (stmts_events (behind x s) rest)

-- ---- bodies

-- a capture or parameter
abbrev pub entry_event : ℕ → LocalKind → Name → Events
entry_event n (Passed conv.Set) name = Do (mark (event.Declare n) name.place)
entry_event n (Passed conv.Let) name = declared n name
entry_event n (Passed conv.Inout) name = declared n name
entry_event n (Passed conv.Sink) name = declared n name
entry_event n Captured name = declared n name
entry_event n VarBound name = declared n name
entry_event n LetBound name = declared n name
entry_event n InoutBound name = declared n name
entry_event n Handle name = declared n name

-- Declare of each capture and parameter, and Init of it except for `set`
abbrev pub entry_events : ℕ → List Local → Events
entry_events n [] = Skip
entry_events n (l ∷ ls) = Then (entry_event n l.kind l.name) (entry_events (suc n) ls)

-- whether there is one
abbrev pub has_some : {A : Type 0} → Option A → Bool
has_some None = false
has_some (Some a) = true

-- what is around the statements of a body
abbrev pub body_around : CoreBody → Around
body_around body = record { next = length (entry_locals body); back = kind_from is_written_back 0 (entry_locals body); handles = own is_handle (length (entry_locals body)) (stmts_in body.block) }

-- the end of a body, which writes its parameters back too
abbrev pub body_end : CoreBody → Around → Mark
body_end body s = record {
  event = event.ScopeEnd s.next;
  place = end_of body.block;
  belongs = ToEnd (own is_written_back s.next (stmts_in body.block) ++ s.back) s.handles (has_some body.result);
}

-- what a body does
abbrev pub body_events : Core → CoreBody → Events
body_events tree body =
    Then (entry_events 0 (entry_locals body)) (Then (stmts_events tree (locals_of body) (body_around body) (stmts_in body.block)) (Do (body_end body (body_around body))))
