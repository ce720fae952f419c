-- No event of a body is an entry.
use Rattle.std.proofs.Common.{◌≡◌, ℕ, suc, Bool, true, false, if◌then◌else◌, length, List, [], ◌∷◌, Option, Some, None, refl, sym, ◌∙◌, ap}
use Rattle.hv_tree.specs.declared.place.Place.{Place}
use Rattle.hv_tree.specs.declared.types.Name.{Name}
use Rattle.hv_tree.specs.declared.types.Conv.{Conv}
use Rattle.hv_tree.specs.declared.types.Conv.TheVariants as conv
use Rattle.hv_tree.specs.Core.{Core, CoreExpr, Number, Truth, Path, Calls, Awaits, Array, Filled, Count, Lambda, Prefix, Chain, CoreExprs, NoExprs, ExprOf, CoreLinks, NoLinks, LinkOf, CoreSteps, NoSteps, FieldStep, IndexStep, CoreCall, CallOf, CoreArgs, NoArgs, ValueArg, RefArg, CoreBlock, BlockOf, CoreStmts, NoStmts, StmtOf, CoreBranches, NoElse, Else, BranchOf, CoreStmt, Var, VarWith, Let, Inout, Assign, If, While, Return, ReturnWith, Print, Task, AwaitsAlone, CallsAlone, Bare}
use Rattle.hv_decls.specs.declared.path.StaticPath.{StaticPath}
use Rattle.hv_rules.specs.declared.event.FlowEvent.{FlowEvent}
use Rattle.hv_rules.specs.declared.event.FlowEvent.TheVariants as event
use Rattle.hv_rules.specs.Flow.{Skip, Then, Either}
use Rattle.hv_decls.specs.Locals.{LocalKind, Captured, Passed, VarBound, LetBound, InoutBound, Handle, Local, CoreBody, entry_locals, locals_of, number_in, value_of}
use Rattle.hv_rules.specs.Events as events
use Rattle.hv_decls.specs.Statics as statics
use Rattle.hv_tree.specs.Core as core
use Rattle.hv_flow.specs.Walks.{EntersNowhere}

abbrev is_entry : FlowEvent → Bool
is_entry event.Entry = true
is_entry (event.Declare n) = false
is_entry (event.Init p) = false
is_entry (event.Use p) = false
is_entry (event.Move p) = false
is_entry (event.OpenRead p) = false
is_entry (event.OpenWrite p) = false
is_entry (event.OpenSet p) = false
is_entry event.Close = false
is_entry (event.Spawn n) = false
is_entry (event.Await n) = false
is_entry event.Return = false
is_entry (event.ScopeEnd n) = false

other : (e : FlowEvent) → is_entry e ≡ false → e ≡ event.Entry → ⊥
other e p q = let r : false ≡ true = sym p ∙ ap is_entry q in cc

-- what is done with a place is no entry
abbrev Does : events.Doing → Type 0
Does does = (p : StaticPath) (at : Place) → (does p at).event ≡ event.Entry → ⊥

uses : Does events.uses
uses p at = other (event.Use p) refl

moves : Does events.moves
moves p at = other (event.Move p) refl

inits : Does events.inits
inits p at = other (event.Init p) refl

reads : Does events.reads
reads p at = other (event.OpenRead p) refl

writes : Does events.writes
writes p at = other (event.OpenWrite p) refl

sets : Does events.sets
sets p at = other (event.OpenSet p) refl

given : (w : events.Way) (c : Option Conv) → Does (events.given w c)
given events.ByCall (Some conv.Let) = reads
given events.BySpawn (Some conv.Let) = uses
given events.ByCall (Some conv.Sink) = moves
given events.BySpawn (Some conv.Sink) = moves
given events.ByCall (Some conv.Inout) = uses
given events.BySpawn (Some conv.Inout) = uses
given events.ByCall (Some conv.Set) = uses
given events.BySpawn (Some conv.Set) = uses
given events.ByCall None = uses
given events.BySpawn None = uses

lent : (c : Option Conv) → Does (events.lent c)
lent (Some conv.Set) = sets
lent (Some conv.Let) = writes
lent (Some conv.Inout) = writes
lent (Some conv.Sink) = writes
lent None = writes

closed : (w : events.Way) (b : Bool) (at : Place) (f : events.Events) → EntersNowhere f → EntersNowhere (events.with_close w b at f)
closed events.ByCall false at f h = h
closed events.BySpawn false at f h = h
closed events.ByCall true at f h = (h, other event.Close refl)
closed events.BySpawn true at f h = (other event.Close refl, h)

declared : (n : ℕ) (name : Name) → EntersNowhere (events.declared n name)
declared n name = (other (event.Declare n) refl, other (event.Init (events.whole n)) refl)

chosen : (b : Bool) (f : events.Events) → EntersNowhere f → EntersNowhere (if b then Either Skip f else f)
chosen true f h = (tt, h)
chosen false f h = h

module _ (tree : Core) (locals : List Local) where
  rooted : (does : events.Doing) (o : Option ℕ) (root : Name) (steps : CoreSteps) → Does does → EntersNowhere (events.on_root tree locals does o root steps)
  rooted does None root steps d = tt
  rooted does (Some n) root steps d = d (record { root = n; steps = statics.static_steps tree (value_of (events.local_of tree locals root)) steps }) root.place

  awaited : (o : Option ℕ) (at : Place) → EntersNowhere (events.on_handle tree locals event.Await o at)
  awaited None at = tt
  awaited (Some h) at = other (event.Await h) refl

  captured : (names : List Name) → EntersNowhere (events.captured tree locals names)
  captured [] = tt
  captured (name ∷ names) = (rooted events.uses (number_in locals name.text) name NoSteps uses, captured names)

  mutual
    expr : (does : events.Doing) (x : CoreExpr) → Does does → EntersNowhere (events.expr_events tree locals does x)
    expr does (Number at z) d = tt
    expr does (Truth at b) d = tt
    expr does (Path at root steps) d = (indices steps, rooted does (number_in locals root.text) root steps d)
    expr does (Calls at c) d = call events.ByCall c
    expr does (Awaits at name) d = awaited (number_in locals name.text) at
    expr does (Array at xs) d = parts xs
    expr does (Filled at len value) d = (expr events.uses len uses, expr events.uses value uses)
    expr does (Count at root steps) d = (indices steps, rooted events.uses (number_in locals root.text) root steps uses)
    expr does (Lambda at captures params result body) d = captured captures
    expr does (Prefix at o x) d = expr events.uses x uses
    expr does (Chain at first rest) d = (expr events.uses first uses, links rest)

    parts : (xs : CoreExprs) → EntersNowhere (events.part_events tree locals xs)
    parts NoExprs = tt
    parts (ExprOf x rest) = (expr events.uses x uses, parts rest)

    links : (ls : CoreLinks) → EntersNowhere (events.link_events tree locals ls)
    links NoLinks = tt
    links (LinkOf o at x rest) = chosen (events.is_short o) (Then (events.expr_events tree locals events.uses x) (events.link_events tree locals rest)) (expr events.uses x uses, links rest)

    indices : (steps : CoreSteps) → EntersNowhere (events.index_events tree locals steps)
    indices NoSteps = tt
    indices (FieldStep name rest) = indices rest
    indices (IndexStep at x rest) = (expr events.uses x uses, indices rest)

    call : (w : events.Way) (c : CoreCall) → EntersNowhere (events.call_events tree locals w c)
    call w (CallOf root steps at xs) = ((indices steps, rooted events.uses (number_in locals root.text) root steps uses), args w at (events.callee_of tree locals root steps) xs)

    args : (w : events.Way) (at : Place) (callee : events.Callee) (xs : CoreArgs) → EntersNowhere (events.arg_events tree locals w at callee xs)
    args w at callee NoArgs = tt
    args w at callee (ValueArg x rest) = (
      expr (events.given w (events.next_conv callee)) x (given w (events.next_conv callee)),
      closed w (events.opens_place tree locals w (events.next_conv callee) x) at (events.arg_events tree locals w at (events.other_convs callee) rest) (args w at (events.other_convs callee) rest),
    )
    args w at callee (RefArg mark root steps rest) = (
      (indices steps, rooted (events.lent (events.next_conv callee)) (number_in locals root.text) root steps (lent (events.next_conv callee))),
      closed w (events.is_local tree locals (number_in locals root.text)) at (events.arg_events tree locals w at (events.other_convs callee) rest) (args w at (events.other_convs callee) rest),
    )

  place : (does : events.Doing) (root : Name) (steps : CoreSteps) → Does does → EntersNowhere (events.place_events tree locals does root steps)
  place does root steps d = (indices steps, rooted does (number_in locals root.text) root steps d)

  mutual
    stmt : (s : events.Around) (x : CoreStmt) → EntersNowhere (events.stmt_events tree locals s x)
    stmt s (Var at name t) = other (event.Declare s.next) refl
    stmt s (VarWith at name t x) = (expr events.uses x uses, declared s.next name)
    stmt s (Let at name t x) = (expr (λ p root. events.declaring s.next (event.OpenRead p) root) x (λ p root. other (event.OpenRead p) refl), declared s.next name)
    stmt s (Inout at name t root steps) = (place (λ p r. events.declaring s.next (event.OpenWrite p) r) root steps (λ p r. other (event.OpenWrite p) refl), declared s.next name)
    stmt s (Assign at root steps x) = (expr events.uses x uses, place events.inits root steps inits)
    stmt s (If at bs) = branches s bs
    stmt s (While at test body) = ((expr events.uses test uses, block s body), expr events.uses test uses)
    stmt s (Return at) = other event.Return refl
    stmt s (ReturnWith at x) = (expr events.uses x uses, other event.Return refl)
    stmt s (Print at x) = expr events.uses x uses
    stmt s (Task at name t spawn budget c) = (expr events.uses budget uses, (call events.BySpawn c, other (event.Spawn s.next) refl))
    stmt s (AwaitsAlone at name) = awaited (number_in locals name.text) at
    stmt s (CallsAlone at c) = call events.ByCall c
    stmt s (Bare at b) = block s b

    branches : (s : events.Around) (b : CoreBranches) → EntersNowhere (events.branch_events tree locals s b)
    branches s NoElse = tt
    branches s (Else b) = block s b
    branches s (BranchOf test body rest) = (expr events.uses test uses, (block s body, branches (events.behind_block body s) rest))

    block : (s : events.Around) (b : CoreBlock) → EntersNowhere (events.block_events tree locals s b)
    block s (BlockOf xs end) = (stmts (events.entered xs s) xs, other (event.ScopeEnd s.next) refl)

    stmts : (s : events.Around) (xs : CoreStmts) → EntersNowhere (events.stmts_events tree locals s xs)
    stmts s NoStmts = tt
    stmts s (StmtOf x rest) = (stmt s x, stmts (events.behind x s) rest)

entry_kind : (n : ℕ) (k : LocalKind) (name : Name) → EntersNowhere (events.entry_event n k name)
entry_kind n (Passed conv.Set) name = other (event.Declare n) refl
entry_kind n (Passed conv.Let) name = declared n name
entry_kind n (Passed conv.Inout) name = declared n name
entry_kind n (Passed conv.Sink) name = declared n name
entry_kind n Captured name = declared n name
entry_kind n VarBound name = declared n name
entry_kind n LetBound name = declared n name
entry_kind n InoutBound name = declared n name
entry_kind n Handle name = declared n name

entries : (n : ℕ) (ls : List Local) → EntersNowhere (events.entry_events n ls)
entries n [] = tt
entries n (l ∷ ls) = (entry_kind n l.kind l.name, entries (suc n) ls)

pub body_enters_nowhere : (tree : Core) (body : CoreBody) → EntersNowhere (events.body_events tree body)
body_enters_nowhere tree body =
    (entries 0 (entry_locals body), (stmts tree (locals_of body) (events.body_around body) (core.stmts_in body.block), other (event.ScopeEnd (length (entry_locals body))) refl))
