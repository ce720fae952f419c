-- What each event belongs to is told by the words of its plan.
use Rattle.std.proofs.Common.{◌≡◌, ℕ, suc, Bool, true, false, if◌then◌else◌, List, [], ◌∷◌, ◌++◌, Option, Some, None, refl, sym, subst}
use Rattle.std.specs.Prelude.{⊤}
use Rattle.hv_tree.specs.declared.place.Place.{Place}
use Rattle.hv_tree.specs.declared.types.Name.{Name}
use Rattle.hv_tree.specs.declared.types.Conv.{Conv}
use Rattle.hv_tree.specs.declared.types.Conv.TheVariants as conv
use Rattle.hv_tree.specs.Core.{Core, CoreExpr, Number, Truth, Path, Calls, Awaits, Array, Filled, Count, Lambda, Prefix, Chain, CoreExprs, NoExprs, ExprOf, CoreLinks, NoLinks, LinkOf, CoreSteps, NoSteps, FieldStep, IndexStep, CoreCall, CallOf, CoreArgs, NoArgs, ValueArg, RefArg, CoreBlock, BlockOf, CoreBranches, NoElse, Else, BranchOf, CoreStmts, NoStmts, StmtOf, CoreStmt, Var, VarWith, Let, Inout, Assign, If, While, Return, ReturnWith, Print, Task, AwaitsAlone, CallsAlone, Bare}
use Rattle.hv_decls.specs.declared.path.StaticPath.{StaticPath}
use Rattle.hv_rules.specs.declared.event.FlowEvent.TheVariants as event
use Rattle.hv_rules.specs.Flow.{Skip, Do, Stop, Then, Either, Loop}
use Rattle.hv_decls.specs.Locals.{LocalKind, Captured, Passed, VarBound, LetBound, InoutBound, Handle, Local, CoreBody, entry_locals, locals_of, number_in, value_of}
use Rattle.hv_rules.specs.Events as events
use Rattle.hv_decls.specs.Statics as statics
use Rattle.hv_tree.specs.Core as core
use Rattle.hv_rules.specs.States.{binding_of}
use Rattle.hv_flow_plan.specs.declared.plan.FlowOp.{FlowOp}
use Rattle.hv_flow_plan.specs.Spelling.{plan_of, entered}
use Rattle.hv_excl.specs.Told.{declared_by, declared_next, told_by}

-- ---- flows

-- the local that the first event declares, where the flow is that event
abbrev pub first_in : events.Events → Option ℕ
first_in Skip = None
first_in (Do m) = declared_by m.event
first_in (Stop m) = None
first_in (Then a b) = None
first_in (Either a b) = None
first_in (Loop a) = None

-- the local that the word behind the flow's first Then declares
abbrev pub next_in : events.Events → Option ℕ
next_in Skip = None
next_in (Do m) = None
next_in (Stop m) = None
next_in (Then a b) = first_in a
next_in (Either a b) = None
next_in (Loop a) = None

-- the local that the last word declares
abbrev pub last_in : events.Events → Option ℕ
last_in Skip = None
last_in (Do m) = declared_by m.event
last_in (Stop m) = None
last_in (Then a b) = last_in b
last_in (Either a b) = last_in b
last_in (Loop a) = last_in a

-- each event belongs to the binding that the words tell, behind a word that declares this and before those that declare that
abbrev pub Tells : Option ℕ → Option ℕ → events.Events → Type 0
Tells before next Skip = ⊤
Tells before next (Do m) = told_by before next m.event ≡ binding_of m.belongs
Tells before next (Stop m) = told_by before next m.event ≡ binding_of m.belongs
Tells before next (Then a b) = Tells None (next_in b) a × Tells (last_in a) next b
Tells before next (Either a b) = Tells None (next_in b) a × Tells (last_in a) next b
Tells before next (Loop a) = Tells None next a

pub next_is : (f : events.Events) (os : List FlowOp) → declared_next (plan_of f ++ os) ≡ next_in f
next_is Skip os = refl
next_is (Do m) os = refl
next_is (Stop m) os = refl
next_is (Then Skip b) os = refl
next_is (Then (Do m) b) os = refl
next_is (Then (Stop m) b) os = refl
next_is (Then (Then a c) b) os = refl
next_is (Then (Either a c) b) os = refl
next_is (Then (Loop a) b) os = refl
next_is (Either a b) os = refl
next_is (Loop a) os = refl

-- whatever stands around it
record Free (f : events.Events) : Type 0 where
  tells : (before next : Option ℕ) → Tells before next f

-- and its last word declares nothing
record Plain (f : events.Events) : Type 0 where
  tells : (before next : Option ℕ) → Tells before next f
  last : last_in f ≡ None

-- or what stands behind declares this
record Before (b : Option ℕ) (f : events.Events) : Type 0 where
  tells : (before : Option ℕ) → Tells before b f
  last : last_in f ≡ None

abbrev Keeps : Bool → Option ℕ → events.Events → Type 0
Keeps false b f = Plain f
Keeps true b f = Before b f

abbrev Does : Bool → Option ℕ → events.Doing → Type 0
Does g b does = (p : StaticPath) (at : Place) → Keeps g b (Do (does p at))

free : (f : events.Events) → Plain f → Free f
free f h = record { tells = h.tells }

one_then : (a b : events.Events) → Plain a → Plain b → Plain (Then a b)
one_then a b h g = record { tells = λ before next. (h.tells None (next_in b), g.tells (last_in a) next); last = g.last }

then_keeps : (g : Bool) (o : Option ℕ) (a b : events.Events) → Plain a → Keeps g o b → Keeps g o (Then a b)
then_keeps false o a b h k = one_then a b h k
then_keeps true o a b h k = record { tells = λ before. (h.tells None (next_in b), k.tells (last_in a)); last = k.last }

free_then : (a b : events.Events) → Free a → Free b → Free (Then a b)
free_then a b h g = record { tells = λ before next. (h.tells None (next_in b), g.tells (last_in a) next) }

free_one : (a b : events.Events) → Free a → Free b → Free (Either a b)
free_one a b h g = record { tells = λ before next. (h.tells None (next_in b), g.tells (last_in a) next) }

free_turns : (a : events.Events) → Free a → Free (Loop a)
free_turns a h = record { tells = λ before next. h.tells None next }

skip : Plain Skip
skip = record { tells = λ before next. tt; last = refl }

skip_then : (a : events.Events) → Plain a → Plain (Either Skip a)
skip_then a h = record { tells = λ before next. (tt, h.tells None next); last = h.last }

low : (g : Bool) (o : Option ℕ) (f : events.Events) → Plain f → Keeps (if g then false else false) o f
low true o f h = h
low false o f h = h

-- ---- what is done with a place

uses : Does false None events.uses
uses p at = record { tells = λ before next. refl; last = refl }

moves : Does false None events.moves
moves p at = record { tells = λ before next. refl; last = refl }

reads : Does true None events.reads
reads p at = record { tells = λ before. refl; last = refl }

given : (w : events.Way) (c : Option Conv) → Does (events.opens w c) None (events.given w c)
given events.ByCall (Some conv.Let) = reads
given events.BySpawn (Some conv.Let) = uses
given events.ByCall (Some conv.Sink) = moves
given events.BySpawn (Some conv.Sink) = moves
given events.ByCall (Some conv.Inout) = uses
given events.BySpawn (Some conv.Inout) = uses
given events.ByCall (Some conv.Set) = uses
given events.BySpawn (Some conv.Set) = uses
given events.ByCall None = uses
given events.BySpawn None = uses

lent : (c : Option Conv) → Does true None (events.lent c)
lent (Some conv.Set) p at = record { tells = λ before. refl; last = refl }
lent (Some conv.Let) p at = record { tells = λ before. refl; last = refl }
lent (Some conv.Inout) p at = record { tells = λ before. refl; last = refl }
lent (Some conv.Sink) p at = record { tells = λ before. refl; last = refl }
lent None p at = record { tells = λ before. refl; last = refl }

-- an argument, the others and the Close
closes : (w : events.Way) (g : Bool) (f others : events.Events) (at : Place) → Keeps g None f → Plain others → first_in others ≡ None → Plain (Then f (events.with_close w g at others))
closes events.ByCall false f others at h k e = one_then f others h k
closes events.BySpawn false f others at h k e = one_then f others h k
closes events.ByCall true f others at h k e = record { tells = λ before next. (subst (λ o. Tells None o f) (sym e) (h.tells None), (k.tells None None, refl)); last = refl }
closes events.BySpawn true f others at h k e = record { tells = λ before next. (h.tells None, (refl, k.tells None next)); last = k.last }

declared : (n : ℕ) (name : Name) → Plain (events.declared n name)
declared n name = record { tells = λ before next. (refl, refl); last = refl }

chosen : (b : Bool) (f : events.Events) → Plain f → Plain (if b then Either Skip f else f)
chosen true f h = skip_then f h
chosen false f h = h

module _ (tree : Core) (locals : List Local) where
  rooted : (g : Bool) (b : Option ℕ) (does : events.Doing) (o : Option ℕ) (root : Name) (steps : CoreSteps) → Does g b does →
      Keeps (if g then events.is_local tree locals o else false) b (events.on_root tree locals does o root steps)
  rooted true b does None root steps d = skip
  rooted false b does None root steps d = skip
  rooted true b does (Some n) root steps d = d (record { root = n; steps = statics.static_steps tree (value_of (events.local_of tree locals root)) steps }) root.place
  rooted false b does (Some n) root steps d = d (record { root = n; steps = statics.static_steps tree (value_of (events.local_of tree locals root)) steps }) root.place

  used : (o : Option ℕ) (root : Name) (steps : CoreSteps) → Plain (events.on_root tree locals events.uses o root steps)
  used o root steps = rooted false None events.uses o root steps uses

  -- no declaration stands right before it
  filled : (o : Option ℕ) (root : Name) (steps : CoreSteps) (next : Option ℕ) → Tells None next (events.on_root tree locals events.inits o root steps)
  filled None root steps next = tt
  filled (Some n) root steps next = refl

  awaited : (o : Option ℕ) (at : Place) → Plain (events.on_handle tree locals event.Await o at)
  awaited None at = skip
  awaited (Some h) at = record { tells = λ before next. refl; last = refl }

  captured : (names : List Name) → Plain (events.captured tree locals names)
  captured [] = skip
  captured (name ∷ names) = one_then _ (events.captured tree locals names) (used (number_in locals name.text) name NoSteps) (captured names)

  first_arg : (w : events.Way) (at : Place) (callee : events.Callee) (xs : CoreArgs) → first_in (events.arg_events tree locals w at callee xs) ≡ None
  first_arg w at callee NoArgs = refl
  first_arg w at callee (ValueArg x rest) = refl
  first_arg w at callee (RefArg mark root steps rest) = refl

  mutual
    expr : (g : Bool) (b : Option ℕ) (does : events.Doing) (x : CoreExpr) → Does g b does → Keeps (if g then events.is_place tree locals x else false) b (events.expr_events tree locals does x)
    expr g b does (Number at z) d = low g b _ skip
    expr g b does (Truth at z) d = low g b _ skip
    expr g b does (Path at root steps) d =
        then_keeps _ b (events.index_events tree locals steps) _ (indices steps) (rooted g b does (number_in locals root.text) root steps d)
    expr g b does (Calls at c) d = low g b _ (call events.ByCall c)
    expr g b does (Awaits at name) d = low g b _ (awaited (number_in locals name.text) at)
    expr g b does (Array at xs) d = low g b _ (parts xs)
    expr g b does (Filled at len value) d = low g b _ (one_then _ _ (expr false None events.uses len uses) (expr false None events.uses value uses))
    expr g b does (Count at root steps) d = low g b _ (one_then _ _ (indices steps) (used (number_in locals root.text) root steps))
    expr g b does (Lambda at captures params result body) d = low g b _ (captured captures)
    expr g b does (Prefix at o x) d = low g b _ (expr false None events.uses x uses)
    expr g b does (Chain at first rest) d = low g b _ (one_then _ _ (expr false None events.uses first uses) (links rest))

    parts : (xs : CoreExprs) → Plain (events.part_events tree locals xs)
    parts NoExprs = skip
    parts (ExprOf x rest) = one_then _ _ (expr false None events.uses x uses) (parts rest)

    links : (ls : CoreLinks) → Plain (events.link_events tree locals ls)
    links NoLinks = skip
    links (LinkOf o at x rest) = chosen (events.is_short o) (Then (events.expr_events tree locals events.uses x) (events.link_events tree locals rest)) (one_then _ _ (expr false None events.uses x uses) (links rest))

    indices : (steps : CoreSteps) → Plain (events.index_events tree locals steps)
    indices NoSteps = skip
    indices (FieldStep name rest) = indices rest
    indices (IndexStep at x rest) = one_then _ _ (expr false None events.uses x uses) (indices rest)

    call : (w : events.Way) (c : CoreCall) → Plain (events.call_events tree locals w c)
    call w (CallOf root steps at xs) =
        one_then (Then (events.index_events tree locals steps) (events.on_root tree locals events.uses (number_in locals root.text) root steps)) _
        (one_then _ _ (indices steps) (used (number_in locals root.text) root steps)) (args w at (events.callee_of tree locals root steps) xs)

    args : (w : events.Way) (at : Place) (callee : events.Callee) (xs : CoreArgs) → Plain (events.arg_events tree locals w at callee xs)
    args w at callee NoArgs = skip
    args w at callee (ValueArg x rest) =
        closes w (events.opens_place tree locals w (events.next_conv callee) x) (events.expr_events tree locals (events.given w (events.next_conv callee)) x) (events.arg_events tree locals w at (events.other_convs callee) rest) at
        (expr (events.opens w (events.next_conv callee)) None (events.given w (events.next_conv callee)) x (given w (events.next_conv callee)))
        (args w at (events.other_convs callee) rest) (first_arg w at (events.other_convs callee) rest)
    args w at callee (RefArg mark root steps rest) =
        closes w (events.is_local tree locals (number_in locals root.text)) _ (events.arg_events tree locals w at (events.other_convs callee) rest) at
        (then_keeps (events.is_local tree locals (number_in locals root.text)) None (events.index_events tree locals steps) _ (indices steps)
        (rooted true None (events.lent (events.next_conv callee)) (number_in locals root.text) root steps (lent (events.next_conv callee))))
        (args w at (events.other_convs callee) rest) (first_arg w at (events.other_convs callee) rest)

  place : (g : Bool) (b : Option ℕ) (does : events.Doing) (root : Name) (steps : CoreSteps) → Does g b does →
      Keeps (if g then events.is_local tree locals (number_in locals root.text) else false) b (events.place_events tree locals does root steps)
  place g b does root steps d = then_keeps _ b (events.index_events tree locals steps) _ (indices steps) (rooted g b does (number_in locals root.text) root steps d)

  -- ---- statements

  -- a binding, behind what may keep an access open for it
  bound : (g : Bool) (n : ℕ) (name : Name) (f : events.Events) → Keeps g (Some n) f → Free (Then f (events.declared n name))
  bound true n name f h = record { tells = λ before next. (h.tells None, (declared n name).tells (last_in f) next) }
  bound false n name f h = free (Then f (events.declared n name)) (one_then f (events.declared n name) h (declared n name))

  changed : (root : Name) (steps : CoreSteps) → Free (events.place_events tree locals events.inits root steps)
  changed root steps = record {
    tells = λ before next. (
      (indices steps).tells None (next_in (events.on_root tree locals events.inits (number_in locals root.text) root steps)),
      subst (λ o. Tells o next (events.on_root tree locals events.inits (number_in locals root.text) root steps)) (sym (indices steps).last) (filled (number_in locals root.text) root steps next),
    );
  }

  returns : (s : events.Around) (at : Place) → Free (events.return_at tree locals s at)
  returns s at = record { tells = λ before next. refl }

  ends : (s : events.Around) (inner : CoreStmts) (at : Place) → Free (events.scope_end tree locals s inner at)
  ends s inner at = record { tells = λ before next. refl }

  value : (x : CoreExpr) → Free (events.value_events tree locals x)
  value x = free _ (expr false None events.uses x uses)

  mutual
    stmt : (s : events.Around) (x : CoreStmt) → Free (events.stmt_events tree locals s x)
    stmt s (Var at name t) = record { tells = λ before next. refl }
    stmt s (VarWith at name t x) = free_then _ _ (value x) (free _ (declared s.next name))
    stmt s (Let at name t x) =
        bound (events.is_place tree locals x) s.next name (events.expr_events tree locals (λ p root. events.declaring s.next (event.OpenRead p) root) x)
        (expr true (Some s.next) (λ p root. events.declaring s.next (event.OpenRead p) root) x (λ p at. record { tells = λ before. refl; last = refl }))
    stmt s (Inout at name t root steps) =
        bound (events.is_local tree locals (number_in locals root.text)) s.next name (events.place_events tree locals (λ p r. events.declaring s.next (event.OpenWrite p) r) root steps)
        (place true (Some s.next) (λ p r. events.declaring s.next (event.OpenWrite p) r) root steps (λ p at. record { tells = λ before. refl; last = refl }))
    stmt s (Assign at root steps x) = free_then _ _ (value x) (changed root steps)
    stmt s (If at bs) = branches s bs
    stmt s (While at test body) = free_then _ _ (free_turns _ (free_then _ _ (value test) (block s body))) (value test)
    stmt s (Return at) = returns s at
    stmt s (ReturnWith at x) = free_then _ _ (value x) (returns s at)
    stmt s (Print at x) = value x
    stmt s (Task at name t spawn budget c) =
        free_then _ _ (value budget) (free_then _ (Do (events.mark (event.Spawn s.next) spawn)) (free _ (call events.BySpawn c)) (record { tells = λ before next. refl }))
    stmt s (AwaitsAlone at name) = free _ (awaited (number_in locals name.text) at)
    stmt s (CallsAlone at c) = free _ (call events.ByCall c)
    stmt s (Bare at b) = block s b

    branches : (s : events.Around) (b : CoreBranches) → Free (events.branch_events tree locals s b)
    branches s NoElse = free _ skip
    branches s (Else x) = block s x
    branches s (BranchOf test body rest) = free_then _ _ (value test) (free_one _ _ (block s body) (branches (events.behind_block body s) rest))

    block : (s : events.Around) (b : CoreBlock) → Free (events.block_events tree locals s b)
    block s (BlockOf inner end) = free_then _ _ (stmts (events.entered inner s) inner) (ends s inner end)

    stmts : (s : events.Around) (xs : CoreStmts) → Free (events.stmts_events tree locals s xs)
    stmts s NoStmts = free _ skip
    stmts s (StmtOf x rest) = free_then _ _ (stmt s x) (stmts (events.behind x s) rest)

-- ---- bodies

entry_kind : (n : ℕ) (k : LocalKind) (name : Name) → Free (events.entry_event n k name)
entry_kind n (Passed conv.Set) name = record { tells = λ before next. refl }
entry_kind n (Passed conv.Let) name = free _ (declared n name)
entry_kind n (Passed conv.Inout) name = free _ (declared n name)
entry_kind n (Passed conv.Sink) name = free _ (declared n name)
entry_kind n Captured name = free _ (declared n name)
entry_kind n VarBound name = free _ (declared n name)
entry_kind n LetBound name = free _ (declared n name)
entry_kind n InoutBound name = free _ (declared n name)
entry_kind n Handle name = free _ (declared n name)

entries : (n : ℕ) (ls : List Local) → Free (events.entry_events n ls)
entries n [] = free _ skip
entries n (l ∷ ls) = free_then _ _ (entry_kind n l.kind l.name) (entries (suc n) ls)

ended : (tree : Core) (body : CoreBody) → Free (Do (events.body_end body (events.body_around body)))
ended tree body = record { tells = λ before next. refl }

pub body_tells : (tree : Core) (body : CoreBody) → Tells None None (entered (core.end_of body.block) (events.body_events tree body))
body_tells tree body =
    (refl, (free_then _ _ (entries 0 (entry_locals body)) (free_then _ _ (stmts tree (locals_of body) (events.body_around body) (core.stmts_in body.block)) (ended tree body))).tells None None)
