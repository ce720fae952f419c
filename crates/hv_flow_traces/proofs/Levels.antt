-- What each part of a body leaves open, by the text, whatever run is taken.
use Rattle.std.proofs.Common.{◌≡◌, ℕ, suc, ◌+◌, ◌<◌, ◌≤◌, nat_lt, Bool, true, false, if◌then◌else◌, length, List, [], ◌∷◌, ◌++◌, Option, Some, None, refl, sym, ◌∙◌, ap, subst, append_assoc, length-append, arith}
use Rattle.std.specs.Prelude.{⊤}
use Rattle.std.proofs.lemmas.Bool.Decides.{nat_tests}
use Rattle.hv_tree.specs.declared.place.Place.{Place}
use Rattle.hv_tree.specs.declared.types.Name.{Name}
use Rattle.hv_tree.specs.declared.types.Conv.{Conv}
use Rattle.hv_tree.specs.declared.types.Conv.TheVariants as conv
use Rattle.hv_tree.specs.Core.{Core, CoreExpr, Number, Truth, Path, Calls, Awaits, Array, Filled, Count, Lambda, Prefix, Chain, CoreExprs, NoExprs, ExprOf, CoreLinks, NoLinks, LinkOf, CoreSteps, NoSteps, FieldStep, IndexStep, CoreCall, CallOf, CoreArgs, NoArgs, ValueArg, RefArg, CoreBlock, BlockOf, CoreBranches, NoElse, Else, BranchOf, CoreStmts, NoStmts, StmtOf, CoreStmt, Var, VarWith, Let, Inout, Assign, If, While, Return, ReturnWith, Print, Task, AwaitsAlone, CallsAlone, Bare}
use Rattle.hv_decls.specs.declared.path.StaticPath.{StaticPath}
use Rattle.hv_rules.specs.declared.event.FlowEvent.TheVariants as event
use Rattle.hv_rules.specs.Flow.{Skip, Do, Then, Either}
use Rattle.hv_decls.specs.Locals.{LocalKind, Captured, Passed, VarBound, LetBound, InoutBound, Handle, Local, CoreBody, entry_locals, locals_of, number_in, value_of, declared_in, in_block, in_stmts}
use Rattle.hv_rules.specs.Events as events
use Rattle.hv_decls.specs.Statics as statics
use Rattle.hv_tree.specs.Core as core
use Rattle.hv_rules.specs.States.{Access, Reading, closed, dropped_or_kept, stays, without_bindings}
use Rattle.hv_flow_traces.specs.Carried.{behind, Steady}
use Rattle.hv_flow_traces.specs.Opened.{opens}

abbrev Accesses : Type 0
Accesses = List Access

-- all runs leave what the text leaves, and the text leaves the open accesses xs they are
abbrev Level : events.Events → Type 0
Level f = (xs : Accesses) → Steady opens f xs × (behind opens f xs ≡ xs)

-- and the text opens one more, which belongs to this, or none
abbrev Grows : Bool → Option ℕ → events.Events → Type 0
Grows false b f = Level f
Grows true b f = (xs : Accesses) → Steady opens f xs × ((a : Access) × (a.binding ≡ b) × (behind opens f xs ≡ a ∷ xs))

abbrev Does : Bool → Option ℕ → events.Doing → Type 0
Does g b does = (p : StaticPath) (at : Place) → Grows g b (Do (does p at))

-- ---- flows

one_then : (a b : events.Events) → Level a → Level b → Level (Then a b)
one_then a b h g xs =
    let p = h xs in
    let q = g xs in
    ((p.0, subst (λ z. Steady opens b z) (sym p.1) q.0), ap (behind opens b) p.1 ∙ q.1)

then_grows : (g : Bool) (o : Option ℕ) (a b : events.Events) → Level a → Grows g o b → Grows g o (Then a b)
then_grows false o a b h k = one_then a b h k
then_grows true o a b h k = λ xs.
    let p = h xs in
    let q = k xs in
    ((p.0, subst (λ z. Steady opens b z) (sym p.1) q.0), (q.1.0, q.1.1, ap (behind opens b) p.1 ∙ q.1.2))

skip_then : (a : events.Events) → Level a → Level (Either Skip a)
skip_then a h xs = let p = h xs in ((tt, refl, p.0, p.1), refl)

low : (g : Bool) (o : Option ℕ) (f : events.Events) → Level f → Grows (if g then false else false) o f
low true o f h = h
low false o f h = h

-- ---- what is done with a place

uses : Does false None events.uses
uses p at xs = (tt, refl)

moves : Does false None events.moves
moves p at xs = (tt, refl)

inits : Does false None events.inits
inits p at xs = (tt, refl)

reads : Does true None events.reads
reads p at xs = (tt, (record { path = p; mode = Reading; binding = None }, refl, refl))

given : (w : events.Way) (c : Option Conv) → Does (events.opens w c) None (events.given w c)
given events.ByCall (Some conv.Let) = reads
given events.BySpawn (Some conv.Let) = uses
given events.ByCall (Some conv.Sink) = moves
given events.BySpawn (Some conv.Sink) = moves
given events.ByCall (Some conv.Inout) = uses
given events.BySpawn (Some conv.Inout) = uses
given events.ByCall (Some conv.Set) = uses
given events.BySpawn (Some conv.Set) = uses
given events.ByCall None = uses
given events.BySpawn None = uses

lent : (c : Option Conv) → Does true None (events.lent c)
lent (Some conv.Set) p at xs = (tt, (_, refl, refl))
lent (Some conv.Let) p at xs = (tt, (_, refl, refl))
lent (Some conv.Inout) p at xs = (tt, (_, refl, refl))
lent (Some conv.Sink) p at xs = (tt, (_, refl, refl))
lent None p at xs = (tt, (_, refl, refl))

closed_first : (a : Access) (xs : Accesses) → a.binding ≡ None → closed (a ∷ xs) ≡ xs
closed_first a xs e = ap (λ (o : Option ℕ). dropped_or_kept a o xs (closed xs)) e

-- an argument, the others and the Close
closes : (w : events.Way) (g : Bool) (f others : events.Events) (at : Place) → Grows g None f → Level others → Level (Then f (events.with_close w g at others))
closes events.ByCall false f others at h k = one_then f others h k
closes events.BySpawn false f others at h k = one_then f others h k
closes events.ByCall true f others at h k = λ xs.
    let p = h xs in
    let q = k (p.1.0 ∷ xs) in (
      (p.0, subst (λ z. Steady opens (Then others (Do (events.mark event.Close at))) z) (sym p.1.2) (q.0, tt)),
      ap (λ z. closed (behind opens others z)) p.1.2 ∙ (ap closed q.1 ∙ closed_first p.1.0 xs p.1.1),
    )
closes events.BySpawn true f others at h k = λ xs.
    let p = h xs in
    let q = k xs in
    let e = ap closed p.1.2 ∙ closed_first p.1.0 xs p.1.1 in
    ((p.0, (tt, subst (λ z. Steady opens others z) (sym e) q.0)), ap (behind opens others) e ∙ q.1)

declared : (n : ℕ) (name : Name) → Level (events.declared n name)
declared n name xs = ((tt, tt), refl)

chosen : (b : Bool) (f : events.Events) → Level f → Level (if b then Either Skip f else f)
chosen true f h = skip_then f h
chosen false f h = h

module _ (tree : Core) (locals : List Local) where
  rooted : (g : Bool) (b : Option ℕ) (does : events.Doing) (o : Option ℕ) (root : Name) (steps : CoreSteps) → Does g b does →
      Grows (if g then events.is_local tree locals o else false) b (events.on_root tree locals does o root steps)
  rooted true b does None root steps d = λ xs. (tt, refl)
  rooted false b does None root steps d = λ xs. (tt, refl)
  rooted true b does (Some n) root steps d = d (record { root = n; steps = statics.static_steps tree (value_of (events.local_of tree locals root)) steps }) root.place
  rooted false b does (Some n) root steps d = d (record { root = n; steps = statics.static_steps tree (value_of (events.local_of tree locals root)) steps }) root.place

  used : (o : Option ℕ) (root : Name) (steps : CoreSteps) → Level (events.on_root tree locals events.uses o root steps)
  used o root steps = rooted false None events.uses o root steps uses

  awaited : (o : Option ℕ) (at : Place) → Level (events.on_handle tree locals event.Await o at)
  awaited None at xs = (tt, refl)
  awaited (Some h) at xs = (tt, refl)

  captured : (names : List Name) → Level (events.captured tree locals names)
  captured [] = λ xs. (tt, refl)
  captured (name ∷ names) = one_then _ (events.captured tree locals names) (used (number_in locals name.text) name NoSteps) (captured names)

  mutual
    expr : (g : Bool) (b : Option ℕ) (does : events.Doing) (x : CoreExpr) → Does g b does → Grows (if g then events.is_place tree locals x else false) b (events.expr_events tree locals does x)
    expr g b does (Number at z) d = low g b _ (λ xs. (tt, refl))
    expr g b does (Truth at z) d = low g b _ (λ xs. (tt, refl))
    expr g b does (Path at root steps) d =
        then_grows _ b (events.index_events tree locals steps) _ (indices steps) (rooted g b does (number_in locals root.text) root steps d)
    expr g b does (Calls at c) d = low g b _ (call events.ByCall c)
    expr g b does (Awaits at name) d = low g b _ (awaited (number_in locals name.text) at)
    expr g b does (Array at xs) d = low g b _ (parts xs)
    expr g b does (Filled at len value) d = low g b _ (one_then _ _ (expr false None events.uses len uses) (expr false None events.uses value uses))
    expr g b does (Count at root steps) d = low g b _ (one_then _ _ (indices steps) (used (number_in locals root.text) root steps))
    expr g b does (Lambda at captures params result body) d = low g b _ (captured captures)
    expr g b does (Prefix at o x) d = low g b _ (expr false None events.uses x uses)
    expr g b does (Chain at first rest) d = low g b _ (one_then _ _ (expr false None events.uses first uses) (links rest))

    parts : (xs : CoreExprs) → Level (events.part_events tree locals xs)
    parts NoExprs = λ xs. (tt, refl)
    parts (ExprOf x rest) = one_then _ _ (expr false None events.uses x uses) (parts rest)

    links : (ls : CoreLinks) → Level (events.link_events tree locals ls)
    links NoLinks = λ xs. (tt, refl)
    links (LinkOf o at x rest) = chosen (events.is_short o) (Then (events.expr_events tree locals events.uses x) (events.link_events tree locals rest)) (one_then _ _ (expr false None events.uses x uses) (links rest))

    indices : (steps : CoreSteps) → Level (events.index_events tree locals steps)
    indices NoSteps = λ xs. (tt, refl)
    indices (FieldStep name rest) = indices rest
    indices (IndexStep at x rest) = one_then _ _ (expr false None events.uses x uses) (indices rest)

    call : (w : events.Way) (c : CoreCall) → Level (events.call_events tree locals w c)
    call w (CallOf root steps at xs) =
        one_then (Then (events.index_events tree locals steps) (events.on_root tree locals events.uses (number_in locals root.text) root steps)) _
        (one_then _ _ (indices steps) (used (number_in locals root.text) root steps)) (args w at (events.callee_of tree locals root steps) xs)

    args : (w : events.Way) (at : Place) (callee : events.Callee) (xs : CoreArgs) → Level (events.arg_events tree locals w at callee xs)
    args w at callee NoArgs = λ xs. (tt, refl)
    args w at callee (ValueArg x rest) =
        closes w (events.opens_place tree locals w (events.next_conv callee) x) (events.expr_events tree locals (events.given w (events.next_conv callee)) x) (events.arg_events tree locals w at (events.other_convs callee) rest) at
        (expr (events.opens w (events.next_conv callee)) None (events.given w (events.next_conv callee)) x (given w (events.next_conv callee)))
        (args w at (events.other_convs callee) rest)
    args w at callee (RefArg mark root steps rest) =
        closes w (events.is_local tree locals (number_in locals root.text)) _ (events.arg_events tree locals w at (events.other_convs callee) rest) at
        (then_grows (events.is_local tree locals (number_in locals root.text)) None (events.index_events tree locals steps) _ (indices steps)
        (rooted true None (events.lent (events.next_conv callee)) (number_in locals root.text) root steps (lent (events.next_conv callee))))
        (args w at (events.other_convs callee) rest)

  place : (g : Bool) (b : Option ℕ) (does : events.Doing) (root : Name) (steps : CoreSteps) → Does g b does →
      Grows (if g then events.is_local tree locals (number_in locals root.text) else false) b (events.place_events tree locals does root steps)
  place g b does root steps d = then_grows _ b (events.index_events tree locals steps) _ (indices steps) (rooted g b does (number_in locals root.text) root steps d)

-- ---- statements

-- accesses of the bindings from n on, below m
abbrev Among : ℕ → ℕ → Accesses → Type 0
Among n m [] = ⊤
Among n m (a ∷ xs) = ((k : ℕ) × (a.binding ≡ Some k) × (n ≤ k) × (k < m)) × Among n m xs

-- accesses of calls, and of bindings below n
abbrev Stay : ℕ → Option ℕ → Type 0
Stay n None = ⊤
Stay n (Some k) = k < n

abbrev Below : ℕ → Accesses → Type 0
Below n [] = ⊤
Below n (a ∷ xs) = Stay n a.binding × Below n xs

stay_up : (n m : ℕ) (b : Option ℕ) → n ≤ m → Stay n b → Stay m b
stay_up n m None h s = tt
stay_up n m (Some k) h s = omega (arith, h, s)

below_up : (n m : ℕ) (xs : Accesses) → n ≤ m → Below n xs → Below m xs
below_up n m [] h b = tt
below_up n m (a ∷ xs) h b = (stay_up n m a.binding h b.0, below_up n m xs h b.1)

below_with : (n m : ℕ) (bs xs : Accesses) → n ≤ m → Among n m bs → Below n xs → Below m (bs ++ xs)
below_with n m [] xs h g b = below_up n m xs h b
below_with n m (a ∷ bs) xs h g b = (subst (λ o. Stay m o) (sym g.0.1) g.0.3, below_with n m bs xs h g.1 b)

among_both : (n l m : ℕ) (bs cs : Accesses) → n ≤ l → l ≤ m → Among n l bs → Among l m cs → Among n m (cs ++ bs)
among_both n l m [] [] h k g c = tt
among_both n l m (b ∷ bs) [] h k g c = ((g.0.0, g.0.1, g.0.2, omega (arith, g.0.3, k)), among_both n l m bs [] h k g.1 tt)
among_both n l m bs (c ∷ cs) h k g d = ((d.0.0, d.0.1, omega (arith, d.0.2, h), d.0.3), among_both n l m bs cs h k g d.1)

-- the end of the locals from n on closes these and keeps those
stays_so : (n : ℕ) (b : Option ℕ) → Stay n b → stays n b ≡ true
stays_so n None s = refl
stays_so n (Some k) s = grind (arith, nat_tests)

goes : (n k : ℕ) → n ≤ k → nat_lt k n ≡ false
goes n k h = grind (arith, nat_tests)

kept : (n : ℕ) (xs : Accesses) → Below n xs → without_bindings n xs ≡ xs
kept n [] b = refl
kept n (a ∷ xs) b = by (stays n a.binding) (stays_so n a.binding b.0) (kept n xs b.1)
  where
    by : (t : Bool) → t ≡ true → without_bindings n xs ≡ xs → (if t then a ∷ without_bindings n xs else without_bindings n xs) ≡ a ∷ xs
    by true e h = ap (λ w. a ∷ w) h
    by false e h = cc

ended : (n m : ℕ) (bs xs : Accesses) → Among n m bs → Below n xs → without_bindings n (bs ++ xs) ≡ xs
ended n m [] xs g b = kept n xs b
ended n m (a ∷ bs) xs g b = by (stays n a.binding) (ap (stays n) g.0.1 ∙ goes n g.0.0 g.0.2) (ended n m bs xs g.1 b)
  where
    by : (t : Bool) → t ≡ false → without_bindings n (bs ++ xs) ≡ xs → (if t then a ∷ without_bindings n (bs ++ xs) else without_bindings n (bs ++ xs)) ≡ xs
    by true e h = cc
    by false e h = h

-- a statement opens accesses of the bindings that it declares
abbrev Binds : ℕ → ℕ → events.Events → Type 0
Binds n m f = (xs : Accesses) → Below n xs → Steady opens f xs × ((bs : Accesses) × Among n m bs × (behind opens f xs ≡ bs ++ xs))

-- and a block none that it doesn't close
abbrev Shut : ℕ → events.Events → Type 0
Shut n f = (xs : Accesses) → Below n xs → Steady opens f xs × (behind opens f xs ≡ xs)

level_binds : (n m : ℕ) (f : events.Events) → Level f → Binds n m f
level_binds n m f h xs b = let p = h xs in (p.0, ([], tt, p.1))

shut_binds : (n m : ℕ) (f : events.Events) → Shut n f → Binds n m f
shut_binds n m f h xs b = let p = h xs b in (p.0, ([], tt, p.1))

grows_binds : (n m : ℕ) (g : Bool) (f l : events.Events) → n < m → Grows g (Some n) f → Level l → Binds n m (Then f l)
grows_binds n m false f l k h q = level_binds n m (Then f l) (one_then f l h q)
grows_binds n m true f l k h q = λ xs b.
    let p = h xs in
    let r = q (p.1.0 ∷ xs) in (
      (p.0, subst (λ z. Steady opens l z) (sym p.1.2) r.0),
      (p.1.0 ∷ [], ((n, p.1.1, omega arith, k), tt), ap (behind opens l) p.1.2 ∙ r.1),
    )

module _ (tree : Core) (locals : List Local) where
  value : (x : CoreExpr) → Level (events.value_events tree locals x)
  value x = expr tree locals false None events.uses x uses

  test_first : (n : ℕ) (x : CoreExpr) (f : events.Events) → Shut n f → Shut n (Then (events.value_events tree locals x) f)
  test_first n x f h xs b =
      let p = value x xs in
      let q = h xs b in
      ((p.0, subst (λ z. Steady opens f z) (sym p.1) q.0), ap (behind opens f) p.1 ∙ q.1)

  looped : (s : events.Around) (test : CoreExpr) (body : CoreBlock) → Shut s.next (events.block_events tree locals s body) → Shut s.next (events.stmt_events tree locals s (While (core.end_of body) test body))
  looped s test body h xs b =
      let p = test_first s.next test (events.block_events tree locals s body) h xs b in
      let q = value test xs in
      (((p.0, p.1), q.0), q.1)

  spawned : (s : events.Around) (at : Place) (budget : CoreExpr) (c : CoreCall) →
      Level (Then (events.value_events tree locals budget) (Then (events.call_events tree locals events.BySpawn c) (Do (events.mark (event.Spawn s.next) at))))
  spawned s at budget c =
      one_then (events.value_events tree locals budget) (Then (events.call_events tree locals events.BySpawn c) (Do (events.mark (event.Spawn s.next) at))) (value budget)
      (one_then (events.call_events tree locals events.BySpawn c) (Do (events.mark (event.Spawn s.next) at)) (call tree locals events.BySpawn c) (λ xs. (tt, refl)))

  mutual
    stmt : (s : events.Around) (x : CoreStmt) → Binds s.next (s.next + length (declared_in x)) (events.stmt_events tree locals s x)
    stmt s (Var at name t) = level_binds s.next _ (events.stmt_events tree locals s (Var at name t)) (λ xs. (tt, refl))
    stmt s (VarWith at name t x) =
        level_binds s.next _ (events.stmt_events tree locals s (VarWith at name t x)) (one_then (events.value_events tree locals x) (events.declared s.next name) (value x) (declared s.next name))
    stmt s (Let at name t x) =
        grows_binds s.next (s.next + 1) (events.is_place tree locals x) (events.expr_events tree locals (λ p root. events.declaring s.next (event.OpenRead p) root) x) (events.declared s.next name) (omega arith)
        (expr tree locals true (Some s.next) (λ p root. events.declaring s.next (event.OpenRead p) root) x (λ p at xs. (tt, (_, refl, refl)))) (declared s.next name)
    stmt s (Inout at name t root steps) =
        grows_binds s.next (s.next + 1) (events.is_local tree locals (number_in locals root.text)) (events.place_events tree locals (λ p r. events.declaring s.next (event.OpenWrite p) r) root steps) (events.declared s.next name) (omega arith)
        (place tree locals true (Some s.next) (λ p r. events.declaring s.next (event.OpenWrite p) r) root steps (λ p at xs. (tt, (_, refl, refl)))) (declared s.next name)
    stmt s (Assign at root steps x) =
        level_binds s.next _ (events.stmt_events tree locals s (Assign at root steps x))
        (one_then (events.value_events tree locals x) (events.place_events tree locals events.inits root steps) (value x) (place tree locals false None events.inits root steps inits))
    stmt s (If at bs) = shut_binds s.next _ (events.branch_events tree locals s bs) (branches s bs)
    stmt s (While at test body) = shut_binds s.next _ (events.stmt_events tree locals s (While at test body)) (looped s test body (block s body))
    stmt s (Return at) = level_binds s.next _ (events.return_at tree locals s at) (λ xs. (tt, refl))
    stmt s (ReturnWith at x) = level_binds s.next _ (events.stmt_events tree locals s (ReturnWith at x)) (one_then (events.value_events tree locals x) (events.return_at tree locals s at) (value x) (λ xs. (tt, refl)))
    stmt s (Print at x) = level_binds s.next _ (events.value_events tree locals x) (value x)
    stmt s (Task at name t spawn budget c) = level_binds s.next _ (events.stmt_events tree locals s (Task at name t spawn budget c)) (spawned s spawn budget c)
    stmt s (AwaitsAlone at name) = level_binds s.next _ (events.awaited tree locals name at) (awaited tree locals (number_in locals name.text) at)
    stmt s (CallsAlone at c) = level_binds s.next _ (events.call_events tree locals events.ByCall c) (call tree locals events.ByCall c)
    stmt s (Bare at b) = shut_binds s.next _ (events.block_events tree locals s b) (block s b)

    branches : (s : events.Around) (b : CoreBranches) → Shut s.next (events.branch_events tree locals s b)
    branches s NoElse = λ xs b. (tt, refl)
    branches s (Else x) = block s x
    branches s (BranchOf test body rest) = test_first s.next test (Either (events.block_events tree locals s body) (events.branch_events tree locals (events.behind_block body s) rest)) (two (block s body) (branches (events.behind_block body s) rest))
      where
        two : Shut s.next (events.block_events tree locals s body) → Shut (s.next + length (in_block body)) (events.branch_events tree locals (events.behind_block body s) rest) →
            Shut s.next (Either (events.block_events tree locals s body) (events.branch_events tree locals (events.behind_block body s) rest))
        two h k xs b =
            let p = h xs b in
            let q = k xs (below_up s.next (s.next + length (in_block body)) xs (omega arith) b) in
            ((p.0, p.1, q.0, q.1), refl)

    block : (s : events.Around) (b : CoreBlock) → Shut s.next (events.block_events tree locals s b)
    block s (BlockOf inner end) = shut (stmts (events.entered inner s) inner)
      where
        shut : Binds s.next (s.next + length (in_stmts inner)) (events.stmts_events tree locals (events.entered inner s) inner) → Shut s.next (events.block_events tree locals s (BlockOf inner end))
        shut h xs b =
            let p = h xs b in
            ((p.0, tt), ap (without_bindings s.next) p.1.2 ∙ ended s.next (s.next + length (in_stmts inner)) p.1.0 xs p.1.1 b)

    stmts : (s : events.Around) (xs : CoreStmts) → Binds s.next (s.next + length (in_stmts xs)) (events.stmts_events tree locals s xs)
    stmts s NoStmts = level_binds s.next _ (events.stmts_events tree locals s NoStmts) (λ xs. (tt, refl))
    stmts s (StmtOf x rest) = both (stmt s x) (stmts (events.behind x s) rest)
      where
        l : ℕ
        l = s.next + length (declared_in x)

        m : ℕ
        m = s.next + length (in_stmts (StmtOf x rest))

        same : l + length (in_stmts rest) ≡ m
        same = omega (arith, length-append (declared_in x) (in_stmts rest))

        both : Binds s.next l (events.stmt_events tree locals s x) → Binds l (l + length (in_stmts rest)) (events.stmts_events tree locals (events.behind x s) rest) →
            Binds s.next m (events.stmts_events tree locals s (StmtOf x rest))
        both h k xs b =
            let p = h xs b in
            let q = k (p.1.0 ++ xs) (below_with s.next l p.1.0 xs (omega arith) p.1.1 b) in (
              (p.0, subst (λ z. Steady opens (events.stmts_events tree locals (events.behind x s) rest) z) (sym p.1.2) q.0),
              (
                q.1.0 ++ p.1.0,
                subst (λ z. Among s.next z (q.1.0 ++ p.1.0)) same (among_both s.next l (l + length (in_stmts rest)) p.1.0 q.1.0 (omega arith) (omega arith) p.1.1 q.1.1),
                ap (behind opens (events.stmts_events tree locals (events.behind x s) rest)) p.1.2 ∙ (q.1.2 ∙ sym (append_assoc q.1.0 p.1.0 xs)),
              ),
            )

-- ---- bodies

entry_kind : (n : ℕ) (k : LocalKind) (name : Name) → Level (events.entry_event n k name)
entry_kind n (Passed conv.Set) name = λ xs. (tt, refl)
entry_kind n (Passed conv.Let) name = declared n name
entry_kind n (Passed conv.Inout) name = declared n name
entry_kind n (Passed conv.Sink) name = declared n name
entry_kind n Captured name = declared n name
entry_kind n VarBound name = declared n name
entry_kind n LetBound name = declared n name
entry_kind n InoutBound name = declared n name
entry_kind n Handle name = declared n name

entries : (n : ℕ) (ls : List Local) → Level (events.entry_events n ls)
entries n [] = λ xs. (tt, refl)
entries n (l ∷ ls) = one_then _ _ (entry_kind n l.kind l.name) (entries (suc n) ls)

pub body_steady : (tree : Core) (body : CoreBody) → Steady opens (events.body_events tree body) []
body_steady tree body =
    let p = entries 0 (entry_locals body) [] in
    let q = stmts tree (locals_of body) (events.body_around body) (core.stmts_in body.block) [] tt in
    (p.0, subst (λ z. Steady opens (Then (events.stmts_events tree (locals_of body) (events.body_around body) (core.stmts_in body.block)) (Do (events.body_end body (events.body_around body)))) z) (sym p.1) (q.0, tt))
