-- For each rule on events a trace that violates it, with the place, and beside it a trace of a neighbour that doesn't.
use Rattle.std.proofs.Common.{◌≡◌, ◌⊎◌, inl, inr, ℕ, zero, suc, pos, true, false, List, [], ◌∷◌, ◌++◌, Some, None, Contains, refl, sym, drop, codes, lit<, arith}
use Rattle.hv_tree.specs.declared.place.Place.{Place}
use Rattle.hv_tree.specs.declared.types.Conv.{Conv}
use Rattle.hv_tree.specs.declared.types.Conv.TheVariants as conv
use Rattle.hv_tree.specs.declared.refusal.Rule.{Rule}
use Rattle.hv_tree.specs.declared.refusal.Rule.TheVariants as rule
use Rattle.hv_tree.specs.Core.{Core, CoreFun, CoreParam, CoreTy, ArrayTy, Path, CoreSteps, NoSteps, IndexStep, CallOf, CoreArgs, NoArgs, ValueArg, RefArg, CoreStmt, Var, VarWith, Assign, ReturnWith, Print, Task, AwaitsAlone, CallsAlone}
use Rattle.hv_decls.specs.declared.path.StaticStep.TheVariants as static
use Rattle.hv_decls.specs.declared.path.StaticPath.{StaticPath}
use Rattle.hv_rules.specs.declared.event.FlowEvent.TheVariants as event
use Rattle.hv_decls.specs.Paths.{Overlap}
use Rattle.hv_decls.specs.Locals.{CoreBody, fun_body}
use Rattle.hv_decls.specs.Sites.{StmtPart, body_scope}
use Rattle.hv_rules.specs.Events.{Mark, mark, uses, inits, reads, writes, declaring, whole, ToEnd, body_events}
use Rattle.hv_rules.specs.States.{Access, fields_of, Spawned, Awaited, state_after, Writing, Reading}
use Rattle.hv_rules.specs.Rules.{Trace, Violates, IsViolatedIn, asks_whole, asks_free, asks_unwritten, HasHole, Clashes, ClashesWithChange, ViolatesS3, IsViolatedByEvents, at_task}
use Rattle.hv_rules.proofs.Runs.{run, run_front}
use Rattle.hv_decls.proofs.Programs.{o, at, name, name_at, fun, param, int, num, read, x, f, h, alone, two}

-- ---- traces and refutations

-- the events of the run that takes the first side each time, and no turn of a loop
abbrev pub events_of : Core → CoreFun → List Mark
events_of tree g = (run (body_events tree (fun_body g)) []).events

-- a trace whose last event doesn't violate the rule
pub record Clear (tree : Core) (body : CoreBody) (r : Rule) (before : List Mark) (last : Mark) : Type 0 where
  pub trace : Trace tree body (before ++ last ∷ [])
  pub clear : Violates tree body (state_after before) r last → ⊥

only : {A : Type 0} (a b : A) → Contains (a ∷ []) b → b ≡ a
only a b (zero, l, e) = sym e
only a b (suc k, l, e) = absurd (omega arith)

pub empty : {A : Type 0} (b : A) → Contains [] b → ⊥
empty b (k, l, e) = omega arith

-- in this function, behind these events, at the next one
module _ (tree : Core) (g : CoreFun) (before : List Mark) (last : Mark) (rest : List Mark) (runs : events_of tree g ≡ (before ++ last ∷ []) ++ rest) where
  violated : (r : Rule) → Violates tree (fun_body g) (state_after before) r last → IsViolatedIn tree (fun_body g) r last.place
  violated r v = record { before = before; last = last; trace = run_front (body_events tree (fun_body g)) [] (before ++ last ∷ []) rest runs; at = refl; violates = v }

  pub clear : (r : Rule) → (Violates tree (fun_body g) (state_after before) r last → ⊥) → Clear tree (fun_body g) r before last
  clear r not = record { trace = run_front (body_events tree (fun_body g)) [] (before ++ last ∷ []) rest runs; clear = not }

  no_hole : (p : StaticPath) → asks_whole last.event ≡ Some p → (HasHole tree (fun_body g) (state_after before) p.root (fields_of p.steps) → ⊥) → Clear tree (fun_body g) rule.I1 before last
  no_hole p e not = clear rule.I1 (λ v. let same : v.0 ≡ p = same_of v.0 v.1 in not (rw same at v.2))
    where
      same_of : (q : StaticPath) → asks_whole last.event ≡ Some q → q ≡ p
      same_of q f = cc

  no_clash : (p : StaticPath) → asks_free last.event last.belongs ≡ Some p → (Clashes tree (fun_body g) (state_after before) p → ⊥) → Clear tree (fun_body g) rule.X1 before last
  no_clash p e not = clear rule.X1 (λ v. let same : v.0 ≡ p = same_of v.0 v.1 in not (rw same at v.2))
    where
      same_of : (q : StaticPath) → asks_free last.event last.belongs ≡ Some q → q ≡ p
      same_of q f = cc

  no_change : (p : StaticPath) → asks_unwritten last.event ≡ Some p → (ClashesWithChange tree (fun_body g) (state_after before) p → ⊥) → Clear tree (fun_body g) rule.X2 before last
  no_change p e not = clear rule.X2 (λ v. let same : v.0 ≡ p = same_of v.0 v.1 in not (rw same at v.2))
    where
      same_of : (q : StaticPath) → asks_unwritten last.event ≡ Some q → q ≡ p
      same_of q f = cc

-- what events leave of the run
abbrev left_of : ℕ → Core → CoreFun → List Mark
left_of n tree g = drop n (events_of tree g)

-- ---- I1

-- `fun f() { var x: Int print(x) }`
abbrev unset : CoreFun
unset = fun f [] None (Var o (name x) int ∷ (Print o (Path (at 28) (name_at 28 x) NoSteps) ∷ [])) 31

i1_violated : IsViolatedIn (alone unset) (fun_body unset) rule.I1 (at 28)
i1_violated = violated (alone unset) unset (mark (event.Declare 0) o ∷ []) (uses (whole 0) (at 28)) (left_of 2 (alone unset) unset) refl rule.I1 (whole 0, refl, ([], (0, lit< tt, refl), refl, refl))

-- `fun f() { var x: Int = 1 print(x) }`
abbrev set_before : CoreFun
set_before = fun f [] None (VarWith o (name x) int (num 1) ∷ (Print o (Path (at 32) (name_at 32 x) NoSteps) ∷ [])) 35

i1_clear : Clear (alone set_before) (fun_body set_before) rule.I1 (mark (event.Declare 0) o ∷ (declaring 0 (event.Init (whole 0)) o ∷ [])) (uses (whole 0) (at 32))
i1_clear = no_hole (alone set_before) set_before (mark (event.Declare 0) o ∷ (declaring 0 (event.Init (whole 0)) o ∷ [])) (uses (whole 0) (at 32)) (left_of 3 (alone set_before) set_before) refl
    (whole 0) refl (λ w. let e : true ≡ false = w.3 in cc)

-- ---- I2

abbrev set_int : List CoreParam
set_int = param x conv.Set int ∷ []

-- `fun f(x: set Int) { }`
abbrev never_set : CoreFun
never_set = fun f set_int None [] 20

i2_violated : IsViolatedIn (alone never_set) (fun_body never_set) rule.I2 (at 20)
i2_violated = violated (alone never_set) never_set (mark (event.Declare 0) o ∷ []) (record { event = event.ScopeEnd 1; place = at 20; belongs = ToEnd (0 ∷ []) [] false }) [] refl rule.I2
    (0, (0, lit< tt, refl), ([], (0, lit< tt, refl), refl, refl))

-- `fun f(x: set Int) { &x = 1 }`
abbrev set_once : CoreFun
set_once = fun f set_int None (Assign o (name_at 21 x) NoSteps (num 1) ∷ []) 27

i2_clear : Clear (alone set_once) (fun_body set_once) rule.I2 (mark (event.Declare 0) o ∷ (inits (whole 0) (at 21) ∷ [])) (record { event = event.ScopeEnd 1; place = at 27; belongs = ToEnd (0 ∷ []) [] false })
i2_clear = clear (alone set_once) set_once (mark (event.Declare 0) o ∷ (inits (whole 0) (at 21) ∷ [])) (record { event = event.ScopeEnd 1; place = at 27; belongs = ToEnd (0 ∷ []) [] false }) [] refl rule.I2
    (λ v. let n : v.0 ≡ 0 = only 0 v.0 v.1 in by (rw n at v.2))
  where
    by : HasHole (alone set_once) (fun_body set_once) (state_after (mark (event.Declare 0) o ∷ (inits (whole 0) (at 21) ∷ []))) 0 [] → ⊥
    by w = let e : true ≡ false = w.3 in cc

-- ---- I3

-- `fun f() -> Int { }`
abbrev no_return : CoreFun
no_return = fun f [] (Some int) [] 17

i3_violated : IsViolatedIn (alone no_return) (fun_body no_return) rule.I3 (at 17)
i3_violated = violated (alone no_return) no_return [] (record { event = event.ScopeEnd 0; place = at 17; belongs = ToEnd [] [] true }) [] refl rule.I3 refl

-- `fun f() -> Int { return 1 }`
abbrev a_return : CoreFun
a_return = fun f [] (Some int) (ReturnWith (at 17) (num 1) ∷ []) 26

i3_clear : Clear (alone a_return) (fun_body a_return) rule.I3 [] (record { event = event.Return; place = at 17; belongs = ToEnd [] [] false })
i3_clear = clear (alone a_return) a_return [] (record { event = event.Return; place = at 17; belongs = ToEnd [] [] false }) [] refl rule.I3 (λ e. cc)

-- ---- X1

abbrev taking : Conv → Conv → CoreTy → CoreFun
taking c d t = fun f (param (codes "a") c t ∷ (param (codes "b") d t ∷ [])) None [] 9

abbrev ints : CoreTy
ints = ArrayTy o int

abbrev element : ℕ → CoreSteps
element n = IndexStep o (num n) NoSteps

abbrev element_path : ℕ → StaticPath
element_path n = record { root = 0; steps = static.Literal (pos n) ∷ [] }

-- `fun g(x: inout Int) { f(&x, &x) }`, where f has two `inout` parameters
abbrev twice : CoreFun
twice = fun (codes "g") (param x conv.Inout int ∷ []) None (CallsAlone o (CallOf (name f) NoSteps o (RefArg o (name_at 25 x) NoSteps (RefArg o (name_at 29 x) NoSteps NoArgs))) ∷ []) 32

x1_violated : IsViolatedIn (two (taking conv.Inout conv.Inout int) twice) (fun_body twice) rule.X1 (at 29)
x1_violated = violated (two (taking conv.Inout conv.Inout int) twice) twice
    (mark (event.Declare 0) o ∷ (declaring 0 (event.Init (whole 0)) o ∷ (writes (whole 0) (at 25) ∷ []))) (writes (whole 0) (at 29)) (left_of 4 (two (taking conv.Inout conv.Inout int) twice) twice) refl
    rule.X1 (whole 0, refl, (record { path = whole 0; mode = Writing; binding = None }, (0, lit< tt, refl), (refl, inl tt)))

-- `fun g(x: inout [Int]) { f(&x[0], &x[1]) }`
abbrev apart : CoreFun
apart = fun (codes "g") (param x conv.Inout ints ∷ []) None (CallsAlone o (CallOf (name f) NoSteps o (RefArg o (name_at 27 x) (element 0) (RefArg o (name_at 34 x) (element 1) NoArgs))) ∷ []) 40

x1_clear : Clear (two (taking conv.Inout conv.Inout int) apart) (fun_body apart) rule.X1
    (mark (event.Declare 0) o ∷ (declaring 0 (event.Init (whole 0)) o ∷ (writes (element_path 0) (at 27) ∷ []))) (writes (element_path 1) (at 34))
x1_clear = no_clash (two (taking conv.Inout conv.Inout int) apart) apart
    (mark (event.Declare 0) o ∷ (declaring 0 (event.Init (whole 0)) o ∷ (writes (element_path 0) (at 27) ∷ []))) (writes (element_path 1) (at 34)) (left_of 4 (two (taking conv.Inout conv.Inout int) apart) apart) refl
    (element_path 1) refl (λ w. let same : w.0 ≡ opened = only opened w.0 w.1 in by (rw same at w.2))
  where
    opened : Access
    opened = record { path = element_path 0; mode = Writing; binding = None }

    by : Overlap (element_path 1) (element_path 0) → ⊥
    by (e, inl q) = let n : pos 1 ≡ pos 0 = q.0 in cc
    by (e, inr q) = let n : pos 0 ≡ pos 1 = q.0 in cc

-- ---- X2

-- `fun g(x: inout Int) { f(&x, x) }`, where f has an `inout` and a `let` parameter
abbrev changed_and_read : CoreFun
changed_and_read = fun (codes "g") (param x conv.Inout int ∷ []) None (CallsAlone o (CallOf (name f) NoSteps o (RefArg o (name_at 25 x) NoSteps (ValueArg (Path (at 28) (name_at 28 x) NoSteps) NoArgs))) ∷ []) 31

x2_violated : IsViolatedIn (two (taking conv.Inout conv.Let int) changed_and_read) (fun_body changed_and_read) rule.X2 (at 28)
x2_violated = violated (two (taking conv.Inout conv.Let int) changed_and_read) changed_and_read
    (mark (event.Declare 0) o ∷ (declaring 0 (event.Init (whole 0)) o ∷ (writes (whole 0) (at 25) ∷ []))) (reads (whole 0) (at 28)) (left_of 4 (two (taking conv.Inout conv.Let int) changed_and_read) changed_and_read) refl
    rule.X2 (whole 0, refl, (record { path = whole 0; mode = Writing; binding = None }, (0, lit< tt, refl), (refl, inl tt), (λ e. cc)))

-- `fun g(x: inout Int) { f(x, x) }`, where both are `let`
abbrev read_twice : CoreFun
read_twice = fun (codes "g") (param x conv.Inout int ∷ []) None (CallsAlone o (CallOf (name f) NoSteps o (ValueArg (Path (at 24) (name_at 24 x) NoSteps) (ValueArg (Path (at 27) (name_at 27 x) NoSteps) NoArgs))) ∷ []) 30

x2_clear : Clear (two (taking conv.Let conv.Let int) read_twice) (fun_body read_twice) rule.X2
    (mark (event.Declare 0) o ∷ (declaring 0 (event.Init (whole 0)) o ∷ (reads (whole 0) (at 24) ∷ []))) (reads (whole 0) (at 27))
x2_clear = no_change (two (taking conv.Let conv.Let int) read_twice) read_twice
    (mark (event.Declare 0) o ∷ (declaring 0 (event.Init (whole 0)) o ∷ (reads (whole 0) (at 24) ∷ []))) (reads (whole 0) (at 27)) (left_of 4 (two (taking conv.Let conv.Let int) read_twice) read_twice) refl
    (whole 0) refl (λ w. let same : w.0 ≡ opened = only opened w.0 w.1 in w.3 (rw same refl))
  where
    opened : Access
    opened = record { path = whole 0; mode = Reading; binding = None }

-- ---- S1

abbrev child : CoreFun
child = fun f [] None [] 9

abbrev spawning : ℕ → CoreStmt
spawning n = Task o (name h) None (at n) (num 9) (CallOf (name f) NoSteps o NoArgs)

-- `fun g() { task h = spawn(9) f() }`
abbrev forgotten : CoreFun
forgotten = fun (codes "g") [] None (spawning 19 ∷ []) 32

s1_violated : IsViolatedIn (two child forgotten) (fun_body forgotten) rule.S1 (at 32)
s1_violated = violated (two child forgotten) forgotten (mark (event.Spawn 0) (at 19) ∷ []) (record { event = event.ScopeEnd 0; place = at 32; belongs = ToEnd [] (0 ∷ []) false }) [] refl rule.S1
    (0, (0, lit< tt, refl), refl)

-- `fun g() { task h = spawn(9) f() await h }`
abbrev waited : CoreFun
waited = fun (codes "g") [] None (spawning 19 ∷ (AwaitsAlone (at 32) (name h) ∷ [])) 40

s1_clear : Clear (two child waited) (fun_body waited) rule.S1 (mark (event.Spawn 0) (at 19) ∷ (mark (event.Await 0) (at 32) ∷ [])) (record { event = event.ScopeEnd 0; place = at 40; belongs = ToEnd [] (0 ∷ []) false })
s1_clear = clear (two child waited) waited (mark (event.Spawn 0) (at 19) ∷ (mark (event.Await 0) (at 32) ∷ [])) (record { event = event.ScopeEnd 0; place = at 40; belongs = ToEnd [] (0 ∷ []) false }) [] refl rule.S1
    (λ v. let n : v.0 ≡ 0 = only 0 v.0 v.1 in by (rw n at v.2))
  where
    by : (state_after (mark (event.Spawn 0) (at 19) ∷ (mark (event.Await 0) (at 32) ∷ []))).handles 0 ≡ Spawned → ⊥
    by e = let k : Awaited ≡ Spawned = e in cc

-- ---- S2

-- `fun g() { task h = spawn(9) f() await h await h }`
abbrev waited_twice : CoreFun
waited_twice = fun (codes "g") [] None (spawning 19 ∷ (AwaitsAlone (at 32) (name h) ∷ (AwaitsAlone (at 40) (name h) ∷ []))) 48

s2_violated : IsViolatedIn (two child waited_twice) (fun_body waited_twice) rule.S2 (at 40)
s2_violated = violated (two child waited_twice) waited_twice (mark (event.Spawn 0) (at 19) ∷ (mark (event.Await 0) (at 32) ∷ [])) (mark (event.Await 0) (at 40)) (left_of 3 (two child waited_twice) waited_twice) refl rule.S2
    (0, refl, refl)

s2_clear : Clear (two child waited_twice) (fun_body waited_twice) rule.S2 (mark (event.Spawn 0) (at 19) ∷ []) (mark (event.Await 0) (at 32))
s2_clear = clear (two child waited_twice) waited_twice (mark (event.Spawn 0) (at 19) ∷ []) (mark (event.Await 0) (at 32)) (left_of 2 (two child waited_twice) waited_twice) refl rule.S2
    (λ v. let n : v.0 ≡ 0 = same v.0 v.1 in by (rw n at v.2))
  where
    same : (n : ℕ) → event.Await 0 ≡ event.Await n → n ≡ 0
    same n e = cc

    by : (state_after (mark (event.Spawn 0) (at 19) ∷ [])).handles 0 ≡ Awaited → ⊥
    by e = let k : Spawned ≡ Awaited = e in cc

-- ---- S3

abbrev with_param : Conv → CoreFun
with_param c = fun f (param (codes "a") c int ∷ []) None [] 9

-- `task h = spawn(9) f(..)`, with the place of the callee
abbrev task_of : CoreArgs → CoreStmt
task_of args = Task o (name h) None o (num 9) (CallOf (name_at 28 f) NoSteps o args)

abbrev spawner : CoreArgs → CoreFun
spawner args = fun (codes "g") (param x conv.Inout int ∷ []) None (task_of args ∷ []) 40

-- where f has an `inout` parameter
s3_violated : IsViolatedByEvents (two (with_param conv.Inout) (spawner (RefArg o (name x) NoSteps NoArgs))) rule.S3 (at 28)
s3_violated = at_task (record { scope = body_scope (fun_body (spawner (RefArg o (name x) NoSteps NoArgs))); part = StmtPart (task_of (RefArg o (name x) NoSteps NoArgs)) }) refl
    (0, lit< tt, refl) (refl, conv.Inout, (0, lit< tt, refl), inl refl)

-- where f has a `sink` parameter
s3_clear : (place : Place) → ViolatesS3 (two (with_param conv.Sink) (spawner (ValueArg (read x) NoArgs))) (body_scope (fun_body (spawner (ValueArg (read x) NoArgs)))) (StmtPart (task_of (ValueArg (read x) NoArgs))) place → ⊥
s3_clear place (e, c, among, changes) = let same : c ≡ conv.Sink = only conv.Sink c among in by c same changes
  where
    by : (c : Conv) → c ≡ conv.Sink → (c ≡ conv.Inout) ⊎ (c ≡ conv.Set) → ⊥
    by c e (inl k) = cc
    by c e (inr k) = cc
