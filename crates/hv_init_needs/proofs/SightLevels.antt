-- What each part of a body leaves in sight, by the text, whatever run is taken.
use Rattle.std.proofs.Common.{◌≡◌, ℕ, suc, ◌+◌, ◌<◌, ◌≤◌, nat_lt, Bool, true, false, if◌then◌else◌, length, List, [], ◌∷◌, refl, sym, ◌∙◌, ap, subst, length-append, arith}
use Rattle.std.proofs.lemmas.Bool.Decides.{nat_tests}
use Rattle.hv_tree.specs.declared.place.Place.{Place}
use Rattle.hv_tree.specs.declared.types.Name.{Name}
use Rattle.hv_tree.specs.declared.types.Conv.TheVariants as conv
use Rattle.hv_tree.specs.Core.{Core, CoreExpr, CoreSteps, CoreCall, CoreBlock, BlockOf, CoreBranches, NoElse, Else, BranchOf, CoreStmts, NoStmts, StmtOf, CoreStmt, Var, VarWith, Let, Inout, Assign, If, While, Return, ReturnWith, Print, Task, AwaitsAlone, CallsAlone, Bare}
use Rattle.hv_rules.specs.declared.event.FlowEvent.TheVariants as event
use Rattle.hv_rules.specs.Flow.{Do, Then, Either}
use Rattle.hv_decls.specs.Locals.{LocalKind, Captured, Passed, VarBound, LetBound, InoutBound, Handle, Local, CoreBody, entry_locals, locals_of, declared_in, in_block, in_stmts}
use Rattle.hv_rules.specs.Events as events
use Rattle.hv_tree.specs.Core as core
use Rattle.hv_flow_traces.specs.Carried.{behind, Steady}
use Rattle.hv_init_needs.specs.Sight.{declared_before, sees}
use Rattle.hv_init_needs.specs.Ordered.{Below}
use Rattle.hv_init_needs.proofs.Around.{stmt_sight, stmts_sight, entry_sight, entries_sight}
use Rattle.hv_init_needs.proofs.Calm.{IsCalm, Calm, calm, calm_then, calm_inits, may_calm}
use Rattle.hv_init_needs.proofs.Calm as each

-- ---- what was declared before

pub below_up : (n m : ℕ) (ks : List ℕ) → n ≤ m → Below n ks → Below m ks
below_up n m [] h b = tt
below_up n m (k ∷ ks) h b = (omega (arith, h, b.0), below_up n m ks h b.1)

below_more : (n m : ℕ) (ks : List ℕ) → n < m → Below n ks → Below m (n ∷ ks)
below_more n m ks h b = (h, below_up n m ks (omega (arith, h)) b)

is_before : (n k : ℕ) → k < n → nat_lt k n ≡ true
is_before n k h = grind (arith, nat_tests)

isn't_before : (n k : ℕ) → n ≤ k → nat_lt k n ≡ false
isn't_before n k h = grind (arith, nat_tests)

-- what was declared before stays
pub kept : (n : ℕ) (ks : List ℕ) → Below n ks → declared_before n ks ≡ ks
kept n [] b = refl
kept n (k ∷ ks) b = by (nat_lt k n) (is_before n k b.0) (kept n ks b.1)
  where
    by : (t : Bool) → t ≡ true → declared_before n ks ≡ ks → (if t then k ∷ declared_before n ks else declared_before n ks) ≡ k ∷ ks
    by true e h = ap (λ w. k ∷ w) h
    by false e h = cc

-- and what wasn't goes
dropped : (n k : ℕ) (ks : List ℕ) → n ≤ k → declared_before n (k ∷ ks) ≡ declared_before n ks
dropped n k ks h = by (nat_lt k n) (isn't_before n k h)
  where
    by : (t : Bool) → t ≡ false → (if t then k ∷ declared_before n ks else declared_before n ks) ≡ declared_before n ks
    by true e = cc
    by false e = refl

pub stmt_below : (n : ℕ) (x : CoreStmt) (ks : List ℕ) → Below n ks → Below (n + length (declared_in x)) (stmt_sight n x ks)
stmt_below n (Var at name t) ks b = below_up n (n + 1) ks (omega arith) b
stmt_below n (VarWith at name t x) ks b = below_more n (n + 1) ks (omega arith) b
stmt_below n (Let at name t x) ks b = below_more n (n + 1) ks (omega arith) b
stmt_below n (Inout at name t root steps) ks b = below_more n (n + 1) ks (omega arith) b
stmt_below n (Assign at root steps x) ks b = below_up n (n + 0) ks (omega arith) b
stmt_below n (If at branches) ks b = below_up n (n + length (declared_in (If at branches))) ks (omega arith) b
stmt_below n (While at test body) ks b = below_up n (n + length (declared_in (While at test body))) ks (omega arith) b
stmt_below n (Return at) ks b = below_up n (n + 0) ks (omega arith) b
stmt_below n (ReturnWith at x) ks b = below_up n (n + 0) ks (omega arith) b
stmt_below n (Print at x) ks b = below_up n (n + 0) ks (omega arith) b
stmt_below n (Task at name t spawn budget call) ks b = below_up n (n + 1) ks (omega arith) b
stmt_below n (AwaitsAlone at name) ks b = below_up n (n + 0) ks (omega arith) b
stmt_below n (CallsAlone at call) ks b = below_up n (n + 0) ks (omega arith) b
stmt_below n (Bare at block) ks b = below_up n (n + length (in_block block)) ks (omega arith) b

pub stmts_below : (n : ℕ) (xs : CoreStmts) (ks : List ℕ) → Below n ks → Below (n + length (in_stmts xs)) (stmts_sight n xs ks)
stmts_below n NoStmts ks b = below_up n (n + 0) ks (omega arith) b
stmts_below n (StmtOf x rest) ks b =
    subst (λ m. Below m (stmts_sight n (StmtOf x rest) ks)) same
    (stmts_below (n + length (declared_in x)) rest (stmt_sight n x ks) (stmt_below n x ks b))
  where
    same : (n + length (declared_in x)) + length (in_stmts rest) ≡ n + length (in_stmts (StmtOf x rest))
    same = omega (arith, length-append (declared_in x) (in_stmts rest))

-- a statement adds only what it declares
stmt_drops : (n m : ℕ) (x : CoreStmt) (ks : List ℕ) → n ≤ m → declared_before n (stmt_sight m x ks) ≡ declared_before n ks
stmt_drops n m (Var at name t) ks h = refl
stmt_drops n m (VarWith at name t x) ks h = dropped n m ks h
stmt_drops n m (Let at name t x) ks h = dropped n m ks h
stmt_drops n m (Inout at name t root steps) ks h = dropped n m ks h
stmt_drops n m (Assign at root steps x) ks h = refl
stmt_drops n m (If at branches) ks h = refl
stmt_drops n m (While at test body) ks h = refl
stmt_drops n m (Return at) ks h = refl
stmt_drops n m (ReturnWith at x) ks h = refl
stmt_drops n m (Print at x) ks h = refl
stmt_drops n m (Task at name t spawn budget call) ks h = refl
stmt_drops n m (AwaitsAlone at name) ks h = refl
stmt_drops n m (CallsAlone at call) ks h = refl
stmt_drops n m (Bare at block) ks h = refl

stmts_drop : (n m : ℕ) (xs : CoreStmts) (ks : List ℕ) → n ≤ m → declared_before n (stmts_sight m xs ks) ≡ declared_before n ks
stmts_drop n m NoStmts ks h = refl
stmts_drop n m (StmtOf x rest) ks h =
    stmts_drop n (m + length (declared_in x)) rest (stmt_sight m x ks) (omega (arith, h)) ∙ stmt_drops n m x ks h

-- so the end of a block leaves what was there before it
pub block_drops : (n : ℕ) (xs : CoreStmts) (ks : List ℕ) → Below n ks → declared_before n (stmts_sight n xs ks) ≡ ks
block_drops n xs ks b = stmts_drop n n xs ks (omega arith) ∙ kept n ks b

-- ---- flows

-- where n locals are declared before the flow, all runs leave this in sight
abbrev pub Leads : ℕ → events.Events → (List ℕ → List ℕ) → Type 0
Leads n f to = (ks : List ℕ) → Below n ks → Steady sees f ks × (behind sees f ks ≡ to ks)

abbrev Keeps : ℕ → events.Events → Type 0
Keeps n f = Leads n f (λ ks. ks)

calm_keeps : (n : ℕ) (f : events.Events) → Calm f → Keeps n f
calm_keeps n f h ks b = h ks

calm_first : (n : ℕ) (a f : events.Events) (to : List ℕ → List ℕ) → Calm a → Leads n f to → Leads n (Then a f) to
calm_first n a f to h g ks b =
    let p = h ks in
    let q = g ks b in
    ((p.0, subst (λ z. Steady sees f z) (sym p.1) q.0), ap (behind sees f) p.1 ∙ q.1)

pub declared_level : (n : ℕ) (name : Name) → Leads n (events.declared n name) (λ ks. n ∷ ks)
declared_level n name ks b = ((tt, tt), ap (λ w. n ∷ w) (ap (declared_before n) (kept n ks b) ∙ kept n ks b))

-- ---- statements

module _ (tree : Core) (locals : List Local) where
  value : (x : CoreExpr) → Calm (events.value_events tree locals x)
  value x = calm (events.value_events tree locals x) (each.value IsCalm may_calm tree locals x)

  call : (w : events.Way) (c : CoreCall) → Calm (events.call_events tree locals w c)
  call w c = calm (events.call_events tree locals w c) (each.call IsCalm may_calm tree locals w c)

  looped : (s : events.Around) (at : Place) (test : CoreExpr) (body : CoreBlock) → Keeps s.next (events.block_events tree locals s body) → Keeps s.next (events.stmt_events tree locals s (While at test body))
  looped s at test body h ks b =
      let p = calm_first s.next (events.value_events tree locals test) (events.block_events tree locals s body) (λ ks. ks) (value test) h ks b in
      let q = value test ks in
      (((p.0, p.1), q.0), q.1)

  spawned : (s : events.Around) (at : Place) (budget : CoreExpr) (c : CoreCall) →
      Calm (Then (events.value_events tree locals budget) (Then (events.call_events tree locals events.BySpawn c) (Do (events.mark (event.Spawn s.next) at))))
  spawned s at budget c =
      calm_then (events.value_events tree locals budget) (Then (events.call_events tree locals events.BySpawn c) (Do (events.mark (event.Spawn s.next) at))) (value budget)
      (calm_then (events.call_events tree locals events.BySpawn c) (Do (events.mark (event.Spawn s.next) at)) (call events.BySpawn c) (λ ks. (tt, refl)))

  assigned : (root : Name) (steps : CoreSteps) → Calm (events.place_events tree locals events.inits root steps)
  assigned root steps = calm (events.place_events tree locals events.inits root steps) (each.place IsCalm may_calm tree locals events.inits root steps calm_inits)

  mutual
    pub stmt_level : (s : events.Around) (x : CoreStmt) → Leads s.next (events.stmt_events tree locals s x) (stmt_sight s.next x)
    stmt_level s (Var at name t) = λ ks b. (tt, kept s.next ks b)
    stmt_level s (VarWith at name t x) = calm_first s.next (events.value_events tree locals x) (events.declared s.next name) (λ ks. s.next ∷ ks) (value x) (declared_level s.next name)
    stmt_level s (Let at name t x) =
        calm_first s.next (events.expr_events tree locals (λ p root. events.declaring s.next (event.OpenRead p) root) x) (events.declared s.next name) (λ ks. s.next ∷ ks)
        (calm (events.expr_events tree locals (λ p root. events.declaring s.next (event.OpenRead p) root) x) (each.expr IsCalm may_calm tree locals (λ p root. events.declaring s.next (event.OpenRead p) root) x (λ p at ks. refl)))
        (declared_level s.next name)
    stmt_level s (Inout at name t root steps) =
        calm_first s.next (events.place_events tree locals (λ p r. events.declaring s.next (event.OpenWrite p) r) root steps) (events.declared s.next name) (λ ks. s.next ∷ ks)
        (calm (events.place_events tree locals (λ p r. events.declaring s.next (event.OpenWrite p) r) root steps) (each.place IsCalm may_calm tree locals (λ p r. events.declaring s.next (event.OpenWrite p) r) root steps (λ p at ks. refl)))
        (declared_level s.next name)
    stmt_level s (Assign at root steps x) =
        calm_keeps s.next (events.stmt_events tree locals s (Assign at root steps x))
        (calm_then (events.value_events tree locals x) (events.place_events tree locals events.inits root steps) (value x) (assigned root steps))
    stmt_level s (If at bs) = branches_level s bs
    stmt_level s (While at test body) = looped s at test body (block_level s body)
    stmt_level s (Return at) = λ ks b. (tt, refl)
    stmt_level s (ReturnWith at x) = calm_first s.next (events.value_events tree locals x) (events.return_at tree locals s at) (λ ks. ks) (value x) (λ ks b. (tt, refl))
    stmt_level s (Print at x) = calm_keeps s.next (events.value_events tree locals x) (value x)
    stmt_level s (Task at name t spawn budget c) = calm_keeps s.next (events.stmt_events tree locals s (Task at name t spawn budget c)) (spawned s spawn budget c)
    stmt_level s (AwaitsAlone at name) = calm_keeps s.next (events.awaited tree locals name at) (calm (events.awaited tree locals name at) (each.awaited IsCalm may_calm tree locals name at))
    stmt_level s (CallsAlone at c) = calm_keeps s.next (events.call_events tree locals events.ByCall c) (call events.ByCall c)
    stmt_level s (Bare at b) = block_level s b

    pub branches_level : (s : events.Around) (b : CoreBranches) → Leads s.next (events.branch_events tree locals s b) (λ ks. ks)
    branches_level s NoElse = λ ks b. (tt, refl)
    branches_level s (Else x) = block_level s x
    branches_level s (BranchOf test body rest) =
        calm_first s.next (events.value_events tree locals test) (Either (events.block_events tree locals s body) (events.branch_events tree locals (events.behind_block body s) rest)) (λ ks. ks) (value test)
        (two (block_level s body) (branches_level (events.behind_block body s) rest))
      where
        two : Keeps s.next (events.block_events tree locals s body) → Keeps (s.next + length (in_block body)) (events.branch_events tree locals (events.behind_block body s) rest) →
            Keeps s.next (Either (events.block_events tree locals s body) (events.branch_events tree locals (events.behind_block body s) rest))
        two h k ks b =
            let p = h ks b in
            let q = k ks (below_up s.next (s.next + length (in_block body)) ks (omega arith) b) in
            ((p.0, p.1, q.0, q.1), refl)

    pub block_level : (s : events.Around) (b : CoreBlock) → Leads s.next (events.block_events tree locals s b) (λ ks. ks)
    block_level s (BlockOf inner end) = shut (stmts_level (events.entered inner s) inner)
      where
        shut : Leads s.next (events.stmts_events tree locals (events.entered inner s) inner) (stmts_sight s.next inner) → Keeps s.next (events.block_events tree locals s (BlockOf inner end))
        shut h ks b =
            let p = h ks b in
            ((p.0, tt), ap (declared_before s.next) p.1 ∙ block_drops s.next inner ks b)

    pub stmts_level : (s : events.Around) (xs : CoreStmts) → Leads s.next (events.stmts_events tree locals s xs) (stmts_sight s.next xs)
    stmts_level s NoStmts = λ ks b. (tt, refl)
    stmts_level s (StmtOf x rest) = both (stmt_level s x) (stmts_level (events.behind x s) rest)
      where
        both : Leads s.next (events.stmt_events tree locals s x) (stmt_sight s.next x) → Leads (s.next + length (declared_in x)) (events.stmts_events tree locals (events.behind x s) rest) (stmts_sight (s.next + length (declared_in x)) rest) →
            Leads s.next (events.stmts_events tree locals s (StmtOf x rest)) (stmts_sight s.next (StmtOf x rest))
        both h k ks b =
            let p = h ks b in
            let q = k (stmt_sight s.next x ks) (stmt_below s.next x ks b) in
            ((p.0, subst (λ z. Steady sees (events.stmts_events tree locals (events.behind x s) rest) z) (sym p.1) q.0), ap (behind sees (events.stmts_events tree locals (events.behind x s) rest)) p.1 ∙ q.1)

-- ---- bodies

pub entry_level : (n : ℕ) (k : LocalKind) (name : Name) → Leads n (events.entry_event n k name) (entry_sight n k)
entry_level n (Passed conv.Set) name = λ ks b. (tt, kept n ks b)
entry_level n (Passed conv.Let) name = declared_level n name
entry_level n (Passed conv.Inout) name = declared_level n name
entry_level n (Passed conv.Sink) name = declared_level n name
entry_level n Captured name = declared_level n name
entry_level n VarBound name = declared_level n name
entry_level n LetBound name = declared_level n name
entry_level n InoutBound name = declared_level n name
entry_level n Handle name = declared_level n name

pub entry_below : (n : ℕ) (k : LocalKind) (ks : List ℕ) → Below n ks → Below (suc n) (entry_sight n k ks)
entry_below n (Passed conv.Set) ks b = below_up n (suc n) ks (omega arith) b
entry_below n (Passed conv.Let) ks b = below_more n (suc n) ks (omega arith) b
entry_below n (Passed conv.Inout) ks b = below_more n (suc n) ks (omega arith) b
entry_below n (Passed conv.Sink) ks b = below_more n (suc n) ks (omega arith) b
entry_below n Captured ks b = below_more n (suc n) ks (omega arith) b
entry_below n VarBound ks b = below_more n (suc n) ks (omega arith) b
entry_below n LetBound ks b = below_more n (suc n) ks (omega arith) b
entry_below n InoutBound ks b = below_more n (suc n) ks (omega arith) b
entry_below n Handle ks b = below_more n (suc n) ks (omega arith) b

pub entries_level : (n : ℕ) (ls : List Local) (ks : List ℕ) → Below n ks →
    Steady sees (events.entry_events n ls) ks × (behind sees (events.entry_events n ls) ks ≡ entries_sight n ls ks) × Below (n + length ls) (entries_sight n ls ks)
entries_level n [] ks b = (tt, refl, below_up n (n + 0) ks (omega arith) b)
entries_level n (l ∷ ls) ks b =
    let p = entry_level n l.kind l.name ks b in
    let q = entries_level (suc n) ls (entry_sight n l.kind ks) (entry_below n l.kind ks b) in (
      (p.0, subst (λ z. Steady sees (events.entry_events (suc n) ls) z) (sym p.1) q.0),
      ap (behind sees (events.entry_events (suc n) ls)) p.1 ∙ q.1,
      below_up (suc n + length ls) (n + suc (length ls)) (entries_sight (suc n) ls (entry_sight n l.kind ks)) (omega arith) q.2,
    )

pub body_level : (tree : Core) (body : CoreBody) → Steady sees (events.body_events tree body) []
body_level tree body =
    let n = length (entry_locals body) in
    let p = entries_level 0 (entry_locals body) [] tt in
    let q = stmts_level tree (locals_of body) (events.body_around body) (core.stmts_in body.block) (entries_sight 0 (entry_locals body) []) (below_up (0 + n) n (entries_sight 0 (entry_locals body) []) (omega arith) p.2) in
    (p.0, subst (λ z. Steady sees (Then (events.stmts_events tree (locals_of body) (events.body_around body) (core.stmts_in body.block)) (Do (events.body_end body (events.body_around body)))) z) (sym p.1) (q.0, tt))
