-- No declaration gives a value to a `set` parameter.
use Rattle.std.proofs.Common.{◌≡◌, ◌≢◌, ◌⊎◌, inl, inr, ℕ, suc, ◌+◌, ◌==◌, ◌<◌, ◌≤◌, Bool, true, false, ◌||◌, length, List, [], ◌∷◌, ◌++◌, map, refl, sym, ap, subst, arith}
use Rattle.std.specs.List.{list_any}
use Rattle.std.proofs.lemmas.Bool.Decides.{nat_tests}
use Rattle.hv_tree.specs.declared.types.Name.{Name}
use Rattle.hv_tree.specs.declared.types.Conv.TheVariants as conv
use Rattle.hv_tree.specs.Core.{Core, CoreBlock, BlockOf, CoreBranches, NoElse, Else, BranchOf, CoreStmts, NoStmts, StmtOf, CoreStmt, Var, VarWith, Let, Inout, Assign, If, While, Return, ReturnWith, Print, Task, AwaitsAlone, CallsAlone, Bare}
use Rattle.hv_rules.specs.declared.event.FlowEvent.TheVariants as event
use Rattle.hv_rules.specs.Flow.{Skip, Do, Stop, Then, Either, Loop}
use Rattle.hv_decls.specs.Locals.{LocalKind, Captured, Passed, VarBound, LetBound, InoutBound, Handle, Local, CoreBody, entry_locals, locals_of}
use Rattle.hv_rules.specs.Events as events
use Rattle.hv_tree.specs.Core as core
use Rattle.hv_rules.specs.States.{binding_of}
use Rattle.hv_flow_traces.specs.Carried.{behind, carrying}
use Rattle.hv_init_needs.specs.Sight.{seen_at, text_of, sees}
use Rattle.hv_init_needs.specs.Needs.{gives, gives_at, text_in}
use Rattle.hv_init_needs.proofs.Each.{Each}
use Rattle.hv_init_needs.proofs.Calm.{MayDo}
use Rattle.hv_init_needs.proofs.Calm as each

-- ---- flows

-- the mark isn't one by which a declaration gives local k a value
abbrev pub GivesNot : ℕ → events.Mark → Type 0
GivesNot k m = gives m.event (binding_of m.belongs) k ≡ false

neither : (k : ℕ) (xs ys : List (events.Mark × List ℕ)) → list_any (gives_at k) (map seen_at xs) ≡ false → list_any (gives_at k) (map seen_at ys) ≡ false →
    list_any (gives_at k) (map seen_at (xs ++ ys)) ≡ false
neither k [] ys e f = f
neither k (x ∷ xs) ys e f = by (gives_at k (seen_at x)) e (λ h. neither k xs ys h f)
  where
    by : (b : Bool) → (b || list_any (gives_at k) (map seen_at xs)) ≡ false → (list_any (gives_at k) (map seen_at xs) ≡ false → list_any (gives_at k) (map seen_at (xs ++ ys)) ≡ false) →
        (b || list_any (gives_at k) (map seen_at (xs ++ ys))) ≡ false
    by true e h = cc
    by false e h = h e

alone : (k : ℕ) (m : events.Mark) (ks : List ℕ) → GivesNot k m → list_any (gives_at k) (map seen_at ((m, ks) ∷ [])) ≡ false
alone k m ks e = ap (λ b. b || false) e

-- what is in sight doesn't count
pub none_gives : (k : ℕ) (f : events.Events) (ks : List ℕ) → Each (GivesNot k) f → list_any (gives_at k) (map seen_at (text_of (carrying sees f ks))) ≡ false
none_gives k Skip ks h = refl
none_gives k (Do m) ks h = alone k m ks h
none_gives k (Stop m) ks h = alone k m ks h
none_gives k (Then a b) ks h = neither k (text_of (carrying sees a ks)) (text_of (carrying sees b (behind sees a ks))) (none_gives k a ks h.0) (none_gives k b (behind sees a ks) h.1)
none_gives k (Either a b) ks h = neither k (text_of (carrying sees a ks)) (text_of (carrying sees b ks)) (none_gives k a ks h.0) (none_gives k b ks h.1)
none_gives k (Loop a) ks h = none_gives k a ks h

-- ---- statements

may_give : (k : ℕ) → MayDo (GivesNot k)
may_give k = record {
  uses = λ p at. refl;
  moves = λ p at. refl;
  reads = λ p at. refl;
  writes = λ p at. refl;
  sets = λ p at. refl;
  closes = λ at. refl;
  awaits = λ h at. refl;
}

another : (n k : ℕ) → k ≢ n → (n == k) ≡ false
another n k h = grind (arith, nat_tests)

-- the declaration of another local
declared_gives : (k n : ℕ) (name : Name) → k ≢ n → Each (GivesNot k) (events.declared n name)
declared_gives k n name h = (refl, another n k h)

apart : (k n : ℕ) → k < n → k ≢ n
apart k n h e = omega (arith, h, e)

-- of a local that is declared before
module _ (tree : Core) (locals : List Local) (k : ℕ) where
  mutual
    pub stmt_gives : (s : events.Around) (x : CoreStmt) → k < s.next → Each (GivesNot k) (events.stmt_events tree locals s x)
    stmt_gives s (Var at name t) h = refl
    stmt_gives s (VarWith at name t x) h = (each.value (GivesNot k) (may_give k) tree locals x, declared_gives k s.next name (apart k s.next h))
    stmt_gives s (Let at name t x) h = (
      each.expr (GivesNot k) (may_give k) tree locals (λ p root. events.declaring s.next (event.OpenRead p) root) x (λ p at. refl),
      declared_gives k s.next name (apart k s.next h),
    )
    stmt_gives s (Inout at name t root steps) h = (
      each.place (GivesNot k) (may_give k) tree locals (λ p r. events.declaring s.next (event.OpenWrite p) r) root steps (λ p at. refl),
      declared_gives k s.next name (apart k s.next h),
    )
    stmt_gives s (Assign at root steps x) h = (each.value (GivesNot k) (may_give k) tree locals x, each.place (GivesNot k) (may_give k) tree locals events.inits root steps (λ p at. refl))
    stmt_gives s (If at branches) h = branches_give s branches h
    stmt_gives s (While at test body) h =
        ((each.value (GivesNot k) (may_give k) tree locals test, block_gives s body h), each.value (GivesNot k) (may_give k) tree locals test)
    stmt_gives s (Return at) h = refl
    stmt_gives s (ReturnWith at x) h = (each.value (GivesNot k) (may_give k) tree locals x, refl)
    stmt_gives s (Print at x) h = each.value (GivesNot k) (may_give k) tree locals x
    stmt_gives s (Task at name t spawn budget call) h =
        (each.value (GivesNot k) (may_give k) tree locals budget, (each.call (GivesNot k) (may_give k) tree locals events.BySpawn call, refl))
    stmt_gives s (AwaitsAlone at name) h = each.awaited (GivesNot k) (may_give k) tree locals name at
    stmt_gives s (CallsAlone at call) h = each.call (GivesNot k) (may_give k) tree locals events.ByCall call
    stmt_gives s (Bare at block) h = block_gives s block h

    pub branches_give : (s : events.Around) (b : CoreBranches) → k < s.next → Each (GivesNot k) (events.branch_events tree locals s b)
    branches_give s NoElse h = tt
    branches_give s (Else block) h = block_gives s block h
    branches_give s (BranchOf test body rest) h =
        (each.value (GivesNot k) (may_give k) tree locals test, (block_gives s body h, branches_give (events.behind_block body s) rest (omega (arith, h))))

    pub block_gives : (s : events.Around) (b : CoreBlock) → k < s.next → Each (GivesNot k) (events.block_events tree locals s b)
    block_gives s (BlockOf stmts end) h = (stmts_give (events.entered stmts s) stmts h, refl)

    pub stmts_give : (s : events.Around) (xs : CoreStmts) → k < s.next → Each (GivesNot k) (events.stmts_events tree locals s xs)
    stmts_give s NoStmts h = tt
    stmts_give s (StmtOf x rest) h = (stmt_gives s x h, stmts_give (events.behind x s) rest (omega (arith, h)))

-- ---- captures and parameters

-- local k is a `set` parameter of the list, whose first has number n
abbrev pub IsSetOf : ℕ → List Local → ℕ → Type 0
IsSetOf n [] k = ⊥
IsSetOf n (l ∷ ls) k = ((n ≡ k) × (l.kind ≡ Passed conv.Set)) ⊎ IsSetOf (suc n) ls k

set_within : (n : ℕ) (ls : List Local) (k : ℕ) → IsSetOf n ls k → (n ≤ k) × (k < n + length ls)
set_within n [] k h = absurd h
set_within n (l ∷ ls) k (inl h) = (omega (arith, h.0), omega (arith, h.0))
set_within n (l ∷ ls) k (inr h) = let w = set_within (suc n) ls k h in (omega (arith, w.0), omega (arith, w.1))

entry_gives : (k n : ℕ) (kind : LocalKind) (name : Name) → k ≢ n → Each (GivesNot k) (events.entry_event n kind name)
entry_gives k n (Passed conv.Set) name h = refl
entry_gives k n (Passed conv.Let) name h = declared_gives k n name h
entry_gives k n (Passed conv.Inout) name h = declared_gives k n name h
entry_gives k n (Passed conv.Sink) name h = declared_gives k n name h
entry_gives k n Captured name h = declared_gives k n name h
entry_gives k n VarBound name h = declared_gives k n name h
entry_gives k n LetBound name h = declared_gives k n name h
entry_gives k n InoutBound name h = declared_gives k n name h
entry_gives k n Handle name h = declared_gives k n name h

later_give : (k n : ℕ) (ls : List Local) → k < n → Each (GivesNot k) (events.entry_events n ls)
later_give k n [] h = tt
later_give k n (l ∷ ls) h = (entry_gives k n l.kind l.name (apart k n h), later_give k (suc n) ls (omega (arith, h)))

set_gives : (k n : ℕ) (kind : LocalKind) (name : Name) → kind ≡ Passed conv.Set → Each (GivesNot k) (events.entry_event n kind name)
set_gives k n kind name e = subst (λ z. Each (GivesNot k) (events.entry_event n z name)) (sym e) refl

entries_give : (k n : ℕ) (ls : List Local) → IsSetOf n ls k → Each (GivesNot k) (events.entry_events n ls)
entries_give k n [] h = absurd h
entries_give k n (l ∷ ls) (inl h) = (set_gives k n l.kind l.name h.1, later_give k (suc n) ls (omega (arith, h.0)))
entries_give k n (l ∷ ls) (inr h) = (entry_gives k n l.kind l.name (λ e. omega (arith, e, (set_within (suc n) ls k h).0)), entries_give k (suc n) ls h)

-- ---- bodies

pub set_isn't_given : (tree : Core) (body : CoreBody) (k : ℕ) → IsSetOf 0 (entry_locals body) k → list_any (gives_at k) (text_in tree body) ≡ false
set_isn't_given tree body k h =
    none_gives k (events.body_events tree body) []
    (entries_give k 0 (entry_locals body) h, (stmts_give tree (locals_of body) k (events.body_around body) (core.stmts_in body.block) within, refl))
  where
    within : k < length (entry_locals body)
    within = omega (arith, (set_within 0 (entry_locals body) k h).1)
