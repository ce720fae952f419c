-- What is written back at an end is in sight there.
use Rattle.std.proofs.Common.{◌≡◌, ◌⊎◌, inl, inr, ℕ, suc, ◌+◌, ◌==◌, Bool, true, false, if◌then◌else◌, ◌||◌, length, List, [], ◌∷◌, ◌++◌, Contains, refl, sym, ap, subst, arith}
use Rattle.std.specs.Prelude.{⊤}
use Rattle.std.specs.List.{list_any}
use Rattle.std.proofs.lemmas.Bool.Decides.{nat_tests}
use Rattle.hv_tree.specs.declared.place.Place.{Place}
use Rattle.hv_tree.specs.declared.types.Name.{Name}
use Rattle.hv_tree.specs.declared.types.Conv.TheVariants as conv
use Rattle.hv_tree.specs.Core.{Core, CoreExpr, CoreBlock, BlockOf, CoreBranches, NoElse, Else, BranchOf, CoreStmts, NoStmts, StmtOf, CoreStmt, Var, VarWith, Let, Inout, Assign, If, While, Return, ReturnWith, Print, Task, AwaitsAlone, CallsAlone, Bare}
use Rattle.hv_rules.specs.declared.event.FlowEvent.TheVariants as event
use Rattle.hv_rules.specs.Flow.{Flow, Skip, Do, Stop, Then, Either, Loop}
use Rattle.hv_decls.specs.Locals.{LocalKind, Captured, Passed, VarBound, LetBound, InoutBound, Handle, Local, CoreBody, entry_locals, locals_of, declared_in, in_block, binds}
use Rattle.hv_rules.specs.Events as events
use Rattle.hv_tree.specs.Core as core
use Rattle.hv_rules.specs.Rules.{back_at}
use Rattle.hv_lemmas.proofs.Members.{Among, listed}
use Rattle.hv_flow_traces.specs.Carried.{behind, carrying}
use Rattle.hv_init_needs.specs.Sight.{sees, seen_in}
use Rattle.hv_init_needs.specs.Needs.{is_in, gives_at, text_in}
use Rattle.hv_init_needs.proofs.Each.{Each}
use Rattle.hv_init_needs.specs.Ordered.{Below}
use Rattle.hv_init_needs.proofs.Around.{stmt_sight, stmts_sight, entry_sight, entries_sight}
use Rattle.hv_init_needs.proofs.Calm.{MayDo, IsCalm, Calm, calm, may_calm}
use Rattle.hv_init_needs.proofs.Calm as each
use Rattle.hv_init_needs.proofs.SightLevels.{below_up, stmt_below, stmt_level, stmts_level, entries_level}
use Rattle.hv_init_needs.proofs.Gives.{IsSetOf, set_isn't_given}

-- ---- numbers in a list

first_in : (k : ℕ) (ks : List ℕ) → is_in (k ∷ ks) k ≡ true
first_in k ks = ap (λ b. b || is_in ks k) same
  where
    same : (k == k) ≡ true
    same = grind (arith, nat_tests)

still_in : (n k : ℕ) (ks : List ℕ) → is_in ks k ≡ true → is_in (n ∷ ks) k ≡ true
still_in n k ks h = by (n == k) h
  where
    by : (b : Bool) → is_in ks k ≡ true → (b || is_in ks k) ≡ true
    by true e = refl
    by false e = e

-- ---- flows

-- nothing is written back at the mark
abbrev pub IsBackless : events.Mark → Type 0
IsBackless m = back_at m.belongs ≡ []

may_back : MayDo IsBackless
may_back = record {
  uses = λ p at. refl;
  moves = λ p at. refl;
  reads = λ p at. refl;
  writes = λ p at. refl;
  sets = λ p at. refl;
  closes = λ at. refl;
  awaits = λ h at. refl;
}

pub each_map : {E : Type 0} (P Q : E → Type 0) (f : Flow E) → ((e : E) → P e → Q e) → Each P f → Each Q f
each_map P Q Skip g h = tt
each_map P Q (Do e) g h = g e h
each_map P Q (Stop e) g h = g e h
each_map P Q (Then a b) g h = (each_map P Q a g h.0, each_map P Q b g h.1)
each_map P Q (Either a b) g h = (each_map P Q a g h.0, each_map P Q b g h.1)
each_map P Q (Loop a) g h = each_map P Q a g h

-- U holds of locals to which no declaration gives a value
module _ (U : ℕ → Type 0) where
  -- the local is in sight, or no declaration gives it a value
  abbrev pub Backed : List ℕ → ℕ → Type 0
  Backed ks k = (is_in ks k ≡ true) ⊎ U k

  -- each local that is written back is so
  abbrev pub BackSeen : events.Mark × List ℕ → Type 0
  BackSeen p = (k : ℕ) → Contains (back_at p.0.belongs) k → Backed p.1 k

  -- each local of a list is so
  abbrev pub AllBacked : List ℕ → List ℕ → Type 0
  AllBacked ks [] = ⊤
  AllBacked ks (b ∷ bs) = Backed ks b × AllBacked ks bs

  among_backed : (ks bs : List ℕ) (k : ℕ) → AllBacked ks bs → Among bs k → Backed ks k
  among_backed ks [] k a h = absurd h
  among_backed ks (b ∷ bs) k a (inl e) = subst (Backed ks) e a.0
  among_backed ks (b ∷ bs) k a (inr h) = among_backed ks bs k a.1 h

  all_seen : (m : events.Mark) (ks : List ℕ) → AllBacked ks (back_at m.belongs) → BackSeen (m, ks)
  all_seen m ks a k c = among_backed ks (back_at m.belongs) k a (listed (back_at m.belongs) k c)

  both_backed : (ks bs cs : List ℕ) → AllBacked ks bs → AllBacked ks cs → AllBacked ks (bs ++ cs)
  both_backed ks [] cs a h = h
  both_backed ks (b ∷ bs) cs a h = (a.0, both_backed ks bs cs a.1 h)

  still_backed : (n k : ℕ) (ks : List ℕ) → Backed ks k → Backed (n ∷ ks) k
  still_backed n k ks (inl e) = inl (still_in n k ks e)
  still_backed n k ks (inr u) = inr u

  more_backed : (n : ℕ) (ks bs : List ℕ) → AllBacked ks bs → AllBacked (n ∷ ks) bs
  more_backed n ks [] a = tt
  more_backed n ks (b ∷ bs) a = (still_backed n b ks a.0, more_backed n ks bs a.1)

  -- where nothing is written back
  backless : (m : events.Mark) (ks : List ℕ) → IsBackless m → BackSeen (m, ks)
  backless m ks e = all_seen m ks (subst (AllBacked ks) (sym e) tt)

  quiet_seen : (f : events.Events) (ks : List ℕ) → Each IsBackless f → Each BackSeen (carrying sees f ks)
  quiet_seen Skip ks h = tt
  quiet_seen (Do m) ks h = backless m ks h
  quiet_seen (Stop m) ks h = backless m ks h
  quiet_seen (Then a b) ks h = (quiet_seen a ks h.0, quiet_seen b (behind sees a ks) h.1)
  quiet_seen (Either a b) ks h = (quiet_seen a ks h.0, quiet_seen b ks h.1)
  quiet_seen (Loop a) ks h = quiet_seen a ks h

  -- ---- what a statement leaves in sight

  -- it takes nothing away
  stmt_backed : (n : ℕ) (x : CoreStmt) (ks bs : List ℕ) → AllBacked ks bs → AllBacked (stmt_sight n x ks) bs
  stmt_backed n (Var at name t) ks bs a = a
  stmt_backed n (VarWith at name t x) ks bs a = more_backed n ks bs a
  stmt_backed n (Let at name t x) ks bs a = more_backed n ks bs a
  stmt_backed n (Inout at name t root steps) ks bs a = more_backed n ks bs a
  stmt_backed n (Assign at root steps x) ks bs a = a
  stmt_backed n (If at branches) ks bs a = a
  stmt_backed n (While at test body) ks bs a = a
  stmt_backed n (Return at) ks bs a = a
  stmt_backed n (ReturnWith at x) ks bs a = a
  stmt_backed n (Print at x) ks bs a = a
  stmt_backed n (Task at name t spawn budget call) ks bs a = a
  stmt_backed n (AwaitsAlone at name) ks bs a = a
  stmt_backed n (CallsAlone at call) ks bs a = a
  stmt_backed n (Bare at block) ks bs a = a

  stmts_backed : (n : ℕ) (xs : CoreStmts) (ks bs : List ℕ) → AllBacked ks bs → AllBacked (stmts_sight n xs ks) bs
  stmts_backed n NoStmts ks bs a = a
  stmts_backed n (StmtOf x rest) ks bs a = stmts_backed (n + length (declared_in x)) rest (stmt_sight n x ks) bs (stmt_backed n x ks bs a)

  -- what it declares to be written back is in sight
  bound_backed : (n : ℕ) (x : CoreStmt) (ks : List ℕ) → AllBacked (stmt_sight n x ks) (events.if_kind events.is_written_back n (binds x))
  bound_backed n (Var at name t) ks = tt
  bound_backed n (VarWith at name t x) ks = tt
  bound_backed n (Let at name t x) ks = tt
  bound_backed n (Inout at name t root steps) ks = (inl (first_in n ks), tt)
  bound_backed n (Assign at root steps x) ks = tt
  bound_backed n (If at branches) ks = tt
  bound_backed n (While at test body) ks = tt
  bound_backed n (Return at) ks = tt
  bound_backed n (ReturnWith at x) ks = tt
  bound_backed n (Print at x) ks = tt
  bound_backed n (Task at name t spawn budget call) ks = tt
  bound_backed n (AwaitsAlone at name) ks = tt
  bound_backed n (CallsAlone at call) ks = tt
  bound_backed n (Bare at block) ks = tt

  -- and stays so to the end of the block
  own_backed : (n : ℕ) (xs : CoreStmts) (ks : List ℕ) → AllBacked (stmts_sight n xs ks) (events.own events.is_written_back n xs)
  own_backed n NoStmts ks = tt
  own_backed n (StmtOf x rest) ks =
      both_backed (stmts_sight n (StmtOf x rest) ks) (events.if_kind events.is_written_back n (binds x)) (events.own events.is_written_back (n + length (declared_in x)) rest)
      (stmts_backed (n + length (declared_in x)) rest (stmt_sight n x ks) (events.if_kind events.is_written_back n (binds x)) (bound_backed n x ks))
      (own_backed (n + length (declared_in x)) rest (stmt_sight n x ks))

  -- ---- statements

  module _ (tree : Core) (locals : List Local) where
    -- the flow, wherever what stands around it is in sight
    abbrev Sees : events.Around → events.Events → Type 0
    Sees s f = (ks : List ℕ) → Below s.next ks → AllBacked ks s.back → Each BackSeen (carrying sees f ks)

    quiet_first : (s : events.Around) (a f : events.Events) → Each IsBackless a → Calm a → Sees s f → Sees s (Then a f)
    quiet_first s a f h c g ks b back = (quiet_seen a ks h, subst (λ z. Each BackSeen (carrying sees f z)) (sym (c ks).1) (g ks b back))

    value : (x : CoreExpr) → Each IsBackless (events.value_events tree locals x)
    value x = each.value IsBackless may_back tree locals x

    value_calm : (x : CoreExpr) → Calm (events.value_events tree locals x)
    value_calm x = calm (events.value_events tree locals x) (each.value IsCalm may_calm tree locals x)

    returned : (s : events.Around) (at : Place) → Sees s (events.return_at tree locals s at)
    returned s at ks b a = all_seen (record { event = event.Return; place = at; belongs = events.ToEnd s.back s.handles false }) ks a

    looped : (s : events.Around) (test : CoreExpr) (body : CoreBlock) → Sees s (events.block_events tree locals s body) →
        Sees s (Then (Loop (Then (events.value_events tree locals test) (events.block_events tree locals s body))) (events.value_events tree locals test))
    looped s test body h ks b a =
        (quiet_first s (events.value_events tree locals test) (events.block_events tree locals s body) (value test) (value_calm test) h ks b a, quiet_seen (events.value_events tree locals test) ks (value test))

    mutual
      pub stmt_backs : (s : events.Around) (x : CoreStmt) → Sees s (events.stmt_events tree locals s x)
      stmt_backs s (Var at name t) = λ ks b a. backless (events.mark (event.Declare s.next) name.place) ks refl
      stmt_backs s (VarWith at name t x) = λ ks b a. quiet_seen (events.stmt_events tree locals s (VarWith at name t x)) ks (value x, (refl, refl))
      stmt_backs s (Let at name t x) = λ ks b a.
          quiet_seen (events.stmt_events tree locals s (Let at name t x)) ks
          (each.expr IsBackless may_back tree locals (λ p root. events.declaring s.next (event.OpenRead p) root) x (λ p at. refl), (refl, refl))
      stmt_backs s (Inout at name t root steps) = λ ks b a.
          quiet_seen (events.stmt_events tree locals s (Inout at name t root steps)) ks
          (each.place IsBackless may_back tree locals (λ p r. events.declaring s.next (event.OpenWrite p) r) root steps (λ p at. refl), (refl, refl))
      stmt_backs s (Assign at root steps x) = λ ks b a.
          quiet_seen (events.stmt_events tree locals s (Assign at root steps x)) ks (value x, each.place IsBackless may_back tree locals events.inits root steps (λ p at. refl))
      stmt_backs s (If at branches) = branches_back s branches
      stmt_backs s (While at test body) = looped s test body (block_backs s body)
      stmt_backs s (Return at) = returned s at
      stmt_backs s (ReturnWith at x) = quiet_first s (events.value_events tree locals x) (events.return_at tree locals s at) (value x) (value_calm x) (returned s at)
      stmt_backs s (Print at x) = λ ks b a. quiet_seen (events.value_events tree locals x) ks (value x)
      stmt_backs s (Task at name t spawn budget call) = λ ks b a.
          quiet_seen (events.stmt_events tree locals s (Task at name t spawn budget call)) ks (value budget, (each.call IsBackless may_back tree locals events.BySpawn call, refl))
      stmt_backs s (AwaitsAlone at name) = λ ks b a. quiet_seen (events.awaited tree locals name at) ks (each.awaited IsBackless may_back tree locals name at)
      stmt_backs s (CallsAlone at call) = λ ks b a. quiet_seen (events.call_events tree locals events.ByCall call) ks (each.call IsBackless may_back tree locals events.ByCall call)
      stmt_backs s (Bare at block) = block_backs s block

      pub branches_back : (s : events.Around) (b : CoreBranches) → Sees s (events.branch_events tree locals s b)
      branches_back s NoElse = λ ks b a. tt
      branches_back s (Else block) = block_backs s block
      branches_back s (BranchOf test body rest) =
          quiet_first s (events.value_events tree locals test) (Either (events.block_events tree locals s body) (events.branch_events tree locals (events.behind_block body s) rest)) (value test) (value_calm test)
          (two (block_backs s body) (branches_back (events.behind_block body s) rest))
        where
          two : Sees s (events.block_events tree locals s body) → Sees (events.behind_block body s) (events.branch_events tree locals (events.behind_block body s) rest) →
              Sees s (Either (events.block_events tree locals s body) (events.branch_events tree locals (events.behind_block body s) rest))
          two h k ks b a = (h ks b a, k ks (below_up s.next (s.next + length (in_block body)) ks (omega arith) b) a)

      pub block_backs : (s : events.Around) (b : CoreBlock) → Sees s (events.block_events tree locals s b)
      block_backs s (BlockOf inner end) = shut (stmts_back (events.entered inner s) inner)
        where
          ends : (ks : List ℕ) → Each BackSeen (carrying sees (events.scope_end tree locals s inner end) (stmts_sight s.next inner ks))
          ends ks =
              all_seen (record { event = event.ScopeEnd s.next; place = end; belongs = events.ToEnd (events.own events.is_written_back s.next inner) (events.own events.is_handle s.next inner) false }) (stmts_sight s.next inner ks)
              (own_backed s.next inner ks)

          shut : Sees (events.entered inner s) (events.stmts_events tree locals (events.entered inner s) inner) → Sees s (events.block_events tree locals s (BlockOf inner end))
          shut h ks b a = (h ks b a, subst (λ z. Each BackSeen (carrying sees (events.scope_end tree locals s inner end) z)) (sym (stmts_level tree locals (events.entered inner s) inner ks b).1) (ends ks))

      pub stmts_back : (s : events.Around) (xs : CoreStmts) → Sees s (events.stmts_events tree locals s xs)
      stmts_back s NoStmts = λ ks b a. tt
      stmts_back s (StmtOf x rest) = both (stmt_backs s x) (stmts_back (events.behind x s) rest)
        where
          both : Sees s (events.stmt_events tree locals s x) → Sees (events.behind x s) (events.stmts_events tree locals (events.behind x s) rest) → Sees s (events.stmts_events tree locals s (StmtOf x rest))
          both h k ks b a = (
            h ks b a,
            subst (λ z. Each BackSeen (carrying sees (events.stmts_events tree locals (events.behind x s) rest) z)) (sym (stmt_level tree locals s x ks b).1)
                (k (stmt_sight s.next x ks) (stmt_below s.next x ks b)
                (both_backed (stmt_sight s.next x ks) (events.if_kind events.is_written_back s.next (binds x)) s.back (bound_backed s.next x ks) (stmt_backed s.next x ks s.back a))),
          )

  -- ---- bodies

  entry_backless : (n : ℕ) (kind : LocalKind) (name : Name) → Each IsBackless (events.entry_event n kind name)
  entry_backless n (Passed conv.Set) name = refl
  entry_backless n (Passed conv.Let) name = (refl, refl)
  entry_backless n (Passed conv.Inout) name = (refl, refl)
  entry_backless n (Passed conv.Sink) name = (refl, refl)
  entry_backless n Captured name = (refl, refl)
  entry_backless n VarBound name = (refl, refl)
  entry_backless n LetBound name = (refl, refl)
  entry_backless n InoutBound name = (refl, refl)
  entry_backless n Handle name = (refl, refl)

  entries_backless : (n : ℕ) (ls : List Local) → Each IsBackless (events.entry_events n ls)
  entries_backless n [] = tt
  entries_backless n (l ∷ ls) = (entry_backless n l.kind l.name, entries_backless (suc n) ls)

  entry_backed : (n : ℕ) (kind : LocalKind) (ks bs : List ℕ) → AllBacked ks bs → AllBacked (entry_sight n kind ks) bs
  entry_backed n (Passed conv.Set) ks bs a = a
  entry_backed n (Passed conv.Let) ks bs a = more_backed n ks bs a
  entry_backed n (Passed conv.Inout) ks bs a = more_backed n ks bs a
  entry_backed n (Passed conv.Sink) ks bs a = more_backed n ks bs a
  entry_backed n Captured ks bs a = more_backed n ks bs a
  entry_backed n VarBound ks bs a = more_backed n ks bs a
  entry_backed n LetBound ks bs a = more_backed n ks bs a
  entry_backed n InoutBound ks bs a = more_backed n ks bs a
  entry_backed n Handle ks bs a = more_backed n ks bs a

  entries_backed : (n : ℕ) (ls : List Local) (ks bs : List ℕ) → AllBacked ks bs → AllBacked (entries_sight n ls ks) bs
  entries_backed n [] ks bs a = a
  entries_backed n (l ∷ ls) ks bs a = entries_backed (suc n) ls (entry_sight n l.kind ks) bs (entry_backed n l.kind ks bs a)

  -- an `inout` parameter is in sight, and a `set` parameter has no value from its declaration
  kind_backed : (n : ℕ) (kind : LocalKind) (ks : List ℕ) → (kind ≡ Passed conv.Set → U n) → AllBacked (entry_sight n kind ks) (if events.is_written_back kind then n ∷ [] else [])
  kind_backed n (Passed conv.Set) ks u = (inr (u refl), tt)
  kind_backed n (Passed conv.Let) ks u = tt
  kind_backed n (Passed conv.Inout) ks u = (inl (first_in n ks), tt)
  kind_backed n (Passed conv.Sink) ks u = tt
  kind_backed n Captured ks u = tt
  kind_backed n VarBound ks u = tt
  kind_backed n LetBound ks u = tt
  kind_backed n InoutBound ks u = (inl (first_in n ks), tt)
  kind_backed n Handle ks u = tt

  params_backed : (n : ℕ) (ls : List Local) (ks : List ℕ) → ((k : ℕ) → IsSetOf n ls k → U k) → AllBacked (entries_sight n ls ks) (events.kind_from events.is_written_back n ls)
  params_backed n [] ks u = tt
  params_backed n (l ∷ ls) ks u =
      both_backed (entries_sight n (l ∷ ls) ks) (if events.is_written_back l.kind then n ∷ [] else []) (events.kind_from events.is_written_back (suc n) ls)
      (entries_backed (suc n) ls (entry_sight n l.kind ks) (if events.is_written_back l.kind then n ∷ [] else []) (kind_backed n l.kind ks (λ e. u n (inl (refl, e)))))
      (params_backed (suc n) ls (entry_sight n l.kind ks) (λ k h. u k (inr h)))

  -- where no declaration gives a value to a `set` parameter
  pub body_backs : (tree : Core) (body : CoreBody) → ((k : ℕ) → IsSetOf 0 (entry_locals body) k → U k) → Each BackSeen (seen_in tree body)
  body_backs tree body u = (
    quiet_seen (events.entry_events 0 (entry_locals body)) [] (entries_backless 0 (entry_locals body)),
    subst (λ z. Each BackSeen (carrying sees rest z)) (sym entered.0) (stmts, subst (λ z. Each BackSeen (carrying sees last z)) (sym left) ends),
  )
    where
      n : ℕ
      n = length (entry_locals body)

      s : events.Around
      s = events.body_around body

      inner : CoreStmts
      inner = core.stmts_in body.block

      ks : List ℕ
      ks = entries_sight 0 (entry_locals body) []

      last : events.Events
      last = Do (events.body_end body s)

      rest : events.Events
      rest = Then (events.stmts_events tree (locals_of body) s inner) last

      entered : (behind sees (events.entry_events 0 (entry_locals body)) [] ≡ ks) × Below n ks
      entered = let p = entries_level 0 (entry_locals body) [] tt in (p.1, below_up (0 + n) n ks (omega arith) p.2)

      around : AllBacked ks s.back
      around = params_backed 0 (entry_locals body) [] u

      stmts : Each BackSeen (carrying sees (events.stmts_events tree (locals_of body) s inner) ks)
      stmts = stmts_back tree (locals_of body) s inner ks entered.1 around

      left : behind sees (events.stmts_events tree (locals_of body) s inner) ks ≡ stmts_sight n inner ks
      left = (stmts_level tree (locals_of body) s inner ks entered.1).1

      ends : BackSeen (events.body_end body s, stmts_sight n inner ks)
      ends =
          all_seen (events.body_end body s) (stmts_sight n inner ks)
          (both_backed (stmts_sight n inner ks) (events.own events.is_written_back n inner) s.back (own_backed n inner ks) (stmts_backed n inner ks s.back around))

-- ---- the local that a declaration gives a value is in sight where it is written back

abbrev pub IsSeenBack : Core → CoreBody → events.Mark × List ℕ → Type 0
IsSeenBack tree body p = (k : ℕ) → Contains (back_at p.0.belongs) k → list_any (gives_at k) (text_in tree body) ≡ true → is_in p.1 k ≡ true

pub backs_are_seen : (tree : Core) (body : CoreBody) → Each (λ (p : events.Mark × List ℕ). (k : ℕ) → Contains (back_at p.0.belongs) k → list_any (gives_at k) (text_in tree body) ≡ true → is_in p.1 k ≡ true) (seen_in tree body)
backs_are_seen tree body =
    each_map (BackSeen Without) (IsSeenBack tree body) (seen_in tree body) (λ p h k c g. by (is_in p.1 k) (list_any (gives_at k) (text_in tree body)) (h k c) g)
    (body_backs Without tree body (λ k h. set_isn't_given tree body k h))
  where
    Without : ℕ → Type 0
    Without k = list_any (gives_at k) (text_in tree body) ≡ false

    by : (i t : Bool) → (i ≡ true) ⊎ (t ≡ false) → t ≡ true → i ≡ true
    by i t (inl e) g = e
    by i true (inr e) g = cc
    by i false (inr e) g = cc
